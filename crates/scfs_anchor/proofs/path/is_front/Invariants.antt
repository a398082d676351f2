use Rattle.std.proofs.Common.{◌≡◌, length}
use Rattle.scfs_anchor.specs.Names.{is_proper_prefix}
use Rattle.scfs_anchor.proofs.path.is_front.Given as goal

abbrev pub invariant-loop-first : goal.invariant-loop-first
invariant-loop-first l = is_proper_prefix l.above l.names ≡ is_proper_prefix l.fn.above l.fn.names

abbrev pub decreases-loop-first : goal.decreases-loop-first
decreases-loop-first l = length l.above

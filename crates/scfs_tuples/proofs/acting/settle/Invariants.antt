use Rattle.std.proofs.Common.{◌≡◌, length}
use Rattle.scfs_tuples.specs.Search.{standing}
use Rattle.scfs_tuples.proofs.acting.settle.Given as goal

abbrev pub invariant-each : goal.invariant-each
invariant-each l = standing l.gone l.left ≡ standing l.initial.gone l.initial.left

abbrev pub decreases-each : goal.decreases-each
decreases-each l = length l.gone.keys

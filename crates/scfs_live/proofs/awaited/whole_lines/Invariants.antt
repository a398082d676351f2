use Rattle.std.proofs.Common.{◌≡◌, ◌++◌, length}
use Rattle.scfs_live.specs.Keeping.{whole_lines}
use Rattle.scfs_live.proofs.awaited.whole_lines.Given as goal

abbrev pub invariant-lines : goal.invariant-lines
invariant-lines l = whole_lines l.text ≡ l.lines ++ whole_lines l.rest

abbrev pub decreases-lines : goal.decreases-lines
decreases-lines l = length l.rest

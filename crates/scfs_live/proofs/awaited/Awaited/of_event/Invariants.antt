use Rattle.std.proofs.Common.{◌≡◌, map, take}
use Rattle.scfs_live.specs.Keeping.{made_line}
use Rattle.scfs_live.proofs.awaited.Awaited.of_event.Given as goal

abbrev pub invariant-loop-line : goal.invariant-loop-line
invariant-loop-line l = l.made ≡ map (made_line l.number) (take l.line-index l.lines)

use Rattle.std.proofs.Common.{◌≡◌, ◌++◌, take}
use Rattle.std.specs.List.{flat_map}
use Rattle.scfs_live.specs.Keeping.{ended_kept}
use Rattle.scfs_live.proofs.awaited.push_kept.Given as goal

abbrev pub invariant-loop-line : goal.invariant-loop-line
invariant-loop-line l = l.text ≡ l.initial.text ++ flat_map ended_kept (take l.line-index l.lines)

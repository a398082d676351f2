use Rattle.std.proofs.Common.{◌≡◌, ◌++◌, take}
use Rattle.std.specs.List.{flat_map}
use Rattle.scfs_schedule.specs.Text.{numbered}
use Rattle.scfs_top.proofs.waiting.push_lines.Given as goal

abbrev pub invariant-loop-line : goal.invariant-loop-line
invariant-loop-line l = l.text ≡ l.initial.text ++ flat_map (numbered l.number) (take l.line-index l.lines)

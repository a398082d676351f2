use Rattle.std.proofs.Common.{◌≡◌, take}
use Rattle.std.specs.List.{flat_map}
use Rattle.scfs_schedule.specs.Text.{numbered}
use Rattle.scfs_live.proofs.recording.shown_text.Given as goal

abbrev pub invariant-lines : goal.invariant-lines
invariant-lines l = l.text ≡ flat_map (numbered l.number) (take l.line-index l.lines)

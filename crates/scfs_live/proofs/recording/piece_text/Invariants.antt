use Rattle.std.proofs.Common.{◌≡◌, ◌++◌, ◌∷◌, take}
use Rattle.std.specs.List.{flat_map}
use Rattle.scfs_schedule.specs.Text.{event_text}
use Rattle.scfs_live.specs.Journal.{kept_line}
use Rattle.scfs_live.proofs.recording.piece_text.Given as goal

abbrev pub invariant-lines : goal.invariant-lines
invariant-lines l = l.text ≡ event_text l.fn.event ++ 10 ∷ flat_map (kept_line l.number) (take l.line-index l.lines)

use Rattle.std.specs.Prelude.{List, [], ◌∷◌, map}
use Rattle.scfs_policy.specs.declared.rank.RankFacts.{RankFacts}
use Rattle.scfs_schedule.specs.declared.types.Event.{Event}
use Rattle.scfs_schedule.specs.declared.types.Line.{Line}
use Rattle.scfs_model.specs.Format.{Setup}
use Rattle.scfs_model.specs.History.{Entry, History}
use Rattle.scfs_model.specs.Layers.{rows}
use Rattle.scfs_model.specs.Runs.{due, made, effect_after}
use Rattle.scfs_model.specs.Clouds.{net, message_of}

-- The lines of a schedule, computed from the definitions; the rank rule answers with the number of bad answers.

abbrev pub entry_of : Setup → History → Event → Entry
entry_of s past event =
    let bare : Entry = record { event = event; lines = []; ranks = []; message = message_of (net s past) event } in
    let e : Entry = record bare { ranks = map (λ (x : RankFacts). x.bad) (effect_after s rows past bare).ranked } in
    record e { lines = made s past e }

abbrev pub played : Setup → History → List Event → History
played s past [] = past
played s past (event ∷ events) = played s (entry_of s past event ∷ past) events

-- the lines of each event, in order
abbrev pub lines_then : History → List (List Line) → List (List Line)
lines_then [] rest = rest
lines_then (e ∷ past) rest = lines_then past (e.lines ∷ rest)

abbrev pub lines_of : Setup → List Event → List (List Line)
lines_of s events = lines_then (played s [] events) []

-- the lines that the file map demands of each event of a history, in order
abbrev pub due_then : Setup → History → List (List Line) → List (List Line)
due_then s [] rest = rest
due_then s (e ∷ past) rest = due_then s past (due s past e ∷ rest)

abbrev pub due_of : Setup → List Event → List (List Line)
due_of s events = due_then s (played s [] events) []

use Rattle.std.specs.Prelude.{◌<◌, ℕ, List, [], ◌∷◌}
use Rattle.scfs_base.specs.Limits.{carried_limit}
use Rattle.scfs_policy.specs.declared.rank.RankFacts.{RankFacts}
use Rattle.scfs_schedule.specs.declared.types.Event.{Event}
use Rattle.scfs_schedule.specs.declared.types.Header.{Header}
use Rattle.scfs_model.specs.Clouds.{net, message_of}
use Rattle.scfs_model.specs.Format.{Setup}
use Rattle.scfs_model.specs.History.{Entry, History}
use Rattle.scfs_model.specs.Layers.{rows}
use Rattle.scfs_model.specs.Runs.{Answers, effect_after, made}
use Rattle.scfs_model.specs.UnitFormat.{under}

-- the entry of an event that comes after a history, where the rank rule gives these answers
abbrev pub entry_after : Setup → History → Event → (ranks : List ℕ) → Entry
entry_after s past event ranks =
    let quiet : Entry = record { event = event; lines = []; ranks = ranks; message = message_of (net s past) event } in
    record quiet { lines = made s past quiet }

-- the next event would carry more bytes than the limit, where the rank rule may answer so
abbrev pub IsTooLargeNext : (allows : RankFacts → ℕ → Type 0) → Header → History → Event → Type 0
IsTooLargeNext allows header past event =
    (ranks : List ℕ) × Answers allows (effect_after (under header) rows past (entry_after (under header) past event ranks)).ranked ranks
    × (carried_limit < (net (under header) (entry_after (under header) past event ranks ∷ past)).carried)

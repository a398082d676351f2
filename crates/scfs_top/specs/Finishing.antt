use Rattle.std.specs.Prelude.{◌≡◌, ◌⊎◌, ℕ, List, [], ◌∷◌, Option, Some, None}
use Rattle.scfs_policy.specs.declared.rank.RankFacts.{RankFacts}
use Rattle.scfs_schedule.specs.declared.types.Event.{Event}
use Rattle.scfs_schedule.specs.declared.types.Header.{Header}
use Rattle.scfs_model.specs.History.{History, events_then}
use Rattle.scfs_live.specs.TooLarge.{IsTooLargeNext}
use Rattle.scfs_top.specs.declared.closing.Finish.{Finish}
use Rattle.scfs_top.specs.declared.closing.Finish.TheVariants as finishes
use Rattle.scfs_top.specs.Playing.{Playing}

-- How a history ends what is played of a text. With a finish: it has all its events, and the text's finish; or its next event would
-- carry too many bytes. With none, where writing failed or memory was wanting: it has the first of them.
abbrev pub EndsWith : (allows : RankFacts → ℕ → Type 0) → Header → History → Playing → Option Finish → Type 0
EndsWith allows header past playing (Some finish) =
    ((events_then past [] ≡ playing.events) × (finish ≡ playing.finish))
    ⊎ ((finish ≡ finishes.Objects)
    × ((event : Event) × (rest : List Event) × (events_then past (event ∷ rest) ≡ playing.events) × IsTooLargeNext allows header past event))
EndsWith allows header past playing None = (rest : List Event) × (events_then past rest ≡ playing.events)

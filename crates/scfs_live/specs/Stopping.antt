-- How driving stops before its end, behind new events: what was written and what was asked by then, and why.
use Rattle.std.specs.Prelude.{◌≡◌, ◌⊎◌, ℕ, List, ◌++◌, length, Option, Result, Ok}
use Rattle.scfs_base.specs.Limits.{events_limit}
use Rattle.scfs_base.specs.declared.cloud.CloudAnswer.{CloudAnswer}
use Rattle.scfs_base.specs.declared.outside.Memory.{Memory}
use Rattle.scfs_policy.specs.declared.rank.RankFacts.{RankFacts}
use Rattle.scfs_schedule.specs.declared.types.Event.{Event}
use Rattle.scfs_schedule.specs.declared.types.Header.{Header}
use Rattle.scfs_schedule.specs.declared.types.Which.TheVariants as whiches
use Rattle.scfs_model.specs.Clouds.{net}
use Rattle.scfs_model.specs.Format.{Setup}
use Rattle.scfs_model.specs.History.{History}
use Rattle.scfs_model.specs.UnitFormat.{under}
use Rattle.scfs_live.specs.Asked.{AreAsked, Told}
use Rattle.scfs_live.specs.Driven.{answer_in}
use Rattle.scfs_live.specs.Driving.{event_of}
use Rattle.scfs_live.specs.Hearing.{Heard}
use Rattle.scfs_live.specs.Recording.{ShowedPart, WroteAll, WrotePart}
use Rattle.scfs_live.specs.TooLarge.{IsTooLargeNext}
use Rattle.scfs_live.specs.declared.driver.Next.{Next}
use Rattle.scfs_live.specs.declared.ending.LiveEnd.{LiveEnd}
use Rattle.scfs_live.specs.declared.ending.LiveEnd.TheVariants as ends

-- what journal and out got of the new events
abbrev pub StopWrites : LiveEnd → (j j' o o' : Option (List ℕ)) → (new past : History) → Type 0
StopWrites (ends.WriteFault whiches.Journal) j j' o o' new past = WrotePart j j' o o' new past
StopWrites (ends.WriteFault whiches.Out) j j' o o' new past = ShowedPart j j' o o' new past
StopWrites (ends.TooLarge whiches.Events) j j' o o' new past = WroteAll j j' o o' new past
StopWrites (ends.TooLarge whiches.Objects) j j' o o' new past = WroteAll j j' o o' new past
StopWrites ends.Memory j j' o o' new past = WroteAll j j' o o' new past
StopWrites other j j' o o' new past = ⊥

-- the clouds were asked what new events record; and then, if a cloud is heard for what comes next, that one was asked, with this result
pub record AskedNext (s : Setup) (new past : History) (next : Next) (result : Result CloudAnswer Memory) (before now : List Told) : Type 0 where
  pub between : List Told
  pub recorded : AreAsked s new past before between
  pub heard : Heard next (net s (new ++ past)) result between now

-- The event that comes next would carry too many bytes. Where it is a cloud's answer, that cloud was asked and gave this answer; it is the
-- one call that is not recorded.
pub record EndsTooLarge (allows : RankFacts → ℕ → Type 0) (header : Header) (new past : History) (IsDue : Next → Type 0) (before now : List Told) : Type 0 where
  pub next : Next
  pub due : IsDue next
  pub event : Event
  pub is : event ≡ event_of next (answer_in event)
  pub asked : AskedNext (under header) new past next (Ok (answer_in event)) before now
  pub large : IsTooLargeNext allows header (new ++ past) event

-- Memory was wanting: no cloud was asked but what the new events record, or for what comes next too.
abbrev pub EndsWanting : Setup → (new past : History) → (IsDue : Next → Type 0) → (before now : List Told) → Type 0
EndsWanting s new past IsDue before now =
    AreAsked s new past before now
    ⊎ ((next : Next) × (result : Result CloudAnswer Memory) × IsDue next × AskedNext s new past next result before now)

-- Why driving stopped, with what the clouds were asked: as many events as there may be stand, and something comes next; or that would carry
-- too many bytes; or memory was wanting; or writing failed. What comes next is one of which `IsDue` holds.
abbrev pub Stops : (allows : RankFacts → ℕ → Type 0) → LiveEnd → Header → (new past : History) → (IsDue : Next → Type 0) → (before now : List Told) → Type 0
Stops allows (ends.TooLarge whiches.Events) header new past IsDue before now =
    (length (new ++ past) ≡ events_limit) × ((next : Next) × IsDue next) × AreAsked (under header) new past before now
Stops allows (ends.TooLarge whiches.Objects) header new past IsDue before now = EndsTooLarge allows header new past IsDue before now
Stops allows ends.Memory header new past IsDue before now = EndsWanting (under header) new past IsDue before now
Stops allows (ends.WriteFault which) header new past IsDue before now = AreAsked (under header) new past before now
Stops allows other header new past IsDue before now = ⊥

-- One event of a drive: it is done, and then recorded.
use Rattle.std.specs.Prelude.{◌<◌, ◌≡◌, ℕ, List, [], ◌∷◌, length, Option, Result, Ok, Err}
use Rattle.scfs_base.specs.Limits.{events_limit}
use Rattle.scfs_base.specs.Outside.{Puts}
use Rattle.scfs_base.specs.declared.cloud.CloudAnswer.{CloudAnswer}
use Rattle.scfs_base.specs.declared.outside.Memory.{Memory}
use Rattle.scfs_policy.specs.declared.rank.RankFacts.{RankFacts}
use Rattle.scfs_schedule.specs.declared.types.Event.{Event}
use Rattle.scfs_schedule.specs.declared.types.Header.{Header}
use Rattle.scfs_schedule.specs.declared.types.Which.TheVariants as whiches
use Rattle.scfs_model.specs.Clouds.{net}
use Rattle.scfs_model.specs.History.{Entry, History}
use Rattle.scfs_model.specs.UnitFormat.{under}
use Rattle.scfs_world.specs.Happening.{IsPlayed, Stands}
use Rattle.scfs_world.specs.State.{WorldState}
use Rattle.scfs_live.specs.Asked.{Told}
use Rattle.scfs_live.specs.Edges.{GetsPart}
use Rattle.scfs_live.specs.Hearing.{Heard, IsHeard}
use Rattle.scfs_live.specs.Journal.{entry_lines, entry_piece}
use Rattle.scfs_live.specs.TooLarge.{IsTooLargeNext}
use Rattle.scfs_live.specs.declared.driver.Next.{Next}
use Rattle.scfs_live.specs.declared.ending.LiveEnd.{LiveEnd}
use Rattle.scfs_live.specs.declared.ending.LiveEnd.TheVariants as ends

-- nothing was written to journal and out
pub record WroteNothing (j j' o o' : Option (List ℕ)) : Type 0 where
  pub journal : Puts j j' []
  pub out : Puts o o' []

-- After a history that was played, below the limit of events, an entry of an event of which this holds, which was played as well.
pub record Played (allows : RankFacts → ℕ → Type 0) (header : Header) (past : History) (IsIt : Event → Type 0) (e : Entry) : Type 0 where
  pub it : IsIt e.event
  pub few : length past < events_limit
  pub plays : IsPlayed allows header (e ∷ past)

-- What became of an event of which this holds. It was done: the world stands for the history with its entry, and its piece and its lines
-- are written. Or writing failed in its piece, or behind that in its lines; or it would carry too many bytes, or memory was wanting, and
-- nothing was written.
abbrev pub Turned : (allows : RankFacts → ℕ → Type 0) → Header → History → (IsIt : Event → Type 0) → (j j' o o' : Option (List ℕ)) → Result WorldState LiveEnd → Type 0
Turned allows header past IsIt j j' o o' (Ok world) =
    (e : Entry) × Played allows header past IsIt e × Stands world header (e ∷ past) × Puts j j' (entry_piece past e) × Puts o o' (entry_lines past e)
Turned allows header past IsIt j j' o o' (Err (ends.WriteFault whiches.Journal)) =
    (e : Entry) × Played allows header past IsIt e × GetsPart j j' (entry_piece past e) × Puts o o' []
Turned allows header past IsIt j j' o o' (Err (ends.WriteFault whiches.Out)) =
    (e : Entry) × Played allows header past IsIt e × Puts j j' (entry_piece past e) × GetsPart o o' (entry_lines past e)
Turned allows header past IsIt j j' o o' (Err (ends.TooLarge whiches.Objects)) =
    (event : Event) × IsIt event × IsTooLargeNext allows header past event × WroteNothing j j' o o'
Turned allows header past IsIt j j' o o' (Err ends.Memory) = WroteNothing j j' o o'
Turned allows header past IsIt j j' o o' (Err end) = ⊥

-- What became of what comes next. As many events as there may be stand: no cloud is asked, and nothing is written. Or memory was
-- wanting, also for an answer. Or its event was heard, and this became of it.
abbrev pub Advanced : (allows : RankFacts → ℕ → Type 0) → Header → History → Next → (before now : List Told) → (j j' o o' : Option (List ℕ))
    → Result WorldState LiveEnd → Type 0
Advanced allows header past next before now j j' o o' (Err (ends.TooLarge whiches.Events)) =
    (length past ≡ events_limit) × (now ≡ before) × WroteNothing j j' o o'
Advanced allows header past next before now j j' o o' (Err ends.Memory) =
    (result : Result CloudAnswer Memory) × Heard next (net (under header) past) result before now × WroteNothing j j' o o'
Advanced allows header past next before now j j' o o' result =
    Turned allows header past (IsHeard next header past before now) j j' o o' result

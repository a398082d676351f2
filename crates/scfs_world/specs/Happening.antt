use Rattle.std.specs.Prelude.{◌≡◌, ◌<◌, ◌≤◌, ◌^◌, ℕ, List, ◌∷◌, length}
use Rattle.scfs_base.specs.Limits.{carried_limit}
use Rattle.scfs_policy.specs.declared.rank.RankFacts.{RankFacts}
use Rattle.scfs_schedule.specs.declared.types.Event.{Event}
use Rattle.scfs_schedule.specs.declared.types.Header.{Header}
use Rattle.scfs_schedule.specs.declared.types.Line.{Line}
use Rattle.scfs_laws.specs.Blocks.{NoClash}
use Rattle.scfs_model.specs.Clouds.{net, IsServed}
use Rattle.scfs_model.specs.History.{Entry, History}
use Rattle.scfs_laws.specs.Laws.{AreEvents}
use Rattle.scfs_model.specs.Runs.{actual, due, Happens, IsRanked}
use Rattle.scfs_model.specs.UnitFormat.{under}
use Rattle.scfs_world.specs.Shows.{Shows}
use Rattle.scfs_world.specs.State.{WorldState}
use Rattle.scfs_world.specs.Stepping.{IsShown}

-- Worlds and histories.

-- a world stands for a history under a header: it shows what the history leaves, and its clouds are those after it
pub record Stands (w : WorldState) (header : Header) (past : History) : Type 0 where
  pub by_header : w.header ≡ header
  pub count : w.events ≡ length past
  pub shows : Shows w (actual (under header) past)
  pub clouds : w.net ≡ net (under header) past

-- A history that was played under a header, where the rank rule may answer so: the lines of each event are those that agents, space
-- and clouds make of it; its message is that of the cloud's queue; the rule gave the answers; its events are of the header and bring
-- bytes; and the bytes that were carried in all keep their limit.
pub record IsPlayed (allows : RankFacts → ℕ → Type 0) (header : Header) (past : History) : Type 0 where
  pub happens : Happens (under header) past
  pub served : IsServed (under header) past
  pub ranked : IsRanked (under header) allows past
  pub events : AreEvents header past
  pub carried : (net (under header) past).carried ≤ carried_limit

-- After an event, a world that stood for a history that was played: it stands for that history with an entry of the event, whose lines
-- it gave, and this was played as well. Where no two different blocks of it share a digest, the lines are those that the file map
-- demands.
abbrev pub PlaysOn : (allows : RankFacts → ℕ → Type 0) → WorldState → WorldState → Event → List Line → Type 0
PlaysOn allows old new event given =
    (header : Header) (past : History) → Stands old header past → IsPlayed allows header past →
    (e : Entry) × (e.event ≡ event) × (e.lines ≡ given) × Stands new header (e ∷ past) × IsPlayed allows header (e ∷ past)
    × (NoClash header (e ∷ past) → e.lines ≡ due (under header) past e)

-- a world that stands for what happened shows a whole state: it can be given an event
abbrev pub StandingAreShown : Type 0
StandingAreShown =
    (w : WorldState) (header : Header) (past : History) → Stands w header past → length past < 2 ^ 24 → Happens (under header) past → IsShown w

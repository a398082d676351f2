use Rattle.std.specs.Prelude.{[], ◌∷◌}
use Rattle.scfs_gf256.specs.Polynomials.{AreBytes}
use Rattle.scfs_schedule.specs.Grammar.{IsHeader, IsEvent}
use Rattle.scfs_schedule.specs.declared.types.Call.{Call}
use Rattle.scfs_schedule.specs.declared.types.Call.TheVariants as calls
use Rattle.scfs_schedule.specs.declared.types.Event.{Event}
use Rattle.scfs_schedule.specs.declared.types.Event.TheVariants as events
use Rattle.scfs_schedule.specs.declared.types.Header.{Header}
use Rattle.scfs_model.specs.UnitFormat.{under}
use Rattle.scfs_model.specs.History.{Entry, History}
use Rattle.scfs_model.specs.Runs.{Happens, Run}
use Rattle.scfs_model.specs.Clouds.{IsServed}
use Rattle.scfs_laws.specs.Blocks.{NoClash}
use Rattle.scfs_laws.specs.Sound.{IsSound}

-- what a call writes are bytes
abbrev pub WritesBytes : Call → Type 0
WritesBytes (calls.Write h offset new) = AreBytes new
WritesBytes other = Unit {0}

-- what the call writes that an event makes are bytes
abbrev pub BringsBytes : Event → Type 0
BringsBytes (events.Call a call) = WritesBytes call
BringsBytes other = Unit {0}

-- each event is one of agents and clouds of the header, and its call writes bytes
abbrev pub AreEvents : Header → History → Type 0
AreEvents header [] = Unit {0}
AreEvents header (e ∷ past) = IsEvent header e.event × BringsBytes e.event × AreEvents header past

-- where no two different blocks of a history share a digest, each open from the clouds got what was closed
abbrev pub SoundWithoutClash : Type 0
SoundWithoutClash =
    (header : Header) (past : History) → IsHeader header → IsServed (under header) past → AreEvents header past → NoClash header past
    → IsSound (under header) past

-- and what happens is what the file map demands
abbrev pub RunsWithoutClash : Type 0
RunsWithoutClash =
    (header : Header) (past : History) → IsHeader header → Happens (under header) past → IsServed (under header) past → AreEvents header past
    → NoClash header past → Run (under header) past

-- where no two different blocks of a history share a digest, none of it without its newest event do
abbrev pub NoClashBefore : Type 0
NoClashBefore = (header : Header) (e : Entry) (past : History) → NoClash header (e ∷ past) → NoClash header past

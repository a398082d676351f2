-- The contract of a drive.
use Rattle.std.specs.Prelude.{◌≤◌, ℕ, List, ◌++◌, length, Option}
use Rattle.scfs_base.specs.Limits.{events_limit}
use Rattle.scfs_policy.specs.declared.rank.RankFacts.{RankFacts}
use Rattle.scfs_schedule.specs.declared.types.Event.{Event}
use Rattle.scfs_schedule.specs.declared.types.Header.{Header}
use Rattle.scfs_model.specs.History.{History}
use Rattle.scfs_model.specs.UnitFormat.{under}
use Rattle.scfs_world.specs.Happening.{IsPlayed, Stands}
use Rattle.scfs_world.specs.State.{WorldState}
use Rattle.scfs_live.specs.Asked.{AreAsked, Told}
use Rattle.scfs_live.specs.Driven.{IsDrivenFrom, IsDueIn, IsSettled}
use Rattle.scfs_live.specs.Driving.{Driver, begins_with}
use Rattle.scfs_live.specs.Recording.{WroteAll}
use Rattle.scfs_live.specs.Stopping.{StopWrites, Stops}
use Rattle.scfs_live.specs.Stores.{AreLive}
use Rattle.scfs_live.specs.declared.ending.LiveEnd.{LiveEnd}

-- a world stands for some history that was played
pub record StandsForSome (allows : RankFacts → ℕ → Type 0) (world : WorldState) : Type 0 where
  pub header : Header
  pub past : History
  pub stands : Stands world header past
  pub plays : IsPlayed allows header past

-- New events behind a history that driving made, from where it was to where it is; they were played, and no more stand than may.
pub record Drove (allows : RankFacts → ℕ → Type 0) (header : Header) (before : Driver) (new past : History) (after : Driver) : Type 0 where
  pub plays : IsPlayed allows header (new ++ past)
  pub driven : IsDrivenFrom (under header) before new past after
  pub live : AreLive new
  pub few : length (new ++ past) ≤ events_limit

-- A drive so far, with an event that was given or none: the world stands for the history with the new events, journal and out got all of
-- them, and what was asked of the clouds is what they record.
pub record Going (allows : RankFacts → ℕ → Type 0) (header : Header) (given : Option Event) (past : History) (world : WorldState) (driver : Driver)
    (j j' o o' : Option (List ℕ)) (clouds clouds' : List Told) : Type 0 where
  pub new : History
  pub drove : Drove allows header (begins_with (under header) given) new past driver
  pub stands : Stands world header (new ++ past)
  pub wrote : WroteAll j j' o o' new past
  pub asked : AreAsked (under header) new past clouds clouds'

-- A drive that came to its end: what was given is done, all is settled, and no turn is to come.
pub record Drives (allows : RankFacts → ℕ → Type 0) (header : Header) (given : Option Event) (past : History) (world : WorldState)
    (j j' o o' : Option (List ℕ)) (clouds clouds' : List Told) : Type 0 where
  pub driver : Driver
  pub going : Going allows header given past world driver j j' o o' clouds clouds'
  pub settled : IsSettled (under header) driver (going.new ++ past)

-- A drive that ended before: new events so far.
pub record Ends (allows : RankFacts → ℕ → Type 0) (end : LiveEnd) (header : Header) (given : Option Event) (past : History)
    (j j' o o' : Option (List ℕ)) (clouds clouds' : List Told) : Type 0 where
  pub new : History
  pub after : Driver
  pub drove : Drove allows header (begins_with (under header) given) new past after
  pub wrote : StopWrites end j j' o o' new past
  pub stops : Stops allows end header new past (IsDueIn (under header) after (new ++ past)) clouds clouds'

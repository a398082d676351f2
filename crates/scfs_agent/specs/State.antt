use Rattle.std.specs.Prelude.{ℕ, List}
use Rattle.scfs_schedule.specs.declared.types.Header.{Header}
use Rattle.scfs_model.specs.Format.{Setup}
use Rattle.scfs_model.specs.UnitFormat.{under}
use Rattle.scfs_model.specs.Given.{Given}
use Rattle.scfs_model.specs.Layers.{Row}
use Rattle.scfs_model.specs.Agents.{Agent}

-- Contracts see an agent so: the header of its run, its number, how many inputs it was given, and the machine's agent.
pub record AgentState : Type 0 where
  pub header : Header
  pub no : ℕ
  pub inputs : ℕ
  pub agent : Agent Row

-- what its run is under
abbrev pub setup : AgentState → Setup
setup a = under a.header

-- what an event at a moment is given, with these answers of the rank rule
abbrev pub given_now : (now : ℕ) → (ranks : List ℕ) → Given
given_now now ranks = record { now = now; ranks = ranks }

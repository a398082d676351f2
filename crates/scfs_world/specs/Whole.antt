use Rattle.std.specs.Prelude.{◌^◌, ◌<◌, List, length}
use Rattle.scfs_schedule.specs.declared.types.Header.{Header}
use Rattle.scfs_anchor.specs.Tree.{Each}
use Rattle.scfs_anchor.specs.Holding.{IsFresh}
use Rattle.scfs_model.specs.UnitFormat.{under}
use Rattle.scfs_model.specs.History.{History}
use Rattle.scfs_model.specs.Layers.{Row}
use Rattle.scfs_model.specs.Tree.{Node}
use Rattle.scfs_model.specs.Agents.{Request}
use Rattle.scfs_model.specs.States.{Reply, Seat, State}
use Rattle.scfs_model.specs.Runs.{actual, Happens}
use Rattle.scfs_agent.specs.Telling.{pending_step, outcome_step, IsIts}

-- What holds of every state that a history leaves, by what agents draw: their numbers and ids are each their own.

-- a reply is that of the step which its agent asked under its number and was not told
abbrev pub IsOfIts : List (Request Row) → Reply Row → Type 0
IsOfIts pending y = IsIts (pending_step pending y.number) (outcome_step y.outcome)

-- at a seat: no node has the id of a file that a step there is to make; each reply is of the step that was asked
pub record IsWholeSeat (nodes : List Node) (seat : Seat Row) : Type 0 where
  pub fresh : Each (λ (x : Request Row). IsFresh nodes x.step) seat.asked
  pub own : Each (IsOfIts seat.agent.pending) seat.replied

abbrev pub IsWhole : State Row → Type 0
IsWhole state = Each (IsWholeSeat state.tree.nodes) state.seats

-- what a history leaves is whole; ids have 24 bits for the incarnation of the agent that drew them
abbrev pub StatesAreWhole : Type 0
StatesAreWhole = (header : Header) (past : History) → length past < 2 ^ 24 → Happens (under header) past → IsWhole (actual (under header) past)

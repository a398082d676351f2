use Rattle.std.specs.Prelude.{ℕ, List, ◌+◌}
use Rattle.scfs_schedule.specs.declared.types.Header.{Header}
use Rattle.scfs_tuples.specs.declared.types.Tuple.{Tuple}
use Rattle.scfs_net.specs.Queues.{NetState}
use Rattle.scfs_agent.specs.State.{AgentState}
use Rattle.scfs_world.specs.declared.seat.StepAsked.{StepAsked}
use Rattle.scfs_world.specs.declared.seat.StepReply.{StepReply}

-- Contracts see a world as these records.

-- an agent, and what stands between it and the space, the oldest first: steps that are not served, replies that are not told
pub record SeatState : Type 0 where
  pub agent : AgentState
  pub asked : List StepAsked
  pub replied : List StepReply

-- a world: its header, the clock, how many events there were, the tuples of its space, its agents at their seats by number, its clouds
pub record WorldState : Type 0 where
  pub header : Header
  pub clock : ℕ
  pub events : ℕ
  pub space : List Tuple
  pub seats : List SeatState
  pub net : NetState

-- a world with one event more
abbrev pub counted : WorldState → WorldState
counted w = record w { events = w.events + 1 }

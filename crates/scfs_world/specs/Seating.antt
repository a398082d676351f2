use Rattle.std.specs.Prelude.{◌≡◌, ◌<◌, ◌≤◌, ◌+◌, ◌*◌, ◌^◌, ℕ, List, [], ◌∷◌, length, Some, slice_get, slice_set, All, Result, Ok, Err, OnOk}
use Rattle.scfs_base.specs.Limits.{carried_limit}
use Rattle.scfs_base.specs.declared.cloud.CloudAnswer.{CloudAnswer}
use Rattle.scfs_base.specs.declared.naming.RequestNo.{RequestNo}
use Rattle.scfs_policy.specs.declared.rank.RankFacts.{RankFacts}
use Rattle.scfs_schedule.specs.declared.types.Event.{Event}
use Rattle.scfs_schedule.specs.declared.types.Event.TheVariants as events
use Rattle.scfs_schedule.specs.declared.types.Header.{Header}
use Rattle.scfs_schedule.specs.declared.types.Line.{Line}
use Rattle.scfs_schedule.specs.declared.types.Line.TheVariants as lines
use Rattle.scfs_tuples.specs.Steps.{IsStep}
use Rattle.scfs_tuples.specs.declared.types.Tuple.{Tuple}
use Rattle.scfs_net.specs.Queues.{NetState}
use Rattle.scfs_anchor.specs.Holding.{Holds}
use Rattle.scfs_model.specs.UnitFormat.{under}
use Rattle.scfs_model.specs.Clouds.{all_asked}
use Rattle.scfs_model.specs.Events.{Place, Agent_has, Space_has, Cloud_has, Clock_has, place_of}
use Rattle.scfs_model.specs.Layers.{Row, rows}
use Rattle.scfs_model.specs.Runs.{Answers}
use Rattle.scfs_model.specs.Agents.{Hears}
use Rattle.scfs_model.specs.States.{Seat, State, Effect, leaving, comes_back, at_agent, at_space, sum_of}
use Rattle.scfs_agent.specs.State.{AgentState}
use Rattle.scfs_world.specs.Shows.{ShowsSeat}
use Rattle.scfs_world.specs.State.{SeatState}
use Rattle.scfs_world.specs.declared.fault.StepFault.{StepFault}
use Rattle.scfs_world.specs.declared.fault.StepFault.TheVariants as faults
use Rattle.scfs_world.specs.declared.seat.StepAsked.{StepAsked}
use Rattle.scfs_world.specs.Whole.{IsWholeSeat}

-- What an event at one seat does: it leaves all other seats.

-- what it may change: the seat, the tuples of the space, and the clouds
pub record Around : Type 0 where
  pub seat : SeatState
  pub space : List Tuple
  pub net : NetState

-- what the machine does at the seat of agent a, where that is so and the rank rule gives these answers
abbrev pub At_seat : Type 0
At_seat = Header → (a : ℕ) → State Row → (ranks : List ℕ) → Seat Row → Effect Row

abbrev pub placed_at : Place → At_seat
placed_at (Agent_has b x) header a state ranks m = at_agent (under header) rows state (record { now = state.clock; ranks = ranks }) a x m
placed_at (Space_has b x) header a state ranks m = at_space (under header) rows state (record { now = state.clock; ranks = ranks }) a x m
placed_at (Cloud_has c x) header a state ranks m = leaving state []
placed_at (Clock_has ticks) header a state ranks m = leaving state []

abbrev pub event_at : Event → At_seat
event_at event = placed_at (place_of event)

-- an answer of a cloud is given to it
abbrev pub answer_at : (c : ℕ) → RequestNo → CloudAnswer → At_seat
answer_at c request answer header a state ranks m =
    comes_back (under header) rows state a (record { now = state.clock; ranks = ranks }) request
    (lines.Gave c request (sum_of (under header) answer) ∷ []) (Hears c request answer) m

-- at a moment the seat of agent a is shown, and the tree, in which no file has more versions than this; a lock that is put now can end
pub record IsAt (header : Header) (a now most : ℕ) (x : Around) (state : State Row) (m : Seat Row) : Type 0 where
  pub clock : now ≡ state.clock
  pub there : slice_get state.seats a ≡ Some m
  pub seat : ShowsSeat header a x.seat m
  pub space : Holds now most x.space state.tree
  pub whole : IsWholeSeat state.tree.nodes m
  pub few : most < 1000000
  pub ends : now + header.lease < 2 ^ 64

-- these lines are those of an effect on a state, and what it leaves is shown
pub record Leaves (header : Header) (a now most : ℕ) (new : Around) (net : NetState) (shown : List Line) (state : State Row)
    (x : Effect Row) : Type 0 where
  pub m : Seat Row
  pub lines : shown ≡ x.lines
  pub clock : x.state.clock ≡ state.clock
  pub seats : x.state.seats ≡ slice_set state.seats a m
  pub seat : ShowsSeat header a new.seat m
  pub space : Holds now (most + 1) new.space x.state.tree
  pub sent : new.net ≡ all_asked net x.sent

-- What becomes of what the machine does: for some answers that the rank rule allows it is done, or it would carry too many bytes.
abbrev pub Becomes : (allows : RankFacts → ℕ → Type 0) → (x : (ranks : List ℕ) → Effect Row) → Header → (a now most : ℕ) → (new : Around) → NetState
    → State Row
    → Result (List Line) StepFault → Type 0
Becomes allows x header a now most new net state (Ok shown) =
    (ranks : List ℕ) × Answers allows (x ranks).ranked ranks × Leaves header a now most new net shown state (x ranks)
Becomes allows x header a now most new net state (Err faults.TooLarge) =
    (ranks : List ℕ) × Answers allows (x ranks).ranked ranks × (carried_limit < (all_asked net (x ranks).sent).carried)
Becomes allows x header a now most new net state (Err faults.Memory) = Unit {0}

-- there is such a state
abbrev pub IsShownAt : (now : ℕ) → Around → Type 0
IsShownAt now x = (header : Header) × (a : ℕ) × (most : ℕ) × (state : State Row) × (m : Seat Row) × IsAt header a now most x state m

-- an agent with the steps that wait at its seat, and its clouds, after so many events
pub record IsReady (events : ℕ) (agent : AgentState) (asked : List StepAsked) (net : NetState) : Type 0 where
  pub inputs : agent.inputs ≤ events
  pub steps : All (λ (x : StepAsked). IsStep x.step) asked
  pub clouds : length net.clouds ≡ 3 * agent.header.f + 1
  pub carried : net.carried ≤ carried_limit

-- an event leaves them ready with one event more, and whose they are
pub record KeepsReady (old : AgentState) (asked : List StepAsked) (net : NetState) (new : AgentState) (left : List StepAsked)
    (after : NetState) : Type 0 where
  pub ready : (events : ℕ) → IsReady events old asked net → IsReady (events + 1) new left after
  pub header : new.header ≡ old.header
  pub clouds : length after.clouds ≡ length net.clouds

-- an event at the seat of agent a
abbrev pub IsAtSeat : (a : ℕ) → Event → Type 0
IsAtSeat a (events.Call b call) = b ≡ a
IsAtSeat a (events.Space b) = b ≡ a
IsAtSeat a (events.Later b) = b ≡ a
IsAtSeat a (events.Told b) = b ≡ a
IsAtSeat a (events.Turn b) = b ≡ a
IsAtSeat a (events.Crash b) = b ≡ a
IsAtSeat a (events.Start b) = b ≡ a
IsAtSeat a other = ⊥

-- what the machine does at a seat is done there, and the seat is ready after it
abbrev pub SeatDoes : (allows : RankFacts → ℕ → Type 0) → (now : ℕ) → At_seat → (old new : Around) → Result (List Line) StepFault → Type 0
SeatDoes allows now does old new result =
    ((header : Header) (a most : ℕ) (state : State Row) (m : Seat Row) → IsAt header a now most old state m →
    Becomes allows (λ ranks. does header a state ranks m) header a now most new old.net state result)
    × OnOk result (KeepsReady old.seat.agent old.seat.asked old.net new.seat.agent new.seat.asked new.net)

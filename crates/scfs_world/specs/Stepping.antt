use Rattle.std.specs.Prelude.{◌≡◌, ◌≤◌, ◌<◌, ◌+◌, ◌*◌, ℕ, List, [], length, All, Result, Ok, Err}
use Rattle.scfs_base.specs.Limits.{carried_limit}
use Rattle.scfs_policy.specs.declared.rank.RankFacts.{RankFacts}
use Rattle.scfs_schedule.specs.Grammar.{IsHeader}
use Rattle.scfs_schedule.specs.declared.types.Event.{Event}
use Rattle.scfs_schedule.specs.declared.types.Line.{Line}
use Rattle.scfs_tuples.specs.Steps.{IsStep}
use Rattle.scfs_net.specs.Queues.{NetState}
use Rattle.scfs_model.specs.UnitFormat.{under}
use Rattle.scfs_model.specs.Clouds.{all_asked, message_of, moved_by}
use Rattle.scfs_model.specs.Layers.{Row, rows}
use Rattle.scfs_model.specs.Runs.{Answers}
use Rattle.scfs_model.specs.States.{State, Effect, effect}
use Rattle.scfs_world.specs.Shows.{Shows}
use Rattle.scfs_world.specs.State.{SeatState, WorldState, counted}
use Rattle.scfs_world.specs.Whole.{IsWhole}
use Rattle.scfs_world.specs.declared.fault.StepFault.{StepFault}
use Rattle.scfs_world.specs.declared.fault.StepFault.TheVariants as faults
use Rattle.scfs_world.specs.declared.seat.StepAsked.{StepAsked}

-- The contract of a world's step: the new world is the machine's step of the old one.

-- what an event does to a state that a world shows, where the rank rule gives these answers
abbrev pub effect_on : WorldState → State Row → Event → (ranks : List ℕ) → Effect Row
effect_on w state event ranks = effect (under w.header) rows state event (message_of w.net event) (record { now = state.clock; ranks = ranks })

-- the clouds after it
abbrev pub net_after : WorldState → Event → Effect Row → NetState
net_after w event x = all_asked (moved_by event w.net) x.sent

-- a world gave the lines of this, shows the state that it leaves, and its clouds are those after it
pub record DoesIt (old new : WorldState) (event : Event) (given : List Line) (x : Effect Row) : Type 0 where
  pub lines : given ≡ x.lines
  pub shows : Shows new x.state
  pub clouds : new.net ≡ net_after old event x

-- After an event, for each whole state that the old world showed: for some answers that the rank rule allows to what it was asked, the
-- new world shows the machine's next.
abbrev pub Steps : (allows : RankFacts → ℕ → Type 0) → WorldState → WorldState → Event → List Line → Type 0
Steps allows old new event given =
    (state : State Row) → Shows old state → IsWhole state →
    (ranks : List ℕ) × Answers allows (effect_on old state event ranks).ranked ranks × DoesIt old new event given (effect_on old state event ranks)

-- An event that would carry too many bytes: for some answers that the rank rule allows they would pass their limit.
abbrev pub IsTooLarge : (allows : RankFacts → ℕ → Type 0) → WorldState → Event → Type 0
IsTooLarge allows old event =
    (state : State Row) → Shows old state → IsWhole state →
    (ranks : List ℕ) × Answers allows (effect_on old state event ranks).ranked ranks
    × (carried_limit < (net_after old event (effect_on old state event ranks)).carried)

-- it shows a whole state
abbrev pub IsShown : WorldState → Type 0
IsShown w = (state : State Row) × Shows w state × IsWhole state

-- a seat of a run of so many events: its agent was given at most one input an event, and the steps that wait are steps
pub record IsSeat (events : ℕ) (seat : SeatState) : Type 0 where
  pub inputs : seat.agent.inputs ≤ events
  pub steps : All (λ (x : StepAsked). IsStep x.step) seat.asked

-- what holds of every world
pub record IsWorld (w : WorldState) : Type 0 where
  pub header : IsHeader w.header
  pub clock : w.clock ≤ 1000000000 * w.events
  pub seats : length w.seats ≡ length w.header.agents
  pub clouds : length w.net.clouds ≡ 3 * w.header.f + 1
  pub carried : w.net.carried ≤ carried_limit
  pub each : All (IsSeat w.events) w.seats

-- an event leaves the header and the count of the events before it; with it counted there is a world
pub record Keeps (old new : WorldState) : Type 0 where
  pub header : new.header ≡ old.header
  pub events : new.events ≡ old.events
  pub world : IsWorld (counted new)

-- what becomes of an event: it is done, and with it counted there is a world; or it would carry too many bytes
abbrev pub Does : (allows : RankFacts → ℕ → Type 0) → (old new : WorldState) → Event → Result (List Line) StepFault → Type 0
Does allows old new event (Ok given) = Steps allows old (counted new) event given × Keeps old new
Does allows old new event (Err faults.TooLarge) = IsTooLarge allows old event
Does allows old new event (Err faults.Memory) = Unit {0}

-- the same of an event in which the rank rule is asked nothing
abbrev pub DoesAlone : (old new : WorldState) → Event → Result (List Line) StepFault → Type 0
DoesAlone old new event (Ok given) =
    ((state : State Row) → Shows old state →
    let x = effect_on old state event [] in (x.ranked ≡ []) × DoesIt old (counted new) event given x) × Keeps old new
DoesAlone old new event (Err faults.TooLarge) =
    (state : State Row) → let x = effect_on old state event [] in (x.ranked ≡ []) × (carried_limit < (net_after old event x).carried)
DoesAlone old new event (Err faults.Memory) = Unit {0}

use Rattle.std.specs.Prelude.{◌≡◌, ℕ, ◌+◌, List, [], ◌∷◌, map}
use Rattle.scfs_schedule.specs.declared.types.Header.{Header}
use Rattle.scfs_anchor.specs.Tree.{Each}
use Rattle.scfs_anchor.specs.Holding.{Holds, IsRequest, IsAskable}
use Rattle.scfs_anchor.specs.StepPlans.{step_on_tuples}
use Rattle.scfs_anchor.specs.StepReplies.{IsReplyTo, FitsOutcome}
use Rattle.scfs_model.specs.Layers.{Row}
use Rattle.scfs_model.specs.Agents.{Request}
use Rattle.scfs_model.specs.States.{Reply, Seat, State}
use Rattle.scfs_world.specs.State.{SeatState, WorldState}
use Rattle.scfs_world.specs.declared.seat.StepAsked.{StepAsked}
use Rattle.scfs_world.specs.declared.seat.StepReply.{StepReply}

-- How a world shows a state of the machine.

-- two lists are equally long, and a relation holds of what stands in them at each number, counted from the first
abbrev pub Together : {A B : Type 0} → (ℕ → A → B → Type 0) → (first : ℕ) → List A → List B → Type 0
Together R first [] [] = Unit {0}
Together R first (x ∷ xs) (y ∷ ys) = R first x y × Together R (first + 1) xs ys
Together R first [] (y ∷ ys) = ⊥
Together R first (x ∷ xs) [] = ⊥

-- a step that was asked, as the space has it
abbrev pub step_asked : (lease : ℕ) → Request Row → StepAsked
step_asked lease x = record { request = x.number; step = step_on_tuples lease x.number x.step }

-- a step that can be asked, under a number that fits
abbrev pub CanBeServed : Request Row → Type 0
CanBeServed x = IsRequest x.number × IsAskable x.number x.step

-- a reply of the space is that of what a step came to
pub record ShowsReply (lease : ℕ) (waiting : StepReply) (reply : Reply Row) : Type 0 where
  pub number : waiting.request ≡ reply.number
  pub replied : IsReplyTo lease reply.number reply.outcome waiting.reply
  pub fits : FitsOutcome reply.outcome

-- an agent at its seat is that of the machine, and so is what stands between it and the space
pub record ShowsSeat (header : Header) (a : ℕ) (seat : SeatState) (m : Seat Row) : Type 0 where
  pub by_header : seat.agent.header ≡ header
  pub no : seat.agent.no ≡ a
  pub agent : seat.agent.agent ≡ m.agent
  pub asked : seat.asked ≡ map (step_asked header.lease) m.asked
  pub served : Each CanBeServed m.asked
  pub replied : Together (λ n. ShowsReply header.lease) 0 seat.replied m.replied

-- a world shows a state of the machine: the clock is the same, the tuples of the space hold its tree, and so it is at each seat
pub record Shows (w : WorldState) (state : State Row) : Type 0 where
  pub clock : w.clock ≡ state.clock
  pub space : Holds w.clock w.events w.space state.tree
  pub seats : Together (ShowsSeat w.header) 0 w.seats state.seats

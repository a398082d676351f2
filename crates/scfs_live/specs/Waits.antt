-- What waits in a run: at each agent and at each cloud.
use Rattle.std.specs.Prelude.{ℕ, List, [], ◌∷◌, map, Bool, true, false, is_some, slice_get}
use Rattle.scfs_net.specs.Queues.{CloudState}
use Rattle.scfs_model.specs.Clouds.{net}
use Rattle.scfs_model.specs.Format.{Setup}
use Rattle.scfs_model.specs.History.{History}
use Rattle.scfs_model.specs.Lists.{if_some}
use Rattle.scfs_model.specs.Runs.{actual}
use Rattle.scfs_model.specs.States.{Seat}
use Rattle.scfs_world.specs.State.{SeatState, WorldState}

-- at an agent: whether a step of it waits for the space, whether a reply of the space waits for it, and whether its call is unanswered
pub record AgentWaits : Type 0 where
  pub step : Bool
  pub reply : Bool
  pub call : Bool

-- at a cloud: whether a request waits for it, and whether an answer of it waits to be given
pub record CloudWaits : Type 0 where
  pub request : Bool
  pub answer : Bool

-- at all of them, by their numbers
pub record Waits : Type 0 where
  pub agents : List AgentWaits
  pub clouds : List CloudWaits

-- whether there are some
abbrev pub are_some : {X : Type 0} → List X → Bool
are_some [] = false
are_some (x ∷ xs) = true

abbrev pub waits_at_seat : {V : Type 0} → Seat V → AgentWaits
waits_at_seat seat = record { step = are_some seat.asked; reply = are_some seat.replied; call = is_some seat.agent.waiting }

abbrev pub waits_at_cloud : CloudState → CloudWaits
waits_at_cloud cloud = record { request = are_some cloud.requests; answer = are_some cloud.replies }

-- what waits after a history
abbrev pub waits_after : Setup → History → Waits
waits_after s past = record { agents = map waits_at_seat (actual s past).seats; clouds = map waits_at_cloud (net s past).clouds }

abbrev pub waits_of_seat : SeatState → AgentWaits
waits_of_seat seat = record { step = are_some seat.asked; reply = are_some seat.replied; call = is_some seat.agent.agent.waiting }

-- what waits in a world
abbrev pub waits_in : WorldState → Waits
waits_in world = record { agents = map waits_of_seat world.seats; clouds = map waits_at_cloud world.net.clouds }

abbrev pub step_waits : Waits → (a : ℕ) → Bool
step_waits w a = if_some (slice_get w.agents a) false (λ (x : AgentWaits). x.step)

abbrev pub reply_waits : Waits → (a : ℕ) → Bool
reply_waits w a = if_some (slice_get w.agents a) false (λ (x : AgentWaits). x.reply)

abbrev pub call_waits : Waits → (a : ℕ) → Bool
call_waits w a = if_some (slice_get w.agents a) false (λ (x : AgentWaits). x.call)

abbrev pub request_waits : Waits → (c : ℕ) → Bool
request_waits w c = if_some (slice_get w.clouds c) false (λ (x : CloudWaits). x.request)

abbrev pub answer_waits : Waits → (c : ℕ) → Bool
answer_waits w c = if_some (slice_get w.clouds c) false (λ (x : CloudWaits). x.answer)

-- A cloud's oldest answer, given to the agent that asked.
use Rattle.std.proofs.Common.{◌≡◌, ℕ, ◌+◌, ◌*◌, ◌<◌, ◌≤◌, List, [], ◌∷◌, length, get_or, refl, ap, sym, subst, ◌∙◌, arith, le_refl, Result, Ok, Option, Some, None, slice_get, slice_set}
use Rattle.std.proofs.lemmas.Option.{slice_get_past}
use Rattle.scfs_base.specs.Limits.{carried_limit}
use Rattle.scfs_policy.specs.declared.rank.RankFacts.{RankFacts}
use Rattle.scfs_schedule.specs.declared.types.Event.TheVariants as events
use Rattle.scfs_schedule.specs.declared.types.Header.{Header}
use Rattle.scfs_schedule.specs.declared.types.Line.{Line}
use Rattle.scfs_schedule.specs.declared.types.Line.TheVariants as lines
use Rattle.scfs_tuples.specs.declared.types.Tuple.{Tuple}
use Rattle.scfs_net.specs.declared.messages.Given.{Given}
use Rattle.scfs_net.specs.Queues.{NetState, cloud_at}
use Rattle.scfs_model.specs.Clouds.{moved_by, reply_message}
use Rattle.scfs_model.specs.Layers.{Row, rows}
use Rattle.scfs_model.specs.Lists.{first_of, if_some}
use Rattle.scfs_model.specs.UnitFormat.{under}
use Rattle.scfs_model.specs.States.{Seat, State, Effect, leaving, gives}
use Rattle.scfs_world.specs.Seating.{answer_at, SeatDoes, IsReady}
use Rattle.scfs_world.specs.Shows.{ShowsSeat, Shows}
use Rattle.scfs_world.specs.State.{SeatState, WorldState}
use Rattle.scfs_world.specs.Stepping.{effect_on, Does, IsWorld, IsShown}
use Rattle.scfs_world.specs.declared.fault.StepFault.{StepFault}
use Rattle.scfs_world.proofs.TogetherLemmas.{same_length}
use Rattle.scfs_world.proofs.CloudLemmas.{moved_length}
use Rattle.scfs_world.proofs.WorldLemmas.{Reads, header_at, code_ready, seat_does, alone_does, does_alone}

first_is : {A : Type 0} (xs : List A) → first_of xs ≡ slice_get xs 0
first_is [] = refl
first_is (x ∷ xs) = refl

-- code has seen the world so, and took this off the replies of the cloud
module _ (was old : WorldState) (same : was ≡ old) (world : IsWorld old) (c : ℕ) (given : Option Given)
    (is : given ≡ slice_get (cloud_at was.net c).replies 0) (after : NetState) (taken : after ≡ moved_by (events.Give c) was.net) where
  -- what the machine does
  abbrev Gives : State Row → (ranks : List ℕ) → Option Given → Effect Row
  Gives state ranks g = gives (under was.header) rows state (record { now = state.clock; ranks = ranks }) c (reply_message g)

  gives_is : (state : State Row) (ranks : List ℕ) → effect_on was state (events.Give c) ranks ≡ Gives state ranks given
  gives_is state ranks =
      ap (gives (under was.header) rows state (record { now = state.clock; ranks = ranks }) c)
      (ap reply_message (first_is (cloud_at was.net c).replies) ∙ ap reply_message (sym is))

  world_was : IsWorld was
  world_was = subst IsWorld (sym same) world

  few : after.carried ≤ carried_limit
  few = subst (λ (n : NetState). n.carried ≤ carried_limit) (sym taken) world_was.carried

  as_many : length after.clouds ≡ length was.net.clouds
  as_many = ap (λ (n : NetState). length n.clouds) taken ∙ moved_length was.net (events.Give c)

  -- it goes to no one
  to_no_one : (allows : RankFacts → ℕ → Type 0) (shown : List Line)
      → ((state : State Row) → Shows was state → Gives state [] given ≡ leaving state shown)
      → Does allows old (record was { net = after }) (events.Give c) (Ok shown)
  to_no_one allows shown none =
      subst (λ w. Does allows w (record was { net = after }) (events.Give c) (Ok shown)) same
      (does_alone allows was (record was { net = after }) (events.Give c) (Ok shown)
      (alone_does was (events.Give c) was.clock after shown world_was (le_refl _) (omega (arith, world_was.clock)) taken as_many few
      (λ state shows. gives_is state [] ∙ none state shows ∙ ap (λ t. leaving (record state { clock = t }) shown) (sym shows.clock))))

  pub none_does : (allows : RankFacts → ℕ → Type 0) (shown : List Line) → given ≡ None → shown ≡ lines.Skip ∷ []
      → Does allows old (record was { net = after }) (events.Give c) (Ok shown)
  none_does allows shown none line = to_no_one allows shown (λ state shows. ap (Gives state []) none ∙ ap (leaving state) (sym line))

  module _ (it : Given) (there : given ≡ Some it) where
    -- the agent that asked is none of the run
    pub far_does : (allows : RankFacts → ℕ → Type 0) (shown : List Line) → length was.seats ≤ it.request.agent → shown ≡ []
        → Does allows old (record was { net = after }) (events.Give c) (Ok shown)
    far_does allows shown far line =
        to_no_one allows shown (λ state shows.
        let none : slice_get state.seats it.request.agent ≡ None =
        slice_get_past state.seats it.request.agent (omega (arith, far, same_length (ShowsSeat was.header) 0 was.seats state.seats shows.seats)) in
        ap (Gives state []) there
        ∙ ap (λ o. if_some o (leaving state []) (answer_at c it.request it.answer was.header it.request.agent state [])) none
        ∙ ap (leaving state) (sym line))

    -- or it is one
    module _ (i : ℕ) (seat : SeatState) (from : i ≡ it.request.agent) (value : seat ≡ get_or was.seats i seat) (within : i < length was.seats)
        (shown : IsShown old) (room : old.events < 1000000) where
      here : Reads was after i seat
      here = record {
        value = value;
        within = within;
        world = world_was;
        shown = subst IsShown (sym same) shown;
        room = omega (arith, room, ap (λ (w : WorldState). w.events) same);
        clouds = as_many;
        carried = few;
      }

      equal : (state : State Row) (m : Seat Row) (ranks : List ℕ) → slice_get state.seats i ≡ Some m
          → effect_on was state (events.Give c) ranks ≡ answer_at c it.request it.answer was.header i state ranks m
      equal state m ranks found =
          gives_is state ranks ∙ ap (Gives state ranks) there
          ∙ ap (λ n. if_some (slice_get state.seats n) (leaving state []) (answer_at c it.request it.answer was.header n state ranks)) (sym from)
          ∙ ap (λ o. if_some o (leaving state []) (answer_at c it.request it.answer was.header i state ranks)) found

      pub near_cloud : c < 3 * old.header.f + 1 → c < 3 * seat.agent.header.f + 1
      near_cloud less =
          subst (λ (k : Header). c < 3 * k.f + 1) (sym (header_at was after i seat here ∙ ap (λ (w : WorldState). w.header) same)) less

      pub near_ready : IsReady 999999 seat.agent seat.asked after
      near_ready = code_ready was after i seat here

      pub near_does : (allows : RankFacts → ℕ → Type 0) (end : SeatState) (left : NetState) (result : Result (List Line) StepFault)
          → ((space : List Tuple) → SeatDoes allows was.clock (answer_at c it.request it.answer)
          (record { seat = seat; space = space; net = after }) (record { seat = end; space = space; net = left }) result)
          → Does allows old (record was { seats = slice_set was.seats i end; net = left }) (events.Give c) result
      near_does allows end left result did =
          subst (λ w. Does allows w (record was { seats = slice_set was.seats i end; net = left }) (events.Give c) result) same
          (seat_does was after i seat here allows (events.Give c) (answer_at c it.request it.answer) (sym taken) equal end was.space left result
          (did was.space))

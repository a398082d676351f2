-- What is done at one seat, or at the clouds and the clock alone, is a step of the whole world.
use Rattle.std.proofs.Common.{◌≡◌, ℕ, ◌+◌, ◌*◌, ◌<◌, ◌≤◌, List, [], length, get_or, refl, ap, sym, subst, ◌∙◌, arith, le_refl, Option, Some, slice_get, slice_set, IfSome, Result, Ok, Err, length-set}
use Rattle.std.proofs.lemmas.List.Elements.{All-set, All-weaker}
use Rattle.std.proofs.lemmas.Option.{slice_get-get_or, slice_get_within, get_or_from_slice_get}
use Rattle.scfs_base.specs.Limits.{carried_limit}
use Rattle.scfs_policy.specs.declared.rank.RankFacts.{RankFacts}
use Rattle.scfs_schedule.specs.declared.types.Event.{Event}
use Rattle.scfs_schedule.specs.declared.types.Event.TheVariants as events
use Rattle.scfs_schedule.specs.declared.types.Header.{Header}
use Rattle.scfs_schedule.specs.declared.types.Line.{Line}
use Rattle.scfs_tuples.specs.declared.types.Tuple.{Tuple}
use Rattle.scfs_net.specs.Queues.{NetState}
use Rattle.scfs_anchor.proofs.HoldLemmas.{holds_on}
use Rattle.scfs_model.specs.Lists.{if_some}
use Rattle.scfs_model.specs.UnitFormat.{under}
use Rattle.scfs_model.specs.Clouds.{all_asked, moved_by, message_of}
use Rattle.scfs_model.specs.Events.{Call_comes, Turn_comes, Crash_comes, Start_comes, Step_served, Step_postponed, Reply_told}
use Rattle.scfs_model.specs.History.{Message}
use Rattle.scfs_model.specs.Layers.{Row, rows}
use Rattle.scfs_model.specs.Runs.{Answers}
use Rattle.scfs_model.specs.States.{Seat, State, Effect, effect, leaving, at_seat, at_agent, at_space}
use Rattle.scfs_world.specs.Seating.{Around, At_seat, IsAt, Leaves, SeatDoes, IsShownAt, IsReady, KeepsReady, IsAtSeat, event_at}
use Rattle.scfs_world.specs.Shows.{Together, ShowsSeat, Shows}
use Rattle.scfs_world.specs.State.{SeatState, WorldState, counted}
use Rattle.scfs_world.specs.Stepping.{effect_on, net_after, DoesIt, Does, DoesAlone, Steps, IsTooLarge, IsShown, IsSeat, IsWorld, Keeps}
use Rattle.scfs_world.specs.Whole.{IsWhole, IsWholeSeat}
use Rattle.scfs_world.specs.declared.fault.StepFault.{StepFault}
use Rattle.scfs_world.specs.declared.fault.StepFault.TheVariants as faults
use Rattle.scfs_world.proofs.TogetherLemmas.{IsThere, at_place, set_both, each_there}

-- the seat that code reads
read_seat : (seats : List SeatState) (i : ℕ) (seat : SeatState) → i < length seats → seat ≡ get_or seats i seat → slice_get seats i ≡ Some seat
read_seat seats i seat within is = slice_get-get_or seats i seat within ∙ ap Some (sym is)

-- what holds of it
pub seat_there : (P : SeatState → Type 0) (was old : WorldState) → was ≡ old → (a i : ℕ) (seat : SeatState) → i ≡ a → seat ≡ get_or was.seats i seat
    → a < length old.seats → P seat → IfSome (slice_get old.seats a) P
seat_there P was old same a i seat from is within h =
    subst (λ (w : WorldState). IfSome (slice_get w.seats a) P) same
    (subst (λ n. IfSome (slice_get was.seats n) P) from (subst (λ o. IfSome o P)
    (sym (read_seat was.seats i seat (omega (arith, within, from, ap (λ (w : WorldState). length w.seats) same)) is)) h))

-- a seat of a world that is given an event; the clouds may have had their part of it already
pub record Reads (w : WorldState) (net : NetState) (a : ℕ) (seat : SeatState) : Type 0 where
  pub value : seat ≡ get_or w.seats a seat
  pub within : a < length w.seats
  pub world : IsWorld w
  pub shown : IsShown w
  pub room : w.events < 1000000
  pub clouds : length net.clouds ≡ length w.net.clouds
  pub carried : net.carried ≤ carried_limit

module _ (w : WorldState) (net : NetState) (a : ℕ) (seat : SeatState) (h : Reads w net a seat) where
  there : slice_get w.seats a ≡ Some seat
  there = read_seat w.seats a seat h.within h.value

  abbrev At : Around
  At = record { seat = seat; space = w.space; net = net }

  module _ (state : State Row) (shows : Shows w state) (whole : IsWhole state) where
    its : IsThere (ShowsSeat w.header) a a seat state.seats
    its = at_place (ShowsSeat w.header) 0 a a w.seats state.seats seat (omega arith) there shows.seats

    is_at : IsAt w.header a w.clock w.events At state its.other
    is_at = record {
      clock = shows.clock;
      there = its.there;
      seat = its.holds;
      space = shows.space;
      whole = each_there (IsWholeSeat state.tree.nodes) state.seats a its.other its.there whole;
      few = h.room;
      ends = omega (arith, h.world.clock, h.room, h.world.header.lease.1);
    }

  pub shown_at : IsShownAt w.clock At
  shown_at = (w.header, a, w.events, h.shown.0, (its h.shown.0 h.shown.1 h.shown.2).other, is_at h.shown.0 h.shown.1 h.shown.2)

  pub header_at : seat.agent.header ≡ w.header
  header_at = (its h.shown.0 h.shown.1 h.shown.2).holds.by_header

  ready_at : (events : ℕ) → w.events ≤ events → IsReady events seat.agent seat.asked net
  ready_at events few =
      let is : IsSeat w.events seat =
      subst (IsSeat w.events) (get_or_from_slice_get w.seats a seat seat there) (h.world.each a seat (slice_get_within w.seats a seat there)) in
      record {
        inputs = omega (arith, is.inputs, few);
        steps = is.steps;
        clouds = h.clouds ∙ h.world.clouds ∙ ap (λ (k : Header). 3 * k.f + 1) (sym header_at);
        carried = h.carried;
      }

  pub code_ready : IsReady 999999 seat.agent seat.asked net
  code_ready = ready_at 999999 (omega (arith, h.room))

  -- the world with this seat, these tuples and these clouds
  abbrev pub Set : SeatState → List Tuple → NetState → WorldState
  Set end space after = record w { space = space; seats = slice_set w.seats a end; net = after }

  -- what is done there is this on the machine
  module _ (allows : RankFacts → ℕ → Type 0) (event : Event) (does : At_seat) (moved : moved_by event w.net ≡ net)
      (same : (state : State Row) (m : Seat Row) (ranks : List ℕ) → slice_get state.seats a ≡ Some m
      → effect_on w state event ranks ≡ does w.header a state ranks m) (end : SeatState) (space : List Tuple) (after : NetState) where
    abbrev Then : Around
    Then = record { seat = end; space = space; net = after }

    steps : (shown : List Line) → SeatDoes allows w.clock does At Then (Ok shown) → Steps allows w (counted (Set end space after)) event shown
    steps shown did state shows whole =
        let t = its state shows whole in
        let k = did.0 w.header a w.events state t.other (is_at state shows whole) in
        let x : Effect Row = does w.header a state k.0 t.other in
        let left : Leaves w.header a w.clock w.events Then net shown state x = k.2 in
        let both = subst (λ (y : Effect Row). Answers allows y.ranked k.0 × DoesIt w (counted (Set end space after)) event shown y)
        (sym (same state t.other k.0 t.there)) (
          k.1,
          record {
            lines = left.lines;
            shows = record {
              clock = shows.clock ∙ sym left.clock;
              space = left.space;
              seats = subst (Together (ShowsSeat w.header) 0 (slice_set w.seats a end)) (sym left.seats)
                  (set_both (ShowsSeat w.header) 0 a a w.seats state.seats end left.m (omega arith) left.seat shows.seats);
            };
            clouds = left.sent ∙ ap (λ n. all_asked n x.sent) (sym moved);
          },
        ) in
        (k.0, both.0, both.1)

    passes : SeatDoes allows w.clock does At Then (Err faults.TooLarge) → IsTooLarge allows w event
    passes did state shows whole =
        let t = its state shows whole in
        let k = did.0 w.header a w.events state t.other (is_at state shows whole) in
        let both = subst (λ (y : Effect Row). Answers allows y.ranked k.0 × (carried_limit < (net_after w event y).carried))
        (sym (same state t.other k.0 t.there))
        (k.1, subst (λ n. carried_limit < (all_asked n (does w.header a state k.0 t.other).sent).carried) (sym moved) k.2) in
        (k.0, both.0, both.1)

    keeps : KeepsReady seat.agent seat.asked net end.agent end.asked after → Keeps w (Set end space after)
    keeps kept =
        let ready : IsReady (w.events + 1) end.agent end.asked after = kept.ready w.events (ready_at w.events (le_refl _)) in
        record {
          header = refl;
          events = refl;
          world = record {
            header = h.world.header;
            clock = omega (arith, h.world.clock);
            seats = length-set w.seats a end ∙ h.world.seats;
            clouds = kept.clouds ∙ h.clouds ∙ h.world.clouds;
            carried = ready.carried;
            each = All-set (IsSeat (w.events + 1)) w.seats a end (record { inputs = ready.inputs; steps = ready.steps })
                (All-weaker (IsSeat w.events) (IsSeat (w.events + 1))
                (λ s k. record { inputs = omega (arith, k.inputs); steps = k.steps }) w.seats h.world.each);
          };
        }

    pub seat_does : (result : Result (List Line) StepFault) → SeatDoes allows w.clock does At Then result
        → Does allows w (Set end space after) event result
    seat_does (Ok shown) did = (steps shown did, keeps did.1)
    seat_does (Err faults.TooLarge) did = passes did
    seat_does (Err faults.Memory) did = tt

-- an event at a seat is one of the machine there

module _ (header : Header) (state : State Row) (a : ℕ) (m : Seat Row) (there : slice_get state.seats a ≡ Some m) (message : Option Message)
    (ranks : List ℕ) where
  seated : (b : ℕ) (on : (n : ℕ) → Seat Row → Effect Row) → b ≡ a → at_seat state b (on b) ≡ on a m
  seated b on is = ap (λ n. at_seat state n (on n)) is ∙ ap (λ o. if_some o (leaving state []) (on a)) there

  effect_at : (event : Event) → IsAtSeat a event
      → effect (under header) rows state event message (record { now = state.clock; ranks = ranks }) ≡ event_at event header a state ranks m
  effect_at (events.Call b call) is =
      seated b (λ n. at_agent (under header) rows state (record { now = state.clock; ranks = ranks }) n (Call_comes call)) is
  effect_at (events.Turn b) is = seated b (λ n. at_agent (under header) rows state (record { now = state.clock; ranks = ranks }) n Turn_comes) is
  effect_at (events.Crash b) is = seated b (λ n. at_agent (under header) rows state (record { now = state.clock; ranks = ranks }) n Crash_comes) is
  effect_at (events.Start b) is = seated b (λ n. at_agent (under header) rows state (record { now = state.clock; ranks = ranks }) n Start_comes) is
  effect_at (events.Space b) is = seated b (λ n. at_space (under header) rows state (record { now = state.clock; ranks = ranks }) n Step_served) is
  effect_at (events.Later b) is = seated b (λ n. at_space (under header) rows state (record { now = state.clock; ranks = ranks }) n Step_postponed) is
  effect_at (events.Told b) is = seated b (λ n. at_space (under header) rows state (record { now = state.clock; ranks = ranks }) n Reply_told) is
  effect_at other is = absurd is

stays_at : (event : Event) (a : ℕ) (net : NetState) → IsAtSeat a event → moved_by event net ≡ net
stays_at (events.Call b call) a net is = refl
stays_at (events.Turn b) a net is = refl
stays_at (events.Crash b) a net is = refl
stays_at (events.Start b) a net is = refl
stays_at (events.Space b) a net is = refl
stays_at (events.Later b) a net is = refl
stays_at (events.Told b) a net is = refl
stays_at other a net is = absurd is

-- code has seen the world so, and reads and writes the seat at this place
module _ (was old : WorldState) (same : was ≡ old) (a i : ℕ) (seat : SeatState) (from : i ≡ a) (value : seat ≡ get_or was.seats i seat)
    (world : IsWorld old)
    (shown : IsShown old) (room : old.events < 1000000) (agent : a < length old.header.agents) where
  pub reads : Reads was was.net i seat
  reads =
      let w : IsWorld was = subst IsWorld (sym same) world in
      record {
        value = value;
        within = omega (arith, from, agent, world.seats, ap (λ (v : WorldState). length v.seats) same);
        world = w;
        shown = subst IsShown (sym same) shown;
        room = omega (arith, room, ap (λ (v : WorldState). v.events) same);
        clouds = refl;
        carried = w.carried;
      }

  pub event_does : (allows : RankFacts → ℕ → Type 0) (event : Event) → IsAtSeat a event → (end : SeatState) (space : List Tuple) (after : NetState)
      (result : Result (List Line) StepFault)
      → SeatDoes allows was.clock (event_at event) (record { seat = seat; space = was.space; net = was.net })
      (record { seat = end; space = space; net = after }) result
      → Does allows old (record was { space = space; seats = slice_set was.seats i end; net = after }) event result
  event_does allows event is end space after result did =
      let at : IsAtSeat i event = subst (λ n. IsAtSeat n event) (sym from) is in
      subst (λ w. Does allows w (record was { space = space; seats = slice_set was.seats i end; net = after }) event result) same
      (seat_does was was.net i seat reads allows event (event_at event) (stays_at event i was.net at)
      (λ state m ranks there. effect_at was.header state i m there (message_of was.net event) ranks event at) end space after result did)

-- an event at the clouds or of the clock: agents and tree stay

module _ (w : WorldState) (event : Event) (now : ℕ) (after : NetState) where
  abbrev pub Alone : WorldState
  Alone = record w { clock = now; net = after }

  pub alone_does : (shown : List Line) → IsWorld w → w.clock ≤ now → now ≤ 1000000000 * (w.events + 1) → after ≡ moved_by event w.net
      → length after.clouds ≡ length w.net.clouds → after.carried ≤ carried_limit
      → ((state : State Row) → Shows w state → effect_on w state event [] ≡ leaving (record state { clock = now }) shown)
      → DoesAlone w Alone event (Ok shown)
  alone_does shown world on soon moved as_many carried same = (
    λ state shows. (
      ap (λ (y : Effect Row). y.ranked) (same state shows),
      subst (DoesIt w (counted Alone) event shown) (sym (same state shows))
          (record {
            lines = refl;
            shows = record {
              clock = refl;
              space = holds_on w.clock now w.events (w.events + 1) w.space state.tree shows.space on (omega arith);
              seats = shows.seats;
            };
            clouds = moved;
          }),
    ),
    record {
      header = refl;
      events = refl;
      world = record {
        header = world.header;
        clock = soon;
        seats = world.seats;
        clouds = as_many ∙ world.clouds;
        carried = carried;
        each = All-weaker (IsSeat w.events) (IsSeat (w.events + 1))
            (λ s h. record { inputs = omega (arith, h.inputs); steps = h.steps }) w.seats world.each;
      };
    },
  )

pub does_alone : (allows : RankFacts → ℕ → Type 0) (old new : WorldState) (event : Event) (result : Result (List Line) StepFault)
    → DoesAlone old new event result → Does allows old new event result
does_alone allows old new event (Ok shown) did =
    (λ state shows whole. let k = did.0 state shows in ([], subst (λ xs. Answers allows xs []) (sym k.0) tt, k.1), did.1)
does_alone allows old new event (Err faults.TooLarge) did =
    λ state shows whole. let k = did state in ([], subst (λ xs. Answers allows xs []) (sym k.0) tt, k.1)
does_alone allows old new event (Err faults.Memory) did = tt

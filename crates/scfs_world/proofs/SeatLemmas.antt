-- What an event at a seat does is what the machine does there.
use Rattle.std.proofs.Common.{◌≡◌, ℕ, zero, suc, ◌+◌, ◌≤◌, List, [], ◌∷◌, ◌++◌, map, refl, ap, sym, subst, ◌∙◌, arith, le_refl, Some, Result, Ok, Err, Bool, true, false, not}
use Rattle.std.specs.Prelude.{slice_get, slice_set, if◌then◌else◌}
use Rattle.std.proofs.lemmas.List.{map-append}
use Rattle.scfs_base.specs.Limits.{carried_limit}
use Rattle.scfs_base.specs.declared.cloud.CloudAnswer.{CloudAnswer}
use Rattle.scfs_base.specs.declared.naming.RequestNo.{RequestNo}
use Rattle.scfs_policy.specs.declared.rank.RankFacts.{RankFacts}
use Rattle.scfs_schedule.specs.declared.types.Event.{Event}
use Rattle.scfs_schedule.specs.declared.types.Event.TheVariants as events
use Rattle.scfs_schedule.specs.declared.types.Header.{Header}
use Rattle.scfs_schedule.specs.declared.types.Line.{Line}
use Rattle.scfs_schedule.specs.declared.types.Line.TheVariants as lines
use Rattle.scfs_tuples.specs.After.{reply_of}
use Rattle.scfs_tuples.specs.declared.types.Tuple.{Tuple}
use Rattle.scfs_net.specs.Queues.{NetState}
use Rattle.scfs_anchor.specs.Tree.{Each}
use Rattle.scfs_anchor.specs.Holding.{Holds, IsFresh, ServesAlike}
use Rattle.scfs_anchor.specs.StepPlans.{step_on_tuples}
use Rattle.scfs_anchor.proofs.HoldLemmas.{holds_on, steps_serve_alike}
use Rattle.scfs_model.specs.UnitFormat.{under}
use Rattle.scfs_model.specs.Layers.{Row, rows}
use Rattle.scfs_model.specs.Lists.{moved_back}
use Rattle.scfs_model.specs.Lives.{is_up}
use Rattle.scfs_model.specs.Tree.{live}
use Rattle.scfs_model.specs.Steps.{Served, served, served_line}
use Rattle.scfs_model.specs.Agents as machine
use Rattle.scfs_model.specs.Agents.{Request, Agent, Calls, Tells, Hears, Turns, Crashes, Starts}
use Rattle.scfs_model.specs.States.{Reply, Seat, State, Effect, leaving, with_seat, skips, is_there, comes, comes_if, comes_back, serves, postpones, tells, sum_of}
use Rattle.scfs_laws.proofs.Lists.{each-moved}
use Rattle.scfs_agent.specs.Reacting.{DoesRanked, Reacts}
use Rattle.scfs_agent.specs.Telling.{IsTold}
use Rattle.scfs_agent.specs.declared.types.Input.{Input}
use Rattle.scfs_agent.specs.declared.types.Input.TheVariants as inputs
use Rattle.scfs_agent.specs.declared.types.Output.{Output}
use Rattle.scfs_world.specs.Doing.{can_come, input_of, Says, ComesIf, Brings, ComesBack, FitsOldest, TellsOldest, ServesOldest, PostponesOldest}
use Rattle.scfs_world.specs.Seating.{Around, IsAt, Leaves, Becomes, SeatDoes, IsShownAt, IsAtSeat, event_at, answer_at}
use Rattle.scfs_world.specs.Shows.{Together, step_asked, CanBeServed, ShowsReply, ShowsSeat}
use Rattle.scfs_world.specs.State.{SeatState}
use Rattle.scfs_world.specs.Whole.{IsOfIts}
use Rattle.scfs_world.specs.declared.fault.StepFault.{StepFault}
use Rattle.scfs_world.specs.declared.fault.StepFault.TheVariants as faults
use Rattle.scfs_world.specs.declared.seat.StepReply.{StepReply}
use Rattle.scfs_world.proofs.DoneLemmas.{if_keeps, told_keeps, served_keeps, postponed_keeps}
use Rattle.scfs_agent.proofs.ToldLemmas.{told_fits}
use Rattle.scfs_world.proofs.InputLemmas.{comes_does}
use Rattle.scfs_world.proofs.ServedLines.{line_served}
use Rattle.scfs_world.proofs.TogetherLemmas.{one_behind, from_any}

pub set_same : {X : Type 0} (xs : List X) (a : ℕ) (x : X) → slice_get xs a ≡ Some x → slice_set xs a x ≡ xs
set_same [] a x there = cc
set_same (z ∷ xs) zero x there = let same : z ≡ x = cc in ap (λ w. w ∷ xs) (sym same)
set_same (z ∷ xs) (suc a) x there = ap (λ ws. z ∷ ws) (set_same xs a x there)

-- a reply that waits at a seat that is shown is told as that of its step, and its numbers fit

module _ (header : Header) (a : ℕ) (old : SeatState) (m : Seat Row) (shows : ShowsSeat header a old m) where
  is_told : (x : StepReply) (y : Reply Row) → ShowsReply header.lease x y → IsOfIts m.agent.pending y
      → IsTold old.agent.header.lease old.agent.agent.pending x.request x.reply y.outcome
  is_told x y it own =
      subst (λ (h : Header). IsTold h.lease old.agent.agent.pending x.request x.reply y.outcome) (sym shows.by_header)
      (subst (λ (g : Agent Row). IsTold header.lease g.pending x.request x.reply y.outcome) (sym shows.agent)
      (subst (λ n. IsTold header.lease m.agent.pending n x.reply y.outcome) (sym it.number)
      (record { replied = it.replied; fits = it.fits; asked = own })))

  fits_oldest : (xs : List StepReply) (ys : List (Reply Row)) → Together (λ n. ShowsReply header.lease) 0 xs ys → Each (IsOfIts m.agent.pending) ys
      → FitsOldest old.agent xs
  fits_oldest [] ys t own = tt
  fits_oldest (x ∷ xs) [] t own = absurd t
  fits_oldest (x ∷ xs) (y ∷ ys) t own =
      told_fits old.agent.header.lease old.agent.agent.pending x.request x.reply y.outcome (is_told x y t.0 own.0)

pub shown_fits : (now : ℕ) (space : List Tuple) (old : SeatState) (net : NetState) → IsShownAt now (record { seat = old; space = space; net = net })
    → FitsOldest old.agent old.replied
shown_fits now space old net (header, a, most, state, m, at) = fits_oldest header a old m at.seat old.replied m.replied at.seat.replied at.whole.own

-- what was done, at a seat that is shown

module _ (allows : RankFacts → ℕ → Type 0) (now : ℕ) (space : List Tuple) (new : SeatState) (net after : NetState) (header : Header) (a most : ℕ)
    (state : State Row) (result : Result (List Line) StepFault) where
  -- an effect of the machine comes to this
  abbrev pub Done : (x : (ranks : List ℕ) → Effect Row) → Type 0
  Done x = Becomes allows x header a now most (record { seat = new; space = space; net = after }) net state result

  -- an input that comes where it can, else a line says so
  abbrev pub If : Bool → State Row → Seat Row → machine.Input Row → (before : List Line) → (line : Line) → (ranks : List ℕ) → Effect Row
  If can left m i before line ranks =
      if can then comes (under header) rows state a (record { now = state.clock; ranks = ranks }) before i m else leaving left (line ∷ [])

  module _ (old : SeatState) (m : Seat Row) (shows : ShowsSeat header a old m) (holds : Holds now most space state.tree) where
    pub says_does : (line : Line) → Says old new net after line result → Done (λ ranks. leaving (with_seat state a m) (line ∷ []))
    says_does line d = by result d
      where
        by : (r : Result (List Line) StepFault) → Says old new net after line r
            → Becomes allows (λ ranks. leaving (with_seat state a m) (line ∷ [])) header a now most
            (record { seat = new; space = space; net = after }) net state r
        by (Ok shown) d = (
          [],
          tt,
          record {
            m = m;
            lines = d.2;
            clock = refl;
            seats = refl;
            seat = subst (λ s. ShowsSeat header a s m) (sym d.0) shows;
            space = holds_on now now most (most + 1) space state.tree holds (le_refl _) (omega arith);
            sent = d.1;
          },
        )
        by (Err faults.TooLarge) d = absurd d
        by (Err faults.Memory) d = tt

    module _ (input : Input) (i : machine.Input Row) (before : List Line) (clock : now ≡ state.clock)
        (means : (is : Agent Row) (given : List Output) → Reacts allows now old.agent.header old.agent.no old.agent.agent is given input
        → DoesRanked allows now old.agent.header old.agent.no old.agent.agent is given i) where
      pub if_does : (can : Bool) (line : Line) → ComesIf allows now old new net after can input before line result
          → Done (If can (with_seat state a m) m i before line)
      if_does true line d = comes_does allows now space header a most input before old net state m shows holds i clock means new after result d
      if_does false line d = says_does line d

      pub back_does : (request : RequestNo) → ComesBack allows now old new net after request input before result
          → Done (λ ranks. comes_back (under header) rows state a (record { now = state.clock; ranks = ranks }) request before i m)
      back_does request d =
          subst (λ (g : Agent Row). Done (If (is_there g request) (with_seat state a m) m i before (lines.Gone request))) shows.agent
          (if_does (is_there old.agent.agent request) (lines.Gone request) d)

  module _ (old : SeatState) (m : Seat Row) (at : IsAt header a now most (record { seat = old; space = space; net = net }) state m) where
    same_state : with_seat state a m ≡ state
    same_state = ap (λ xs. record state { seats = xs }) (set_same state.seats a m at.there)

    pub skip_does : Says old new net after lines.Skip result → Done (λ ranks. skips state)
    skip_does d = subst (λ t. Done (λ ranks. leaving t (lines.Skip ∷ []))) same_state (says_does old m at.seat at.space lines.Skip d)

    -- a call, a turn, a crash or a start
    come_by : (input : Input) (i : machine.Input Row) (can : Bool → Bool)
        → ((is : Agent Row) (given : List Output) → Reacts allows now old.agent.header old.agent.no old.agent.agent is given input
        → DoesRanked allows now old.agent.header old.agent.no old.agent.agent is given i)
        → ComesIf allows now old new net after (can (is_up old.agent.agent.life)) input [] lines.Skip result
        → Done (λ ranks. comes_if (under header) rows (can (is_up m.agent.life)) state a (record { now = state.clock; ranks = ranks }) i m)
    come_by input i can means d =
        subst (λ (g : Agent Row). Done (If (can (is_up g.life)) state m i [] lines.Skip)) at.seat.agent
        (subst (λ t. Done (If (can (is_up old.agent.agent.life)) t m i [] lines.Skip)) same_state
        (if_does old m at.seat at.space input i [] at.clock means (can (is_up old.agent.agent.life)) lines.Skip d))

    -- of all events at a seat, these are between its agent and the space
    pub brings_does : (event : Event) (b : ℕ) → IsAtSeat b event → ((c : ℕ) → ¬ (event ≡ events.Space c)) → ((c : ℕ) → ¬ (event ≡ events.Later c))
        → ((c : ℕ) → ¬ (event ≡ events.Told c)) → Brings allows now old new net after event result
        → Done (λ ranks. event_at event header a state ranks m)
    brings_does (events.Call c call) b at space later told d = come_by (inputs.Call call) (Calls call) (λ up. up) (λ is given k. k) d
    brings_does (events.Turn c) b at space later told d = come_by inputs.Turn Turns (λ up. up) (λ is given k. k) d
    brings_does (events.Crash c) b at space later told d = come_by inputs.Crash Crashes (λ up. up) (λ is given k. k) d
    brings_does (events.Start c) b at space later told d = come_by inputs.Start Starts not (λ is given k. k) d
    brings_does (events.Space c) b at space later told d = absurd (space c refl)
    brings_does (events.Later c) b at space later told d = absurd (later c refl)
    brings_does (events.Told c) b at space later told d = absurd (told c refl)
    brings_does other b at space later told d = absurd at

    pub tells_does : (xs : List StepReply) (ys : List (Reply Row)) → Together (λ n. ShowsReply header.lease) 0 xs ys
        → Each (IsOfIts m.agent.pending) ys
        → TellsOldest allows now old new net after xs result
        → Done (λ ranks. tells (under header) rows state a (record { now = state.clock; ranks = ranks }) m ys)
    tells_does [] [] t own d = skip_does d
    tells_does [] (y ∷ ys) t own d = absurd t
    tells_does (x ∷ xs) [] t own d = absurd t
    tells_does (x ∷ xs) (y ∷ ys) t own d =
        let rest : ShowsSeat header a (record old { replied = xs }) (record m { replied = ys }) = record {
          by_header = at.seat.by_header;
          no = at.seat.no;
          agent = at.seat.agent;
          asked = at.seat.asked;
          served = at.seat.served;
          replied = from_any (ShowsReply header.lease) 1 0 xs ys t.1;
        } in
        subst (λ n. Done (λ ranks. comes_back (under header) rows state a (record { now = state.clock; ranks = ranks }) n []
        (Tells n y.outcome) (record m { replied = ys }))) t.0.number
        (back_does (record old { replied = xs }) (record m { replied = ys }) rest at.space (inputs.Space x.request x.reply)
        (Tells x.request y.outcome) []
        at.clock (λ is given reacts. reacts y.outcome (is_told header a old m at.seat x y t.0 own.0)) x.request d)

-- steps served and postponed, by what waits

module _ (allows : RankFacts → ℕ → Type 0) (now : ℕ) (space left : List Tuple) (old new : SeatState) (net : NetState) (header : Header) (a most : ℕ)
    (state : State Row) (m : Seat Row) (at : IsAt header a now most (record { seat = old; space = space; net = net }) state m)
    (shown : List Line) where
  abbrev Ends : (x : (ranks : List ℕ) → Effect Row) → Type 0
  Ends x = Becomes allows x header a now most (record { seat = new; space = left; net = net }) net state (Ok shown)

  skips_so : new ≡ old → left ≡ space → shown ≡ lines.Skip ∷ [] → Ends (λ ranks. skips state)
  skips_so same stays line =
      subst (λ ts. Becomes allows (λ ranks. skips state) header a now most (record { seat = new; space = ts; net = net }) net state (Ok shown))
      (sym stays)
      (skip_does allows now space new net net header a most state (Ok shown) old m at (same, refl, line))

  pub serves_does : (ys : List (Request Row)) → m.asked ≡ ys → ServesOldest now old new space left shown (map (step_asked header.lease) ys)
      → Ends (λ ranks. serves (under header) rows state a m ys)
  serves_does [] are did = skips_so did.0 did.1 did.2
  serves_does (y ∷ ys) are did =
      let it : (t : ℕ) → Served Row = λ t. served rows (live t state.tree) t header.lease y.number y.step in
      let seat : (t : ℕ) → Seat Row = λ t.
      record m { asked = ys; replied = m.replied ++ (record { number = y.number; outcome = (it t).outcome }) ∷ [] } in
      let step = step_on_tuples header.lease y.number y.step in
      let can : CanBeServed y = (subst (Each CanBeServed) are at.seat.served).0 in
      let fresh : Each (λ (q : Request Row). IsFresh state.tree.nodes q.step) (y ∷ ys) = subst (Each _) are at.whole.fresh in
      let alike : ServesAlike now most header.lease space y.number y.step (it now) =
      steps_serve_alike now most header.lease space state.tree y.number y.step at.space at.few at.ends can.0 can.1 fresh.0 in (
        [],
        tt,
        subst (λ t. Leaves header a now most (record { seat = new; space = left; net = net }) net shown state
            (leaving (with_seat (record state { tree = (it t).tree }) a (seat t)) (served_line rows y.number (it t).outcome ∷ []))) at.clock
            (record {
              m = seat now;
              lines =
                  did.2 ∙ ap (λ line. line ∷ []) (line_served (live now state.tree) now header.lease y.number y.step
                  (reply_of space now step) refl alike.reply);
              clock = refl;
              seats = refl;
              seat = subst (λ s. ShowsSeat header a s (seat now)) (sym did.0)
                  (record {
                    by_header = at.seat.by_header;
                    no = at.seat.no;
                    agent = at.seat.agent;
                    asked = refl;
                    served = (subst (Each CanBeServed) are at.seat.served).1;
                    replied = one_behind (ShowsReply header.lease) 0 old.replied m.replied _ _ at.seat.replied
                        (record { number = refl; replied = alike.reply; fits = alike.fits });
                  });
              space = subst (λ ts. Holds now (most + 1) ts (it now).tree) (sym did.1) alike.holds;
              sent = refl;
            }),
      )

  pub postpones_does : (ys : List (Request Row)) → m.asked ≡ ys → left ≡ space → PostponesOldest old new shown (map (step_asked header.lease) ys)
      → Ends (λ ranks. postpones state a m ys)
  postpones_does [] are stays did = skips_so did.0 stays did.1
  postpones_does (y ∷ ys) are stays did = (
    [],
    tt,
    record {
      m = record m { asked = moved_back m.asked };
      lines = did.1;
      clock = refl;
      seats = refl;
      seat = subst (λ s. ShowsSeat header a s (record m { asked = moved_back m.asked })) (sym did.0)
          (record {
            by_header = at.seat.by_header;
            no = at.seat.no;
            agent = at.seat.agent;
            asked = sym (map-append (step_asked header.lease) ys (y ∷ [])) ∙ ap (λ xs. map (step_asked header.lease) (moved_back xs)) (sym are);
            served = each-moved CanBeServed m.asked at.seat.served;
            replied = at.seat.replied;
          });
      space = subst (λ ts. Holds now (most + 1) ts state.tree) (sym stays)
          (holds_on now now most (most + 1) space state.tree at.space (le_refl _) (omega arith));
      sent = refl;
    },
  )

-- at the seat, whatever is shown there

module _ (allows : RankFacts → ℕ → Type 0) (now : ℕ) (space : List Tuple) (old new : SeatState) (net : NetState) where
  abbrev At : Around
  At = record { seat = old; space = space; net = net }

  module _ (carried : net.carried ≤ carried_limit) (event : Event) (b : ℕ) where
    pub serve_does : event ≡ events.Space b → (left : List Tuple) (shown : List Line) → ServesOldest now old new space left shown old.asked
        → SeatDoes allows now (event_at event) At (record { seat = new; space = left; net = net }) (Ok shown)
    serve_does is left shown did = (
      λ header a most state m at. subst (λ e. Becomes allows (λ ranks. event_at e header a state ranks m) header a now most
          (record { seat = new; space = left; net = net }) net state (Ok shown)) (sym is)
          (serves_does allows now space left old new net header a most state m at shown m.asked refl
          (subst (ServesOldest now old new space left shown) at.seat.asked did)),
      served_keeps old new net carried space left now shown old.asked refl did,
    )

    pub postpone_does : event ≡ events.Later b → (shown : List Line) → PostponesOldest old new shown old.asked
        → SeatDoes allows now (event_at event) At (record { seat = new; space = space; net = net }) (Ok shown)
    postpone_does is shown did = (
      λ header a most state m at. subst (λ e. Becomes allows (λ ranks. event_at e header a state ranks m) header a now most
          (record { seat = new; space = space; net = net }) net state (Ok shown)) (sym is)
          (postpones_does allows now space space old new net header a most state m at shown m.asked refl refl
          (subst (PostponesOldest old new shown) at.seat.asked did)),
      postponed_keeps old new net carried shown old.asked refl did,
    )

    module _ (after : NetState) (result : Result (List Line) StepFault) where
      abbrev Seat_does : Type 0
      Seat_does = SeatDoes allows now (event_at event) At (record { seat = new; space = space; net = after }) result

      pub tell_does : event ≡ events.Told b → TellsOldest allows now old new net after old.replied result → Seat_does
      tell_does is did = (
        λ header a most state m at. subst (λ e. Becomes allows (λ ranks. event_at e header a state ranks m) header a now most
            (record { seat = new; space = space; net = after }) net state result) (sym is)
            (tells_does allows now space new net after header a most state result old m at old.replied m.replied at.seat.replied at.whole.own did),
        told_keeps allows now old new net after carried result old.replied did,
      )

      pub come_does : IsAtSeat b event → ((c : ℕ) → ¬ (event ≡ events.Space c)) → ((c : ℕ) → ¬ (event ≡ events.Later c))
          → ((c : ℕ) → ¬ (event ≡ events.Told c)) → Brings allows now old new net after event result → Seat_does
      come_does of no_space no_later no_told did = (
        λ header a most state m at.
            brings_does allows now space new net after header a most state result old m at event b of no_space no_later no_told did,
        if_keeps allows now old new net after carried (can_come event old.agent.agent.life) (input_of event) [] lines.Skip result did,
      )

  pub hear_does : net.carried ≤ carried_limit → (after : NetState) (result : Result (List Line) StepFault)
      (c : ℕ) (request : RequestNo) (answer : CloudAnswer) (before : List Line)
      → ((header : Header) → before ≡ lines.Gave c request (sum_of (under header) answer) ∷ [])
      → ComesBack allows now old new net after request (inputs.Cloud c request answer) before result
      → SeatDoes allows now (answer_at c request answer) At (record { seat = new; space = space; net = after }) result
  hear_does carried after result c request answer before line did = (
    λ header a most state m at. back_does allows now space new net after header a most state result old m at.seat at.space
        (inputs.Cloud c request answer)
        (Hears c request answer) (lines.Gave c request (sum_of (under header) answer) ∷ []) at.clock (λ is given k. k) request
        (subst (λ ls. ComesBack allows now old new net after request (inputs.Cloud c request answer) ls result) (line header) did),
    if_keeps allows now old new net after carried (is_there old.agent.agent request) (inputs.Cloud c request answer) before
        (lines.Gone request) result did,
  )

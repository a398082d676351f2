-- What reads show are the bytes that their sessions hold, whatever the clouds answer.
use Rattle.std.proofs.Common.{◌≡◌, ℕ, ◌+◌, ◌≤◌, List, [], ◌∷◌, ◌++◌, length, cond, fold, refl, sym, ap, ◌∙◌, subst, arith, true≢false, eq-eqb, eqb-true, slice_get, Bool, true, false, Option, Some, None, le_refl}
use Rattle.std.specs.Prelude.{◌==◌}
use Rattle.std.proofs.lemmas.List.Elements.{filter-append}
use Rattle.scfs_schedule.specs.declared.types.Call.TheVariants as calls
use Rattle.scfs_schedule.specs.declared.types.Event.{Event}
use Rattle.scfs_schedule.specs.declared.types.Event.TheVariants as events
use Rattle.scfs_schedule.specs.declared.types.Line.TheVariants as lines
use Rattle.scfs_model.specs.Lists.{if_some, moved_back}
use Rattle.scfs_model.specs.Format.{Setup}
use Rattle.scfs_model.specs.History.{Message, Of_answer, Entry, History}
use Rattle.scfs_model.specs.Given.{Given, given_of}
use Rattle.scfs_base.specs.declared.naming.RequestNo.{RequestNo}
use Rattle.scfs_schedule.specs.declared.types.Line.{Line}
use Rattle.scfs_model.specs.Lives.{is_up}
use Rattle.scfs_model.specs.LockSteps.{Unlock_all}
use Rattle.scfs_model.specs.Steps.{On_locks}
use Rattle.scfs_model.specs.Events.{At_agent, Call_comes, Turn_comes, Crash_comes, Start_comes, Place, Agent_has, place_of}
use Rattle.scfs_schedule.specs.declared.types.Call.{Call}
use Rattle.scfs_base.specs.declared.cloud.CloudAnswer.{CloudAnswer}
use Rattle.scfs_model.specs.Agents.{Request, Agent, Input, Calls, Tells, Hears, Turns, Crashes, Starts, Reaction, next_request}
use Rattle.scfs_model.specs.Reactions.{crashed, next_life, starts, next_begun, reacted}
use Rattle.scfs_model.specs.Layers.{Row, rows}
use Rattle.scfs_model.specs.Runs.{actual, effect_after, Happens}
use Rattle.scfs_model.specs.States.{Reply, Seat, State, Effect, first_seat, first_state, sum_of, is_there, leaving, with_seat, at_seat, did, comes, comes_if, at_agent, effect}
use Rattle.scfs_laws.specs.Held.{Close_seen, Agent_seen, Seen, nothing_seen, of_agent, with_reading, with_incarnation, after_answer, after_message, seen_line, with_close, seen_event, seen, ShowsHeld, ReadsHeld}
use Rattle.scfs_laws.proofs.Lists.{Each, eqb-apart, each-map, each-always, each-append, each_of-contains, places_replicate}
use Rattle.scfs_laws.proofs.HeldSeats.{Waits, Seated}
use Rattle.scfs_laws.proofs.HeldLines.{Becomes, set_there, of_agent_becomes, nothing_becomes, after_doing, Does}
use Rattle.scfs_laws.proofs.HeldDoing.{seat_of, followed_silent, reacted_does}
use Rattle.scfs_laws.proofs.HeldInputs.{tells_does, hears_does, turns_does}
use Rattle.scfs_laws.proofs.HeldSpace.{IsSeenIn, IsShown, Keeps, seat_set, serves_keeps, postpones_keeps}
use Rattle.scfs_laws.proofs.HeldStays.{reacted_stays}
use Rattle.scfs_laws.proofs.HeldStands.{asks_there, replies_there, IsOne, IsPast, Stands, doing_close, reacted_stands, filter_all, filter_none}
use Rattle.scfs_laws.proofs.HeldMoves.{IsNoClose}
use Rattle.scfs_laws.proofs.Ways.{IsStill, own_input, up_there, of_event}
use Rattle.scfs_laws.proofs.Moves.{has_up}
use Rattle.scfs_laws.proofs.HeldPlaces.{bytes_of, did_keeps, own_keeps, call_keeps, close_found}

-- an agent that is not there closes nothing
not_some : {X A : Type 0} (m : X) (o : Option X) → o ≡ None → o ≡ Some m → A
not_some m None h k = absurd (none m k)
  where
    none : {X : Type 0} (m : X) → None ≡ Some m → ⊥
    none m e = cc
not_some m (Some z) h k = absurd (none z h)
  where
    none : {X : Type 0} (z : X) → Some z ≡ None → ⊥
    none z e = cc

absent_closes : (s : Setup) (x : Seen) (state : State Row) (a h : ℕ) → IsSeenIn s x state → slice_get state.seats a ≡ None
    → IsSeenIn s (of_agent a (with_close a h) x) state
absent_closes s x state a h is absent = record {
  versions = is.versions;
  seats = λ b m found. by b m found (b == a) refl;
}
  where
    by : (b : ℕ) (m : Seat Row) → slice_get state.seats b ≡ Some m → (t : Bool) → (b == a) ≡ t
        → Stands s x.versions b ((of_agent a (with_close a h) x).agents b) m
    by b m found true same = not_some m (slice_get state.seats b) (ap (slice_get state.seats) (eqb-true b a same) ∙ absent) found
    by b m found false differ =
        subst (λ z. Stands s x.versions b z m)
        (sym (set_there x.agents a b (with_close a h (x.agents a)) (λ same. true≢false (sym (eq-eqb b a same) ∙ differ))))
        (is.seats b m found)

-- what an event is, where it is a call that closes nothing, or no call
abbrev IsUsualPlace : Place → Type 0
IsUsualPlace (Agent_has a (Call_comes call)) = IsNoClose call
IsUsualPlace other = Unit {0}

call_event : (event : Event) (a : ℕ) (call : Call) → place_of event ≡ Agent_has a (Call_comes call) → event ≡ events.Call a call
call_event (events.Call b other) a call h = cc
call_event other a call h = absurd (none h)
  where
    none : place_of other ≡ Agent_has a (Call_comes call) → ⊥
    none e = cc

module _ (s : Setup) (message : Option Message) (x : Seen) (state : State Row) (given : Given) (is : IsSeenIn s x state) where
  abbrev Kept : Event → Effect Row → Type 0
  Kept event e = Keeps s event message (bytes_of x) x e

  still_seen : (event : Event) (ls : List Line) → Each IsStill ls → fold (seen_line s event message) x ls ≡ x
  still_seen event [] h = refl
  still_seen event (lines.Skip ∷ ls) h = still_seen event ls h.1
  still_seen event (lines.Did c request sum ∷ ls) h = still_seen event ls h.1
  still_seen event (_ ∷ ls) h = absurd h.0

  still_shown : (event : Event) (l : Line) → IsStill l → IsShown event (bytes_of x) l
  still_shown event lines.Skip h = tt
  still_shown event (lines.Did c request sum) h = tt
  still_shown event _ h = absurd h

  -- all that was there strays after a crash
  crash_keeps : (event : Event) (a : ℕ) (seat : Seat Row) → Stands s x.versions a (x.agents a) seat
      → Kept event (comes s rows state a given [] Crashes seat)
  crash_keeps event a seat mine =
      let y : Agent_seen = x.agents a in
      let g : Agent Row = crashed s seat.agent in
      did_keeps s event message (bytes_of x) x state x a y y seat [] (reacted s rows a seat.agent given Crashes) is
      (nothing_becomes a x) (nothing_becomes a x) refl tt (tt, tt) tt (record {
        seated = subst (λ asked. Seated s x.versions a y (seat_of g asked (replies_there g seat.replied)))
            (sym (filter_none (λ (q : Request Row). is_there g q.number) (seat.asked ++ []) (each-always _ (λ q. refl) (seat.asked ++ []))))
            (subst (λ replied. Seated s x.versions a y (seat_of g [] replied))
            (sym (filter_none (λ (r : Reply Row). is_there g r.number) seat.replied (each-always _ (λ r. refl) seat.replied))) (record {
              based = record { held = tt; same = mine.seated.based.same; ahead = mine.seated.based.ahead; upload = mine.seated.based.upload };
              waits = tt;
              steps = record { asks = tt; replies = tt; alone = omega arith };
            }));
        asks = each-append (IsOne s a y g) seat.asked [] mine.asks tt;
        replies = mine.replies;
        down = λ e. (refl, refl);
      })

  -- a start begins its incarnation with nothing there, and asks that the locks be given back
  start_keeps : (event : Event) (a : ℕ) (seat : Seat Row) → Stands s x.versions a (x.agents a) seat → is_up seat.agent.life ≡ false
      → Kept event (comes s rows state a given [] Starts seat)
  start_keeps event a seat mine down =
      let y : Agent_seen = x.agents a in
      let i : ℕ = seat.agent.incarnation + 1 in
      let z : Agent_seen = with_incarnation i y in
      let r : Reaction Row = starts s rows a seat.agent in
      let g : Agent Row = r.agent in
      let q : Request Row = next_request a (next_life seat.agent) (On_locks Unlock_all) in
      let d = mine.down down in
      let away : (n : ℕ) → n ≤ seat.agent.incarnation → (i == n) ≡ false = λ n l. eqb-apart i n (λ e. omega (arith, e, l)) in
      let old : List (Request Row) = asks_there g (seat.asked ++ q ∷ []) in
      let one : old ≡ q ∷ [] =
      filter-append (λ (q : Request Row). is_there g q.number) seat.asked (q ∷ [])
      ∙ ap (λ asked. asked ++ asks_there g (q ∷ [])) (filter_none (λ (q : Request Row). is_there g q.number) seat.asked
      (each-map (IsOne s a y seat.agent) _ (λ o k. away o.number.incarnation k.2) seat.asked mine.asks))
      ∙ filter_all (λ (q : Request Row). is_there g q.number) (q ∷ []) (eq-eqb i i refl, tt) in
      let none : replies_there g seat.replied ≡ [] =
      filter_none (λ (r : Reply Row). is_there g r.number) seat.replied
      (each-map (IsPast seat.agent) _ (λ o k. away o.number.incarnation k) seat.replied mine.replies) in
      subst (λ w. Kept event (did s state a seat [] w))
      (sym (followed_silent r (λ next. next_begun s rows a next next.closed) (ap (λ closed. next_begun s rows a g closed) d.1)))
      (did_keeps s event message (bytes_of x) x state x a y y seat [] r is (nothing_becomes a x) (nothing_becomes a x) refl tt (tt, tt) tt (record {
        seated = subst (λ asked. Seated s x.versions a z (seat_of g asked (replies_there g seat.replied))) (sym one)
            (subst (λ replied. Seated s x.versions a z (seat_of g (q ∷ []) replied)) (sym none) (record {
              based = record {
                held = mine.seated.based.held;
                same = refl;
                ahead = λ j above. mine.seated.based.ahead j (omega (arith, above, mine.seated.based.same));
                upload = ap (λ (c : Close_seen). c.upload) (mine.seated.based.ahead i (omega (arith, mine.seated.based.same)));
              };
              waits = subst (λ w. Waits s z w g.closed) (sym d.0) (subst (λ closed. Waits s z None closed) (sym d.1) tt);
              steps = record { asks = ((refl, tt), tt); replies = tt; alone = omega arith };
            }));
        asks = each-append (IsOne s a z g) seat.asked (q ∷ [])
            (each-map (IsOne s a y seat.agent) (IsOne s a z g) (λ o k. (k.0, k.1, omega (arith, k.2))) seat.asked mine.asks)
            ((refl, tt, le_refl i), tt);
        replies = each-map (IsPast seat.agent) (IsPast g) (λ o k. omega (arith, k)) seat.replied mine.replies;
        down = λ e. absurd (true≢false e);
      }))

  -- an answer of a cloud is given to the agent that asked
  hears_keeps : (event : Event) (c : ℕ) (request : RequestNo) (answer : CloudAnswer) (seat : Seat Row)
      → Stands s x.versions request.agent (x.agents request.agent) seat → message ≡ Some (Of_answer request answer)
      → is_up seat.agent.life ≡ true
      → Kept event (comes s rows state request.agent given (lines.Gave c request (sum_of s answer) ∷ []) (Hears c request answer) seat)
  hears_keeps event c request answer seat mine about up =
      let a : ℕ = request.agent in
      let input : Input Row = Hears c request answer in
      let y : Agent_seen = with_reading (after_answer s c request answer) (x.agents a) in
      let asked : List (Request Row) = asks_there seat.agent seat.asked in
      let replied : List (Reply Row) = replies_there seat.agent seat.replied in
      let r : Reaction Row = reacted s rows a seat.agent given input in
      let does : Does s event a x.versions y asked replied r =
      reacted_does s event a x.versions y asked replied seat.agent given input
      (hears_does s event a x.versions (x.agents a) asked replied seat.agent given c request answer mine.seated) in
      did_keeps s event message (bytes_of x) x state x a (x.agents a) y seat (lines.Gave c request (sum_of s answer) ∷ []) r is (nothing_becomes a x)
      (subst (λ m. Becomes a x (of_agent a (with_reading (after_message s c request m)) x) y) (sym about)
      (of_agent_becomes a (with_reading (after_answer s c request answer)) x)) refl (tt, tt) does.says does.sent
      (reacted_stands s a x.versions (x.agents a) (after_doing s event x.versions r.says r.sent y) seat r mine up
      (reacted_stays s a seat.agent up given input tt)
      (λ i e. ap (λ (close : ℕ → Close_seen). close i) (sym (doing_close s event x.versions r.says r.sent y))) seat.replied mine.replies does.seated)

  -- the oldest reply is away
  fewer : (a : ℕ) (seat : Seat Row) (oldest : Reply Row) (rest : List (Reply Row)) → seat.replied ≡ oldest ∷ rest
      → Stands s x.versions a (x.agents a) seat → Stands s x.versions a (x.agents a) (record seat { replied = oldest ∷ rest })
  fewer a seat oldest rest same mine = subst (λ xs. Stands s x.versions a (x.agents a) (record seat { replied = xs })) same mine

  -- it is told
  told_keeps : (event : Event) (a : ℕ) (seat : Seat Row) (oldest : Reply Row) (rest : List (Reply Row)) → seat.replied ≡ oldest ∷ rest
      → Stands s x.versions a (x.agents a) seat → is_there seat.agent oldest.number ≡ true
      → Kept event (comes s rows state a given [] (Tells oldest.number oldest.outcome) (record seat { replied = rest }))
  told_keeps event a seat oldest rest same mine there =
      let g : Agent Row = seat.agent in
      let asked : List (Request Row) = asks_there g seat.asked in
      let whole : Stands s x.versions a (x.agents a) (record seat { replied = oldest ∷ rest }) = fewer a seat oldest rest same mine in
      let seated : Seated s x.versions a (x.agents a) (seat_of g asked (oldest ∷ replies_there g rest)) =
      subst (λ b. Seated s x.versions a (x.agents a) (seat_of g asked (cond b (oldest ∷ replies_there g rest) (replies_there g rest)))) there whole.seated in
      own_keeps s message x state given is event a seat mine rest (Tells oldest.number oldest.outcome) (up_there g oldest.number there) tt whole.replies.1
      (reacted_does s event a x.versions (x.agents a) asked (replies_there g rest) g given (Tells oldest.number oldest.outcome)
      (tells_does s event a x.versions (x.agents a) asked (replies_there g rest) g given oldest (up_there g oldest.number there) seated))

  -- or gone
  missed_keeps : (event : Event) (a : ℕ) (seat : Seat Row) (oldest : Reply Row) (rest : List (Reply Row)) → seat.replied ≡ oldest ∷ rest
      → Stands s x.versions a (x.agents a) seat → is_there seat.agent oldest.number ≡ false
      → Kept event (leaving (with_seat state a (record seat { replied = rest })) (lines.Gone oldest.number ∷ []))
  missed_keeps event a seat oldest rest same mine away =
      let g : Agent Row = seat.agent in
      let whole : Stands s x.versions a (x.agents a) (record seat { replied = oldest ∷ rest }) = fewer a seat oldest rest same mine in
      record {
        seen = seat_set s event message (bytes_of x) x state a (record seat { replied = rest }) (record {
          seated = subst (λ b. Seated s x.versions a (x.agents a) (seat_of g (asks_there g seat.asked)
              (cond b (oldest ∷ replies_there g rest) (replies_there g rest)))) away whole.seated;
          asks = whole.asks;
          replies = whole.replies.1;
          down = whole.down;
        }) is state.tree refl;
        shown = (tt, tt);
      }

  -- what an agent has of its own accord
  own_way : (event : Event) (a : ℕ) (seat : Seat Row) (w : At_agent) → Stands s x.versions a (x.agents a) seat → place_of event ≡ Agent_has a w
      → IsUsualPlace (place_of event) → is_up seat.agent.life ≡ has_up {V = Row} (own_input w)
      → Kept event (comes s rows state a given [] (own_input w) seat)
  own_way event a seat (Call_comes call) mine at usual up =
      subst (λ e. Kept e (comes s rows state a given [] (Calls call) seat)) (sym (call_event event a call at))
      (call_keeps s message x state given is a call (subst IsUsualPlace at usual) seat mine up)
  own_way event a seat Turn_comes mine at usual up =
      let asked : List (Request Row) = asks_there seat.agent seat.asked in
      let replied : List (Reply Row) = replies_there seat.agent seat.replied in
      own_keeps s message x state given is event a seat mine seat.replied Turns up tt mine.replies
      (reacted_does s event a x.versions (x.agents a) asked replied seat.agent given Turns
      (turns_does s event a x.versions (x.agents a) asked replied seat.agent given mine.seated))
  own_way event a seat Crash_comes mine at usual up = crash_keeps event a seat mine
  own_way event a seat Start_comes mine at usual up = start_keeps event a seat mine up

  usual_keeps : (event : Event) → IsUsualPlace (place_of event) → Kept event (effect s rows state event message given)
  usual_keeps event usual =
      of_event s rows state given message (Kept event) (place_of event)
      (record {
        nothing = λ shown idle still. record {
          seen = subst (λ z. IsSeenIn s z state) (sym (still_seen event shown still)) is;
          shown = each-map IsStill _ (still_shown event) shown still;
        };
        later = λ ticks. record { seen = record { versions = is.versions; seats = is.seats }; shown = tt };
        gone = λ a seat request found. record {
          seen = seat_set s event message (bytes_of x) x state a seat (is.seats a seat found) is state.tree refl;
          shown = (tt, tt);
        };
        missed = λ a seat oldest rest found same away. missed_keeps event a seat oldest rest same (is.seats a seat found) away;
        own = λ a seat w found at up. own_way event a seat w (is.seats a seat found) at usual up;
        hears = λ c request answer seat found at about there.
            hears_keeps event c request answer seat (is.seats request.agent seat found) about (up_there seat.agent request there);
        told = λ a seat oldest rest found same there. told_keeps event a seat oldest rest same (is.seats a seat found) there;
        serve = λ a seat oldest rest found same at.
            let mine = subst (λ asked. Stands s x.versions a (x.agents a) (record seat { asked = asked })) same (is.seats a seat found) in
            serves_keeps s event message (bytes_of x) x state a seat.agent oldest rest seat.replied mine is;
        postpone = λ a seat oldest rest found same.
            let mine = subst (λ asked. Stands s x.versions a (x.agents a) (record seat { asked = asked })) same (is.seats a seat found) in
            subst (λ asked. Kept event (leaving (with_seat state a (record seat { asked = moved_back asked })) [])) (sym same)
            (postpones_keeps s event message (bytes_of x) x state a seat.agent oldest rest seat.replied mine is);
      })

  closes_keep : (a h : ℕ) → let event = events.Call a (calls.Close h) in
      let e = at_seat state a (at_agent s rows state given a (Call_comes (calls.Close h))) in
      Keeps s event message (bytes_of x) (seen_event event e.lines x) e
  closes_keep a h = by (slice_get state.seats a) refl
    where
      event : Event
      event = events.Call a (calls.Close h)

      on : Seat Row → Effect Row
      on = at_agent s rows state given a (Call_comes (calls.Close h))

      found : (seat : Seat Row) → Stands s x.versions a (x.agents a) seat → (b : Bool) → is_up seat.agent.life ≡ b
          → let e = comes_if s rows b state a given (Calls (calls.Close h)) seat in Keeps s event message (bytes_of x) (seen_event event e.lines x) e
      found seat mine true up = close_found s message x state given is a h seat mine up
      found seat mine false down = record { seen = is; shown = (tt, tt) }

      by : (o : Option (Seat Row)) → slice_get state.seats a ≡ o
          → Keeps s event message (bytes_of x) (seen_event event (if_some o (leaving state []) on).lines x) (if_some o (leaving state []) on)
      by None absent = record { seen = absent_closes s x state a h is absent; shown = tt }
      by (Some seat) there = found seat (is.seats a seat there) (is_up seat.agent.life) refl

  pub effect_keeps : (event : Event) → let e = effect s rows state event message given in Keeps s event message (bytes_of x)
      (seen_event event e.lines x) e
  effect_keeps (events.Call a (calls.Close h)) = closes_keep a h
  effect_keeps (events.Call a call) = usual_keeps (events.Call a call) tt
  effect_keeps other = usual_keeps other tt

-- at first nothing is seen, and nothing is there

first_seen : (s : Setup) → IsSeenIn s (nothing_seen s) (first_state s)
first_seen s = record {
  versions = tt;
  seats = places_replicate (λ b m. Stands s [] b ((nothing_seen s).agents b) m) (length s.header.agents) (first_seat s) (λ b. record {
    seated = record {
      based = record { held = tt; same = refl; ahead = λ i less. refl; upload = refl };
      waits = tt;
      steps = record { asks = tt; replies = tt; alone = omega arith };
    };
    asks = tt;
    replies = tt;
    down = λ e. absurd (true≢false e);
  });
}

pub seen_after : (s : Setup) (past : History) → Happens s past → IsSeenIn s (seen s past) (actual s past)
seen_after s [] happens = first_seen s
seen_after s (e ∷ past) happens =
    let state = actual s past in
    subst (λ shown. IsSeenIn s (fold (seen_line s e.event e.message) (seen_event e.event shown (seen s past)) shown)
    (effect_after s rows past e).state)
    (sym happens.0) (effect_keeps s e.message (seen s past) state (given_of state.clock e) (seen_after s past happens.1) e.event).seen

-- the law

pub shows_held : (s : Setup) (past : History) (e : Entry) → Happens s (e ∷ past) → ShowsHeld s past e
shows_held s past e happens a h bytes contains =
    let state = actual s past in
    let shown = (effect_keeps s e.message (seen s past) state (given_of state.clock e) (seen_after s past happens.1) e.event).shown in
    each_of-contains (IsShown e.event (bytes_of (seen s past))) e.lines (lines.Data a h bytes)
    (subst (Each (IsShown e.event (bytes_of (seen s past)))) (sym happens.0) shown) contains

pub reads_are_held : (s : Setup) (past : History) → Happens s past → ReadsHeld s past
reads_are_held s [] happens = tt
reads_are_held s (e ∷ past) happens = (shows_held s past e happens, reads_are_held s past happens.1)

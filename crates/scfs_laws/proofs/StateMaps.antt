-- What an event does is the same where a version is something else.
use Rattle.std.proofs.Common.{◌≡◌, ℕ, ◌-◌, List, [], ◌∷◌, map, true, false, refl, ap, ◌∙◌, ◌+◌, ◌++◌, Bool, not, Option, Some, None, subst}
use Rattle.std.specs.Prelude.{◌&&◌, ◌==◌, Ok, Err, slice_get, if◌then◌else◌}
use Rattle.scfs_base.specs.declared.naming.RequestNo.{RequestNo}
use Rattle.scfs_model.specs.Names.{same_file}
use Rattle.scfs_model.specs.Format.{Setup, sealed}
use Rattle.scfs_model.specs.Versions.{Versions}
use Rattle.scfs_model.specs.Given.{Given}
use Rattle.scfs_model.specs.Tree.{Node, Tree, node_at, lock_on, session_lock, live}
use Rattle.scfs_model.specs.Walks.{OrRefusal, on_ok}
use Rattle.scfs_model.specs.SessionSteps.{Session_step, Open_read, Open_write, Commit, Session_outcome, Sees, Locks, Completes, new_lock, still_held, sight_of, with_version, session_outcome, session_after, session_line}
use Rattle.scfs_model.specs.Steps.{after_ok, line_of, Step, On_names, On_locks, On_sessions, Outcome, Of_names, Of_locks, Of_sessions, Served, served, served_line}
use Rattle.scfs_model.specs.Agents.{Request, Input, Calls, Tells, Hears, Turns, Crashes, Starts, Sent, Reaction}
use Rattle.scfs_laws.specs.Mapped.{Own, through}
use Rattle.scfs_laws.proofs.ListMaps.{map_append, on_ok_then, find_map, get_map, set_map, moved_map}
use Rattle.scfs_base.specs.declared.naming.UploadNo.{UploadNo}
use Rattle.scfs_schedule.specs.declared.types.Event.{Event}
use Rattle.scfs_schedule.specs.declared.types.Line.{Line}
use Rattle.scfs_session.specs.declared.sessions.Session.{Session}
use Rattle.scfs_model.specs.Lists.{if_some, moved_back}
use Rattle.scfs_model.specs.History.{Message, Of_request, Of_answer}
use Rattle.scfs_model.specs.Sayings.{said_by}
use Rattle.scfs_model.specs.Lives.{is_up}
use Rattle.scfs_model.specs.Reactions.{reacted}
use Rattle.scfs_model.specs.Events.{At_agent, Call_comes, Turn_comes, Crash_comes, Start_comes, At_space, Step_served, Step_postponed, Reply_told, Request_answered, Answer_given, Message_moved, Place, Agent_has, Space_has, Cloud_has, Clock_has, place_of}
use Rattle.scfs_model.specs.States.{Reply, Seat, State, Effect, request_line, sum_of, leaving, with_seat, at_seat, is_there, postpones, moves, did, comes, comes_if, comes_back, serves, tells, answers_by, gives, at_agent, at_space, at_place, effect}
use Rattle.scfs_laws.specs.Sound.{FitsAt, FitsGiven, FitsPlace}
use Rattle.scfs_laws.specs.Mapped as to
use Rattle.scfs_schedule.specs.declared.types.Line.TheVariants as lines
use Rattle.scfs_laws.proofs.AgentMaps.{FitsInput, same_reacted}

module _ {V W : Type 0} (g : V → W) where
  same_with : (x : State V) (a : ℕ) (seat : Seat V) → with_seat (to.state g x) a (to.seat g seat) ≡ to.state g (with_seat x a seat)
  same_with x a seat = ap (λ seats. record (to.state g x) { seats = seats }) (set_map (to.seat g) x.seats a seat)

  same_postpones : (x : State V) (a : ℕ) (seat : Seat V) (asked : List (Request V))
      → postpones (to.state g x) a (to.seat g seat) (map (to.request g) asked) ≡ to.effect g (postpones x a seat asked)
  same_postpones x a seat [] = refl
  same_postpones x a seat (oldest ∷ rest) =
      ap (λ all. leaving (with_seat (to.state g x) a (record (to.seat g seat) { asked = all })) []) (moved_map (to.request g) seat.asked)
      ∙ ap (λ y. leaving y []) (same_with x a (record seat { asked = moved_back seat.asked }))

  same_moves : (x : State V) (m : Option Message) → moves (to.state g x) m ≡ to.effect g (moves x m)
  same_moves x None = refl
  same_moves x (Some m) = refl

  at_some : (x : State V) (on : Seat W → Effect W) (off : Seat V → Effect V) (seat : Option (Seat V))
      → ((y : Seat V) → seat ≡ Some y → on (to.seat g y) ≡ to.effect g (off y))
      → if_some (to.some (to.seat g) seat) (leaving (to.state g x) []) on ≡ to.effect g (if_some seat (leaving x []) off)
  at_some x on off None same = refl
  at_some x on off (Some seat) same = same seat refl

  same_at : (x : State V) (a : ℕ) (on : Seat W → Effect W) (off : Seat V → Effect V)
      → ((y : Seat V) → slice_get x.seats a ≡ Some y → on (to.seat g y) ≡ to.effect g (off y)) → at_seat (to.state g x) a on ≡ to.effect g (at_seat x a off)
  same_at x a on off same =
      ap (λ seat. if_some seat (leaving (to.state g x) []) on) (get_map (to.seat g) x.seats a) ∙ at_some x on off (slice_get x.seats a) same

module _ {V W : Type 0} (s : Setup) (ws : Versions W) (g : V → W) (own : Own V)
    (closes : (y : Session) (u : UploadNo) → ws.closed y u (sealed s u y.contents) ≡ g (own.closed y u (sealed s u y.contents)))
    (completes : (v : V) (now : ℕ) → ws.completed (g v) now ≡ g (own.completed v now)) where
  abbrev vs : Versions V
  vs = through ws g own

  abbrev Fits : V → List ℕ → Type 0
  Fits v bytes = ws.contents (g v) bytes ≡ own.contents v bytes

  same_sight : (t : Tree V) (n : Node) → sight_of ws (to.tree g t) n ≡ to.sight g (sight_of vs t n)
  same_sight t n =
      ap (λ v. record { file = n.id; number = n.newest; version = v; lock = lock_on t.locks n.id })
      (find_map g (λ w. same_file (ws.file w) n.id && (ws.number w == n.newest)) t.versions)

  same_put : (t : Tree V) (request : RequestNo) (o : Session_outcome V)
      → session_after ws (to.tree g t) request (to.session_outcome g o) ≡ to.tree g (session_after vs t request o)
  same_put t request (Sees x) = refl
  same_put t request (Locks x l) = refl
  same_put t request (Completes h v n) =
      let after = session_after vs t request (Completes h v n) in
      ap (λ all. record { nodes = after.nodes; locks = after.locks; versions = all }) (map_append g t.versions (v ∷ []))

  pub same_session_after : (t : Tree V) (request : RequestNo) (r : OrRefusal (Session_outcome V))
      → after_ok (to.tree g t) (session_after ws (to.tree g t) request) (on_ok (to.session_outcome g) r)
      ≡ to.tree g (after_ok t (session_after vs t request) r)
  same_session_after t request (Ok o) = same_put t request o
  same_session_after t request (Err why) = refl

  pub same_session_line : (request : RequestNo) (r : OrRefusal (Session_outcome V))
      → line_of request (session_line ws) (on_ok (to.session_outcome g) r) ≡ line_of request (session_line vs) r
  same_session_line request (Ok (Sees x)) = refl
  same_session_line request (Ok (Locks x l)) = refl
  same_session_line request (Ok (Completes h v n)) = refl
  same_session_line request (Err why) = refl

  pub same_session_outcome : (t : Tree V) (now until : ℕ) (request : RequestNo) (x : Session_step V)
      → session_outcome ws (to.tree g t) now until request (to.session_step g x) ≡ on_ok (to.session_outcome g) (session_outcome vs t now until request x)
  same_session_outcome t now until request (Open_read names h) =
      on_ok_then _ _ _ (λ n. ap (λ x. Sees x) (same_sight t n)) _
  same_session_outcome t now until request (Open_write names h) =
      on_ok_then _ _ _ (λ n. ap (λ x. Locks x (new_lock request h until n.id)) (same_sight t n)) _
  same_session_outcome t now until request (Commit h v) =
      let node = still_held (session_lock t.locks request (vs.file v) h) (node_at t.nodes (vs.file v) (vs.number v - 1)) in
      ap (λ w. on_ok (λ n. Completes h w (with_version ws n w)) node) (completes v now)
      ∙ on_ok_then (to.session_outcome g) _ (λ n. Completes h (own.completed v now) (with_version vs n (own.completed v now))) (λ n. refl) node

  pub same_served_line : (request : RequestNo) (o : Outcome V) → served_line ws request (to.outcome g o) ≡ served_line vs request o
  same_served_line request (Of_names x r) = refl
  same_served_line request (Of_locks x r) = refl
  same_served_line request (Of_sessions x r) = same_session_line request r

  pub same_served : (t : Tree V) (now lease : ℕ) (request : RequestNo) (x : Step V)
      → served ws (to.tree g t) now lease request (to.step g x) ≡ to.served g (served vs t now lease request x)
  same_served t now lease request (On_names x) = refl
  same_served t now lease request (On_locks x) = refl
  same_served t now lease request (On_sessions x) =
      let r = session_outcome vs t now (now + lease) request x in
      let effect_of : OrRefusal (Session_outcome W) → Served W =
      λ q. record { outcome = Of_sessions (to.session_step g x) q; tree = after_ok (to.tree g t) (session_after ws (to.tree g t) request) q } in
      ap effect_of (same_session_outcome t now (now + lease) request x)
      ∙ ap (λ u. record { outcome = Of_sessions (to.session_step g x) (on_ok (to.session_outcome g) r); tree = u }) (same_session_after t request r)

  same_did : (x : State V) (a : ℕ) (seat : Seat V) (before : List Line) (r : Reaction V)
      → did s (to.state g x) a (to.seat g seat) before (to.reaction g r) ≡ to.effect g (did s x a seat before r)
  same_did x a seat before r =
      let shown = before ++ map (said_by a) r.says ++ map (λ (y : Sent). request_line s y.number y.cloud y.body) r.sent in
      ap (λ asked. record {
        state = with_seat (to.state g x) a (record (to.seat g seat) { agent = to.agent g r.agent; asked = asked });
        lines = shown;
        sent = r.sent;
        ranked = r.ranked;
      }) (map_append (to.request g) seat.asked r.steps)
      ∙ ap (λ y. record { state = y; lines = shown; sent = r.sent; ranked = r.ranked })
      (same_with g x a (record seat { agent = r.agent; asked = seat.asked ++ r.steps }))

  same_comes : (x : State V) (a : ℕ) (given : Given) (before : List Line) (y : Input V) (seat : Seat V) → FitsInput s ws g own a seat.agent y
      → comes s ws (to.state g x) a given before (to.input g y) (to.seat g seat) ≡ to.effect g (comes s vs x a given before y seat)
  same_comes x a given before y seat fits =
      ap (λ r. did s (to.state g x) a (to.seat g seat) before r) (same_reacted s ws g own a closes seat.agent given y fits)
      ∙ same_did x a seat before (reacted s vs a seat.agent given y)

  same_comes_if : (can : Bool) (x : State V) (a : ℕ) (given : Given) (y : Input V) (seat : Seat V) → FitsInput s ws g own a seat.agent y
      → comes_if s ws can (to.state g x) a given (to.input g y) (to.seat g seat) ≡ to.effect g (comes_if s vs can x a given y seat)
  same_comes_if true x a given y seat fits = same_comes x a given [] y seat fits
  same_comes_if false x a given y seat fits = refl

  back_if : (there : Bool) (x : State V) (a : ℕ) (given : Given) (request : RequestNo) (before : List Line) (y : Input V) (seat : Seat V)
      → FitsInput s ws g own a seat.agent y
      → (if there then comes s ws (to.state g x) a given before (to.input g y) (to.seat g seat)
      else leaving (with_seat (to.state g x) a (to.seat g seat)) (lines.Gone request ∷ []))
      ≡ to.effect g (if there then comes s vs x a given before y seat else leaving (with_seat x a seat) (lines.Gone request ∷ []))
  back_if true x a given request before y seat fits = same_comes x a given before y seat fits
  back_if false x a given request before y seat fits = ap (λ z. leaving z (lines.Gone request ∷ [])) (same_with g x a seat)

  same_back : (x : State V) (a : ℕ) (given : Given) (request : RequestNo) (before : List Line) (y : Input V) (seat : Seat V)
      → FitsInput s ws g own a seat.agent y
      → comes_back s ws (to.state g x) a given request before (to.input g y) (to.seat g seat)
      ≡ to.effect g (comes_back s vs x a given request before y seat)
  same_back x a given request before y seat fits = back_if (is_there seat.agent request) x a given request before y seat fits

  same_serves : (x : State V) (a : ℕ) (seat : Seat V) (asked : List (Request V))
      → serves s ws (to.state g x) a (to.seat g seat) (map (to.request g) asked) ≡ to.effect g (serves s vs x a seat asked)
  same_serves x a seat [] = refl
  same_serves x a seat (oldest ∷ rest) =
      let y = served vs (live x.clock x.tree) x.clock s.header.lease oldest.number oldest.step in
      let now : Reply V = record { number = oldest.number; outcome = y.outcome } in
      let put : List (Reply W) → Seat W = λ replied. record (to.seat g seat) { asked = map (to.request g) rest; replied = replied } in
      let effect_with : Served W → Effect W = λ p.
      leaving (with_seat (record (to.state g x) { tree = p.tree }) a
      (put (map (to.reply g) seat.replied ++ (record { number = oldest.number; outcome = p.outcome }) ∷ [])))
      (served_line ws oldest.number p.outcome ∷ []) in
      let shown = served_line ws oldest.number (to.outcome g y.outcome) ∷ [] in
      ap effect_with (same_served (live x.clock x.tree) x.clock s.header.lease oldest.number oldest.step)
      ∙ ap (λ all. leaving (with_seat (record (to.state g x) { tree = to.tree g y.tree }) a (put all)) shown) (map_append (to.reply g) seat.replied (now ∷ []))
      ∙ ap (λ z. leaving z shown) (same_with g (record x { tree = y.tree }) a (record seat { asked = rest; replied = seat.replied ++ now ∷ [] }))
      ∙ ap (λ line. leaving (to.state g (serves s vs x a seat (oldest ∷ rest)).state) (line ∷ [])) (same_served_line oldest.number y.outcome)

  same_tells : (x : State V) (a : ℕ) (given : Given) (seat : Seat V) (replied : List (Reply V))
      → tells s ws (to.state g x) a given (to.seat g seat) (map (to.reply g) replied) ≡ to.effect g (tells s vs x a given seat replied)
  same_tells x a given seat [] = refl
  same_tells x a given seat (oldest ∷ rest) =
      same_back x a given oldest.number [] (Tells oldest.number oldest.outcome) (record seat { replied = rest }) _

  same_answers : (x : State V) (c : ℕ) (m : Option Message) → answers_by s (to.state g x) c m ≡ to.effect g (answers_by s x c m)
  same_answers x c None = refl
  same_answers x c (Some (Of_request request)) = refl
  same_answers x c (Some (Of_answer request answer)) = refl

  same_gives : (x : State V) (given : Given) (c : ℕ) (m : Option Message) → FitsGiven s Fits x c m
      → gives s ws (to.state g x) given c m ≡ to.effect g (gives s vs x given c m)
  same_gives x given c None fits = refl
  same_gives x given c (Some (Of_request request)) fits = refl
  same_gives x given c (Some (Of_answer request answer)) fits =
      same_at g x request.agent _ _ (λ seat is.
      same_back x request.agent given request (lines.Gave c request (sum_of s answer) ∷ []) (Hears c request answer) seat
      (subst (λ y. FitsAt s Fits c request answer y) is fits))

  same_at_agent : (x : State V) (given : Given) (a : ℕ) (y : At_agent) (seat : Seat V)
      → at_agent s ws (to.state g x) given a y (to.seat g seat) ≡ to.effect g (at_agent s vs x given a y seat)
  same_at_agent x given a (Call_comes call) seat = same_comes_if (is_up seat.agent.life) x a given (Calls call) seat _
  same_at_agent x given a Turn_comes seat = same_comes_if (is_up seat.agent.life) x a given Turns seat _
  same_at_agent x given a Crash_comes seat = same_comes_if (is_up seat.agent.life) x a given Crashes seat _
  same_at_agent x given a Start_comes seat = same_comes_if (not (is_up seat.agent.life)) x a given Starts seat _

  same_at_space : (x : State V) (given : Given) (a : ℕ) (y : At_space) (seat : Seat V)
      → at_space s ws (to.state g x) given a y (to.seat g seat) ≡ to.effect g (at_space s vs x given a y seat)
  same_at_space x given a Step_served seat = same_serves x a seat seat.asked
  same_at_space x given a Step_postponed seat = same_postpones g x a seat seat.asked
  same_at_space x given a Reply_told seat = same_tells x a given seat seat.replied

  same_place : (x : State V) (m : Option Message) (given : Given) (p : Place) → FitsPlace s Fits x m p
      → at_place s ws (to.state g x) m given p ≡ to.effect g (at_place s vs x m given p)
  same_place x m given (Agent_has a y) fits = same_at g x a _ _ (λ seat is. same_at_agent x given a y seat)
  same_place x m given (Space_has a y) fits = same_at g x a _ _ (λ seat is. same_at_space x given a y seat)
  same_place x m given (Cloud_has c Request_answered) fits = same_answers x c m
  same_place x m given (Cloud_has c Answer_given) fits = same_gives x given c m fits
  same_place x m given (Cloud_has c Message_moved) fits = same_moves g x m
  same_place x m given (Clock_has ticks) fits = refl

  -- what an event does is the same, where what an open finds in it fits its version
  pub same_effect : (x : State V) (e : Event) (m : Option Message) (given : Given) → FitsPlace s Fits x m (place_of e)
      → effect s ws (to.state g x) e m given ≡ to.effect g (effect s vs x e m given)
  same_effect x e m given fits = same_place x m given (place_of e) fits

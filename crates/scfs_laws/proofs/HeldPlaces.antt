-- Each event leaves what is seen tied to the machine's state.
use Rattle.std.proofs.Common.{◌≡◌, ℕ, ◌+◌, List, [], ◌∷◌, ◌++◌, map, fold, refl, sym, ap, ◌∙◌, subst, inl, inr, cond, eqb, true, false, Option}
use Rattle.std.specs.Prelude.{◌==◌}
use Rattle.scfs_base.specs.declared.naming.RequestNo.{RequestNo}
use Rattle.scfs_base.specs.declared.cloud.CloudRequest.{CloudRequest}
use Rattle.scfs_base.specs.declared.cloud.CloudRequest.TheVariants as requests
use Rattle.scfs_schedule.specs.declared.types.Call.{Call}
use Rattle.scfs_schedule.specs.declared.types.Call.TheVariants as calls
use Rattle.scfs_schedule.specs.declared.types.Event.{Event}
use Rattle.scfs_schedule.specs.declared.types.Event.TheVariants as events
use Rattle.scfs_schedule.specs.declared.types.Line.{Line}
use Rattle.scfs_session.specs.Contents.{bytes_from}
use Rattle.scfs_model.specs.Names.{upload_no}
use Rattle.scfs_model.specs.Format.{Setup}
use Rattle.scfs_model.specs.History.{Message}
use Rattle.scfs_model.specs.Given.{Given}
use Rattle.scfs_model.specs.Sayings.{Saying, Reads_out, said_by}
use Rattle.scfs_model.specs.Agents.{Request, Sent, Input, Calls, Reaction}
use Rattle.scfs_model.specs.Reactions.{reacted}
use Rattle.scfs_model.specs.Layers.{Row, rows}
use Rattle.scfs_model.specs.States.{Reply, Seat, State, Effect, request_line, did, comes}
use Rattle.scfs_model.specs.Lives.{is_up}
use Rattle.scfs_laws.specs.Held.{Close_seen, Agent_seen, Seen, of_agent, seen_line, with_close, seen_event}
use Rattle.scfs_laws.proofs.Lists.{eqb-comm, Each, each-append}
use Rattle.scfs_laws.proofs.HeldStays.{IsUsual, reacted_stays}
use Rattle.scfs_laws.proofs.HeldStands.{asks_there, replies_there, IsPast, Stands, doing_close, reacted_stands}
use Rattle.scfs_laws.proofs.HeldLines.{Becomes, of_agent_becomes, nothing_becomes, then_becomes, after_doing, IsSaid, IsOwn, lines_become, Does}
use Rattle.scfs_laws.proofs.HeldDoing.{reacted_does}
use Rattle.scfs_laws.proofs.HeldMoves.{IsNoClose}
use Rattle.scfs_laws.proofs.HeldInputs.{call_does}
use Rattle.scfs_laws.proofs.HeldClosing.{closing}
use Rattle.scfs_laws.proofs.HeldVersions.{Tied}
use Rattle.scfs_laws.proofs.HeldSpace.{IsSeenIn, IsShown, Keeps, get_cases}

-- the lines of an agent show only what it says

module _ (event : Event) (bytes : ℕ → ℕ → List ℕ) (a : ℕ) (y : Agent_seen) where
  saying_shown : (z : Saying) → y.bytes ≡ bytes a → IsSaid event a y.bytes z → IsShown event bytes (said_by a z)
  saying_shown (Reads_out h shown) same is = (is.0, is.1, is.2, is.3 ∙ ap (λ (at : ℕ → List ℕ). bytes_from (at h) is.0 is.1) same)
  saying_shown _ same is = tt

  says_shown : (says : List Saying) → y.bytes ≡ bytes a → Each (IsSaid event a y.bytes) says → Each (IsShown event bytes) (map (said_by a) says)
  says_shown [] same is = tt
  says_shown (z ∷ rest) same is = (saying_shown z same is.0, says_shown rest same is.1)

module _ (s : Setup) (event : Event) (bytes : ℕ → ℕ → List ℕ) where
  request_shown : (number : RequestNo) (c : ℕ) (body : CloudRequest) → IsShown event bytes (request_line s number c body)
  request_shown number c (requests.Put name body) = tt
  request_shown number c (requests.Get name limit) = tt
  request_shown number c (requests.Delete name) = tt
  request_shown number c (requests.List prefix) = tt

  sent_shown : (sent : List Sent) → Each (IsShown event bytes) (map (λ (q : Sent). request_line s q.number q.cloud q.body) sent)
  sent_shown [] = tt
  sent_shown (q ∷ rest) = (request_shown q.number q.cloud q.body, sent_shown rest)

module _ (s : Setup) (event : Event) (message : Option Message) (bytes : ℕ → ℕ → List ℕ) (x : Seen) (state : State Row) where
  -- what agent a did, where what is seen of it was changed before, by its event and by the lines before its own
  pub did_keeps : (start : Seen) (a : ℕ) (first y : Agent_seen) (seat : Seat Row) (before : List Line) (r : Reaction Row) → IsSeenIn s x state
      → Becomes a x start first → Becomes a start (fold (seen_line s event message) start before) y
      → y.bytes ≡ bytes a
      → Each (IsShown event bytes) before → Each (IsSaid event a y.bytes) r.says → Each (IsOwn a) r.sent
      → Stands s x.versions a (after_doing s event x.versions r.says r.sent y) (record seat { agent = r.agent; asked = seat.asked ++ r.steps })
      → Keeps s event message bytes start (did s state a seat before r)
  did_keeps start a first y old before r is begins goes same shown said own stands =
      let step = seen_line s event message in
      let told = map (said_by a) r.says in
      let sent = map (λ (q : Sent). request_line s q.number q.cloud q.body) r.sent in
      let seat : Seat Row = record old { agent = r.agent; asked = old.asked ++ r.steps } in
      let after = fold step start (before ++ told ++ sent) in
      let y2 = after_doing s event x.versions r.says r.sent y in
      let becomes : Becomes a x after y2 =
      then_becomes a x start after first (λ versions z. after_doing s event versions r.says r.sent y) begins
      (lines_become s event message a y.bytes start before y r.says r.sent goes said own) in
      record {
        seen = record {
          versions = subst (Tied s state.tree.versions) (sym becomes.versions) is.versions;
          seats = λ b m found. subst (λ vs. Stands s vs b (after.agents b) m) (sym becomes.versions)
              (elim (get_cases state.seats a b seat m found) [
                | inl k ↦ subst (λ k. Stands s x.versions k (after.agents k) m) (sym k.0)
                    (subst (λ z. Stands s x.versions a z m) (sym becomes.mine) (subst (Stands s x.versions a y2) k.1 stands))
                | inr k ↦ subst (λ z. Stands s x.versions b z m) (sym (becomes.others b k.0)) (is.seats b m k.1)
              ]);
        };
        shown = each-append (IsShown event bytes) (before ++ told) sent
            (each-append (IsShown event bytes) before told shown (says_shown event bytes a y r.says same said))
            (sent_shown s event bytes r.sent);
      }

-- what is seen so far of the bytes of sessions
abbrev pub bytes_of : Seen → ℕ → ℕ → List ℕ
bytes_of x a = (x.agents a).bytes

module _ (s : Setup) (message : Option Message) (x : Seen) (state : State Row) (given : Given) (is : IsSeenIn s x state) where
  -- an agent that does something of its own accord, where these replies are left
  pub own_keeps : (event : Event) (a : ℕ) (seat : Seat Row) (mine : Stands s x.versions a (x.agents a) seat) (all : List (Reply Row))
      (input : Input Row) → is_up seat.agent.life ≡ true → IsUsual s a input → Each (IsPast seat.agent) all
      → Does s event a x.versions (x.agents a) (asks_there seat.agent seat.asked) (replies_there seat.agent all) (reacted s rows a seat.agent given input)
      → Keeps s event message (bytes_of x) x (comes s rows state a given [] input (record seat { replied = all }))
  own_keeps event a seat mine all input up usual past does =
      let r : Reaction Row = reacted s rows a seat.agent given input in
      let y : Agent_seen = x.agents a in
      let z : Agent_seen = after_doing s event x.versions r.says r.sent y in
      did_keeps s event message (bytes_of x) x state x a y y (record seat { replied = all }) [] r is
      (nothing_becomes a x) (nothing_becomes a x) refl tt does.says does.sent
      (reacted_stands s a x.versions y z seat r mine up (reacted_stays s a seat.agent up given input usual)
      (λ i e. ap (λ (close : ℕ → Close_seen). close i) (sym (doing_close s event x.versions r.says r.sent y))) all past does.seated)

  pub call_keeps : (a : ℕ) (call : Call) → IsNoClose call → (seat : Seat Row) → Stands s x.versions a (x.agents a) seat
      → is_up seat.agent.life ≡ true
      → Keeps s (events.Call a call) message (bytes_of x) x (comes s rows state a given [] (Calls call) seat)
  call_keeps a call kind seat mine up =
      let asked : List (Request Row) = asks_there seat.agent seat.asked in
      let replied : List (Reply Row) = replies_there seat.agent seat.replied in
      own_keeps (events.Call a call) a seat mine seat.replied (Calls call) up tt mine.replies
      (reacted_does s (events.Call a call) a x.versions (x.agents a) asked replied seat.agent given (Calls call)
      (call_does s a x.versions (x.agents a) asked replied seat.agent given call kind mine.seated))

  -- a close
  pub close_found : (a h : ℕ) (seat : Seat Row) → Stands s x.versions a (x.agents a) seat → is_up seat.agent.life ≡ true
      → let event = events.Call a (calls.Close h) in let e = comes s rows state a given [] (Calls (calls.Close h)) seat in
      Keeps s event message (bytes_of x) (seen_event event e.lines x) e
  close_found a h seat mine up =
      elim (closing s event a x.versions y (asks_there seat.agent seat.asked) (replies_there seat.agent seat.replied) given h seat.agent seat.agent.waiting seat.agent.closed mine.seated) [
        | inl k ↦ subst (λ start. Keeps s event message (bytes_of x) start e) (sym (ap (λ b. cond b x (of_agent a (with_close a h) x)) k.0))
            (own_keeps event a seat mine seat.replied (Calls (calls.Close h)) up tt mine.replies k.1)
        | inr k ↦ subst (λ start. Keeps s event message (bytes_of x) start e) (sym (ap (λ b. cond b x (of_agent a (with_close a h) x)) k.0))
            (did_keeps s event message (bytes_of x) x state (of_agent a (with_close a h) x) a (with_close a h y)
            (with_close a h y) seat [] r is closed
            (record { mine = closed.mine; others = λ b apart. refl; versions = refl }) refl tt k.1.says k.1.sent
            (reacted_stands s a x.versions y (after_doing s event x.versions r.says r.sent (with_close a h y)) seat r mine up
            (reacted_stays s a seat.agent up given (Calls (calls.Close h)) tt)
            (λ i e. other i e ∙ ap (λ (close : ℕ → Close_seen). close i) (sym (doing_close s event x.versions r.says r.sent (with_close a h y))))
            seat.replied mine.replies k.1.seated))
      ]
    where
      event : Event
      event = events.Call a (calls.Close h)

      y : Agent_seen
      y = x.agents a

      r : Reaction Row
      r = reacted s rows a seat.agent given (Calls (calls.Close h))

      e : Effect Row
      e = comes s rows state a given [] (Calls (calls.Close h)) seat

      closed : Becomes a x (of_agent a (with_close a h) x) (with_close a h (x.agents a))
      closed = of_agent_becomes a (with_close a h) x

      new : Close_seen
      new = record { upload = upload_no a y.incarnation ((y.close y.incarnation).upload.count + 1); bytes = y.bytes h }

      -- a close is one of its incarnation
      other : (i : ℕ) → (seat.agent.incarnation == i) ≡ false → y.close i ≡ (with_close a h y).close i
      other i e =
          sym (ap (λ b. cond b new (y.close i)) (eqb-comm i y.incarnation ∙ ap (λ n. eqb n i) mine.seated.based.same ∙ e))

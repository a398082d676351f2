-- A call that closes a session: what is seen is the close of a session that writes, and nothing else.
use Rattle.std.proofs.Common.{◌≡◌, ℕ, ◌+◌, List, [], ◌∷◌, ◌++◌, length, map, refl, sym, ap, ◌∙◌, subst, eq-eqb, arith, ◌⊎◌, inl, inr, Bool, true, false, cond, Option, Some, None}
use Rattle.std.specs.List.{list_any}
use Rattle.scfs_base.specs.declared.naming.UploadNo.{UploadNo}
use Rattle.scfs_base.specs.declared.cloud.CloudRequest.TheVariants as requests
use Rattle.scfs_schedule.specs.declared.types.Call.TheVariants as calls
use Rattle.scfs_schedule.specs.declared.types.Event.{Event}
use Rattle.scfs_schedule.specs.declared.types.Refusal.{Refusal}
use Rattle.scfs_schedule.specs.declared.types.Refusal.TheVariants as refusals
use Rattle.scfs_session.specs.declared.sessions.Session.{Session}
use Rattle.scfs_session.specs.Open.{session_of, ended}
use Rattle.scfs_model.specs.Lives.{is_ready}
use Rattle.scfs_model.specs.Lists.{below}
use Rattle.scfs_model.specs.Names.{upload_no, upload_name}
use Rattle.scfs_model.specs.Format.{Setup, clouds_of, sealed, object_at}
use Rattle.scfs_model.specs.Given.{Given}
use Rattle.scfs_model.specs.Asked.{Asked}
use Rattle.scfs_model.specs.Sayings.{said_by}
use Rattle.scfs_model.specs.Sayings as says
use Rattle.scfs_model.specs.Agents.{Waiting, For_close, Closed, Upload, Request, Agent, Sent, Calls, Reaction, silent, saying, followed, next_asked}
use Rattle.scfs_model.specs.Calls.{refuse, closes, close}
use Rattle.scfs_model.specs.Closes.{begins}
use Rattle.scfs_model.specs.Layers.{Row, rows}
use Rattle.scfs_model.specs.Reactions.{next_begun, reacted}
use Rattle.scfs_model.specs.States.{Reply, request_line}
use Rattle.scfs_laws.specs.Held.{Close_seen, Version_seen, Agent_seen, is_answer, with_close}
use Rattle.scfs_laws.proofs.Lists.{eqb-apart}
use Rattle.scfs_laws.proofs.HeldSessions.{held_ended, held_found}
use Rattle.scfs_laws.proofs.HeldSeats.{latest, IsRow, Between, Seated}
use Rattle.scfs_laws.proofs.HeldSteps.{all_idle, any_change}
use Rattle.scfs_laws.proofs.HeldLines.{Does}
use Rattle.scfs_laws.proofs.HeldDoing.{at, seat_of, not_begun, followed_silent}
use Rattle.scfs_laws.proofs.HeldMoves.{plain_does, puts_does}

-- whether the lines of a reaction answer a close
abbrev pub answers_close : (s : Setup) → (a : ℕ) → Reaction Row → Bool
answers_close s a r = list_any is_answer (map (said_by a) r.says ++ map (λ (q : Sent). request_line s q.number q.cloud q.body) r.sent)

puts_answer_none : (s : Setup) (name : List ℕ) (body : ℕ → List ℕ) (asked : List Asked)
    → list_any is_answer (map (λ (q : Sent). request_line s q.number q.cloud q.body)
    (map (λ (x : Asked). record { number = x.request; cloud = x.cloud; body = requests.Put name (body x.cloud) }) asked)) ≡ false
puts_answer_none s name body [] = refl
puts_answer_none s name body (x ∷ rest) = puts_answer_none s name body rest

-- the row of a close, where its upload is that of the close and its contents are those of the session
row_is : (s : Setup) (z : Session) (mine other : UploadNo) (bytes : List ℕ) → mine ≡ other → bytes ≡ z.contents
    → IsRow s (rows.closed z mine (sealed s mine z.contents)) (record { upload = other; bytes = bytes })
row_is s z mine other bytes same held = record {
  upload = same;
  root = ap (λ l. (sealed s mine l).root) (sym held) ∙ ap (λ u. (sealed s u bytes).root) same;
  size = ap (λ (l : List ℕ). length l) (sym held);
}

module _ (s : Setup) (event : Event) (a : ℕ) (versions : List Version_seen) (y : Agent_seen) (asked : List (Request Row))
    (replied : List (Reply Row)) (given : Given) (h : ℕ) where
  -- what is seen is tied to the seat of the agent when it is this
  abbrev Sits : Agent Row → Type 0
  Sits agent = Seated s versions a y (seat_of agent asked replied)

  -- what a reaction is to a close
  abbrev pub Closing : Reaction Row → Type 0
  Closing r =
      ((answers_close s a r ≡ true) × Does s event a versions y asked replied r)
      ⊎ ((answers_close s a r ≡ false) × Does s event a versions (with_close a h y) asked replied r)

  -- the agent after the close of a session that writes
  abbrev left : Agent Row → Agent Row
  left agent = record (at agent None []) { sessions = ended agent.sessions h }

  abbrev begun_by : Agent Row → Session → Reaction Row
  begun_by agent z =
      begins s rows a (record (left agent) { waiting = Some For_close; closed = [] }) (record { number = h; session = z; upload = None })

  writes_does : (agent : Agent Row) (z : Session) → session_of agent.sessions h ≡ Some z → Sits (at agent None [])
      → Does s event a versions (with_close a h y) asked replied (begun_by agent z)
  writes_does agent z there is =
      let number = upload_no a agent.incarnation (agent.uploads + 1) in
      let unit = sealed s number z.contents in
      let i : ℕ = y.incarnation in
      let close : Close_seen = record { upload = upload_no a i ((latest y).upload.count + 1); bytes = y.bytes h } in
      let same : latest (with_close a h y) ≡ close = ap (λ b. cond b close (latest y)) (eq-eqb i i refl) in
      let counted = ap (λ (u : UploadNo). upload_no a i (u.count + 1)) (sym is.based.upload) in
      let named = ap (λ n. upload_no a n (agent.uploads + 1)) (sym is.based.same) ∙ counted in
      let none = all_idle s a versions (latest y) close None (Some For_close) [] [] asked replied (λ e. e) (λ e. e) is.steps in
      let puts = next_asked a (record agent { uploads = agent.uploads + 1 }) (below (clouds_of s)) in
      let u : Upload Row = record {
        version = rows.closed z number unit;
        storing = record { name = upload_name number; unit = unit; puts = [] ++ puts; acked = []; turns = 0 };
      } in
      let x : Closed Row = record { number = h; session = z; upload = Some u } in
      puts_does s event a versions replied (with_close a h y) asked
      (record agent { sessions = ended agent.sessions h; waiting = Some For_close; closed = x ∷ []; uploads = agent.uploads + 1 })
      (below (clouds_of s))
      (upload_name number) (object_at unit)
      (record {
        based = record {
          held = held_ended y.bytes agent.sessions h is.based.held;
          same = is.based.same;
          ahead = λ j above.
              ap (λ b. cond b close (y.close j)) (eqb-apart j i (λ e. omega (arith, e, above))) ∙ is.based.ahead j above;
          upload = ap (λ (c : Close_seen). c.upload) same ∙ sym counted;
        };
        waits = subst (λ c. IsRow s u.version c) (sym same)
            (row_is s z number close.upload (y.bytes h) named (held_found y.bytes agent.sessions h z there is.based.held));
        steps = subst (λ c. Between s a versions c (Some For_close) (x ∷ []) asked replied) (sym same)
            (any_change s a versions (latest y) close None (Some For_close) [] (x ∷ []) asked replied none is.steps);
      })

  refused_closing : (agent : Agent Row) (why : Refusal) → Sits agent
      → (next_begun s rows a agent agent.closed ≡ silent agent)
      → Closing (followed (refuse agent why) (λ next. next_begun s rows a next next.closed))
  refused_closing agent why is still =
      subst Closing (sym (followed_silent (refuse agent why) (λ next. next_begun s rows a next next.closed) still))
      (inl (refl, plain_does s event a versions replied (says.Refuses why) tt agent y asked is))

  ends_closing : (agent : Agent Row) (z : Session) (writes : Bool) → session_of agent.sessions h ≡ Some z
      → Sits (at agent None [])
      → Closing (followed (cond writes (closes (left agent) h z) (saying (left agent) (says.Ended h)))
      (λ next. next_begun s rows a next next.closed))
  ends_closing agent z true there is =
      let puts = next_asked a (record agent { uploads = agent.uploads + 1 }) (below (clouds_of s)) in
      let number = upload_no a agent.incarnation (agent.uploads + 1) in
      let does = writes_does agent z there is in
      inr (
        puts_answer_none s (upload_name number) (object_at (sealed s number z.contents)) puts,
        record { seated = does.seated; says = does.says; sent = does.sent },
      )
  ends_closing agent z false there is =
      let held = held_ended y.bytes agent.sessions h is.based.held in
      let does = plain_does s event a versions replied (says.Ended h) tt (left agent) y asked (record {
        based = record { held = held; same = is.based.same; ahead = is.based.ahead; upload = is.based.upload };
        waits = is.waits;
        steps = is.steps;
      }) in
      inl (refl, record { seated = does.seated; says = does.says; sent = does.sent })

  close_closing : (agent : Agent Row) (there : Option Session) → session_of agent.sessions h ≡ there
      → Sits (at agent None [])
      → Closing (followed (close (at agent None []) h there) (λ next. next_begun s rows a next next.closed))
  close_closing agent None there is = refused_closing (at agent None []) refusals.BadHandle is refl
  close_closing agent (Some z) there is = ends_closing agent z z.writes there is

  pub closing : (agent : Agent Row) (waiting : Option (Waiting Row)) (closed : List (Closed Row))
      → Sits (at agent waiting closed)
      → Closing (reacted s rows a (at agent waiting closed) given (Calls (calls.Close h)))
  closing agent None [] is = by (is_ready agent.life)
    where
      by : (b : Bool) → Closing (followed (cond b (close (at agent None []) h (session_of agent.sessions h))
          (refuse (at agent None []) (refusals.Starting 0))) (λ next. next_begun s rows a next next.closed))
      by true = close_closing agent (session_of agent.sessions h) refl is
      by false = refused_closing (at agent None []) (refusals.Starting 0) is refl
  closing agent None (x ∷ rest) is = absurd is.waits
  closing agent (Some waiting) closed is =
      refused_closing (at agent (Some waiting) closed) refusals.Busy is
      (not_begun s a (at agent (Some waiting) closed) y (Some waiting) closed is.waits)

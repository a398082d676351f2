-- Each step that an agent asks is one that the space serves as the machine does.
use Rattle.std.specs.Prelude.{filter, ◌&&◌, not}
use Rattle.std.proofs.Common.{◌≡◌, ◌≢◌, ℕ, ◌+◌, ◌^◌, ◌<◌, List, [], ◌∷◌, ◌++◌, length, nat_lt, arith, refl, sym, ap, ◌∙◌, subst, is_some, if◌then◌else◌, Bool, true, false, Option, Some, None, Result, Ok, Err}
use Rattle.scfs_base.specs.declared.naming.RequestNo.{RequestNo}
use Rattle.scfs_base.specs.declared.cloud.CloudAnswer.{CloudAnswer}
use Rattle.scfs_base.specs.Limits.{handles_limit}
use Rattle.scfs_lease.specs.declared.leases.Lease.{Lease}
use Rattle.scfs_lease.specs.Leases.{is_due}
use Rattle.scfs_policy.specs.declared.rank.RankFacts.{RankFacts}
use Rattle.scfs_schedule.specs.declared.types.Call.{Call}
use Rattle.scfs_schedule.specs.declared.types.Call.TheVariants as calls
use Rattle.scfs_schedule.specs.declared.types.Header.{Header}
use Rattle.scfs_schedule.specs.declared.types.Refusal.{Refusal}
use Rattle.scfs_session.specs.declared.sessions.Session.{Session}
use Rattle.scfs_session.specs.Open.{session_of, read_answer, after_write, after_truncate}
use Rattle.scfs_anchor.specs.Tree.{Each}
use Rattle.scfs_anchor.specs.Holding.{IsAskable}
use Rattle.scfs_model.specs.Names.{request_no}
use Rattle.scfs_model.specs.Format.{Setup}
use Rattle.scfs_model.specs.UnitFormat.{under}
use Rattle.scfs_model.specs.Given.{Given}
use Rattle.scfs_model.specs.Layers.{Row, rows}
use Rattle.scfs_model.specs.Walks.{OrRefusal}
use Rattle.scfs_model.specs.SessionSteps.{Session_step, Open_read, Open_write, Commit, Session_outcome, Sees, Locks, Completes, Sight}
use Rattle.scfs_model.specs.Steps.{On_sessions, Outcome, Of_names, Of_locks, Of_sessions}
use Rattle.scfs_model.specs.Next.{Next, Goes_on, Asks, Has, Gives_up}
use Rattle.scfs_model.specs.Reading.{read_on, read_turn, with_piece, is_awaited, piece_in}
use Rattle.scfs_model.specs.Storing.{is_new_ack, with_ack, store_on, store_turn}
use Rattle.scfs_model.specs.Agents.{Opening, Waiting, For_step, For_clouds, For_close, Closed, Upload, Agent, Input, Calls, Tells, Hears, Turns, Crashes, Starts, Reaction, followed}
use Rattle.scfs_model.specs.Lives.{is_ready}
use Rattle.scfs_model.specs.Leases.{leased, renews_all}
use Rattle.scfs_model.specs.Calls.{any_names, path_names, some_names, unless_refused, close, makes, looks, opens, called, call_of}
use Rattle.scfs_model.specs.Closes.{stores, with_storing, upload_hears, upload_turns}
use Rattle.scfs_model.specs.Opens.{Found, As_empty, On_clouds, found, sighted, reads, open_hears, open_turns, tallied}
use Rattle.scfs_model.specs.Told.{is_pending, untold, told_open, told_closed, told_commit, told}
use Rattle.scfs_model.specs.Reactions.{idle, to_open, to_closed, to_upload, to_work, responded, begun, next_begun, reacted}
use Rattle.scfs_agent.specs.Asking.{CanBeAsked, MayUpload, MayAsk}
use Rattle.scfs_agent.proofs.LeaseLemmas.{renewed, told_calm}

-- what holds of both holds of the chosen one
chosen : {A : Type 0} (P : A → Type 0) (b : Bool) (x y : A) → P x → P y → P (if b then x else y)
chosen P true x y p q = p
chosen P false x y p q = q

each_append : {X : Type 0} (P : X → Type 0) (xs ys : List X) → Each P xs → Each P ys → Each P (xs ++ ys)
each_append P [] ys p q = q
each_append P (x ∷ xs) ys p q = (p.0, each_append P xs ys p.1 q)

module _ (s : Setup) (a : ℕ) (small : a < 2 ^ 8) where
  abbrev Servable : Reaction Row → Type 0
  Servable r = Each CanBeAsked r.steps

  -- and nothing is asked of the rank rule
  abbrev Fit : Reaction Row → Type 0
  Fit r = Servable r × (r.ranked ≡ [])

  both : (first : Reaction Row) (next : Agent Row → Reaction Row) → Fit first → Fit (next first.agent) → Fit (followed first next)
  both first next p q =
      (each_append CanBeAsked first.steps (next first.agent).steps p.0 q.0, ap (λ (xs : List RankFacts). xs ++ (next first.agent).ranked) p.1 ∙ q.1)

  -- calls

  unless : {X : Type 0} (agent : Agent Row) (x : Result X Refusal) (on : X → Reaction Row) → ((y : X) → x ≡ Ok y → Fit (on y))
      → Fit (unless_refused agent x on)
  unless agent (Ok y) on each = each y refl
  unless agent (Err why) on each = (tt, refl)

  some : (x : OrRefusal (List (List ℕ))) (names : List (List ℕ)) → some_names x ≡ Ok names → names ≢ []
  some (Ok []) names is = absurd cc
  some (Ok (name ∷ rest)) names is = λ empty. absurd cc
  some (Err why) names is = absurd cc

  opening : (agent : Agent Row) (step : (session : ℕ) → Session_step Row) → agent.incarnation < 2 ^ 24
      → IsAskable (request_no a agent.incarnation (agent.requests + 1)) (On_sessions (step (agent.opens + 1))) → Fit (opens a agent step)
  opening agent step fits can =
      chosen Fit (nat_lt (length agent.sessions + length agent.closed) handles_limit) _ _ ((((small, fits), can), tt), refl) (tt, refl)

  closing : (agent : Agent Row) (h : ℕ) (y : Option Session) → Fit (close agent h y)
  closing agent h None = (tt, refl)
  closing agent h (Some y) = chosen Fit y.writes _ _ (tt, refl) (tt, refl)

  below : (agent : Agent Row) → MayAsk a agent → agent.incarnation < 2 ^ 24
  below agent may = omega (arith, may.incarnation)

  calling : (agent : Agent Row) → MayAsk a agent → (call : Call) → Fit (called a s agent call)
  calling agent may (calls.Create path) =
      unless agent (path_names s path) (makes a agent)
      (λ names is. ((((small, below agent may), (some (any_names s path) names is, omega (arith, may.files, may.incarnation, small))), tt), refl))
  calling agent may (calls.Stat path) = unless agent (any_names s path) (looks a agent) (λ names is. ((((small, below agent may), tt), tt), refl))
  calling agent may (calls.OpenR path) =
      unless agent (path_names s path) (λ names. opens a agent (Open_read names))
      (λ names is. opening agent (Open_read names) (below agent may) (some (any_names s path) names is))
  calling agent may (calls.OpenW path) =
      unless agent (path_names s path) (λ names. opens a agent (Open_write names))
      (λ names is. opening agent (Open_write names) (below agent may) (some (any_names s path) names is, may.opens))
  calling agent may (calls.Read h offset count) =
      unless agent (read_answer (session_of agent.sessions h) offset count) _ (λ bytes is. (tt, refl))
  calling agent may (calls.Write h offset new) = unless agent (after_write (session_of agent.sessions h) offset new) _ (λ y is. (tt, refl))
  calling agent may (calls.Truncate h size) = unless agent (after_truncate (session_of agent.sessions h) size) _ (λ y is. (tt, refl))
  calling agent may (calls.Close h) = closing agent h (session_of agent.sessions h)
  calling agent may (calls.Mkdir path) = (tt, refl)
  calling agent may (calls.Rmdir path) = (tt, refl)
  calling agent may (calls.Unlink path) = (tt, refl)
  calling agent may (calls.List path) = (tt, refl)
  calling agent may (calls.Rename from to) = (tt, refl)
  calling agent may (calls.Openat path number) = (tt, refl)
  calling agent may calls.Sync = (tt, refl)
  calling agent may (calls.Versions path) = (tt, refl)
  calling agent may (calls.Collect path) = (tt, refl)
  calling agent may calls.Purge = (tt, refl)

  call : (agent : Agent Row) → MayAsk a agent → (x : Call) (w : Option (Waiting Row)) → Fit (call_of a s agent x w)
  call agent may x None = chosen Fit (is_ready agent.life) _ _ (calling agent may x) (tt, refl)
  call agent may x (Some waiting) = (tt, refl)

  -- uploads

  storing : (agent : Agent Row) (x : Closed Row) (u : Upload Row) (next : Next (Unit {0})) → agent.incarnation < 2 ^ 24
      → MayUpload a agent.incarnation (Some u) → Fit (stores s a agent x u next)
  storing agent x u Goes_on fits may = (tt, refl)
  storing agent x u (Asks clouds) fits may = (tt, refl)
  storing agent x u (Has enough) fits may = ((((small, fits), may (agent.requests + 1)), tt), refl)
  storing agent x u (Gives_up acks) fits may = ((((small, fits), tt), tt), refl)

  -- what comes to an upload whose version may be completed
  abbrev ForUploads : (Agent Row → Closed Row → Upload Row → Reaction Row) → Type 0
  ForUploads on =
      (agent : Agent Row) (x : Closed Row) (u : Upload Row) → agent.incarnation < 2 ^ 24 → MayUpload a agent.incarnation (Some u) → Fit (on agent x u)

  upload_heard : (c : ℕ) (request : RequestNo) (answer : CloudAnswer) → ForUploads (λ agent x u. upload_hears s a agent x u c request answer)
  upload_heard c request answer agent x u fits may =
      chosen Fit (is_new_ack u.storing c request answer) _ _
      (storing agent x (with_storing u (with_ack u.storing c)) (store_on s u.storing) fits may) (storing agent x u Goes_on fits may)

  upload_turned : ForUploads (upload_turns s a)
  upload_turned agent x u fits may =
      storing agent x (with_storing u (record u.storing { turns = u.storing.turns + 1 })) (store_turn s u.storing) fits may

  of_closed : (agent : Agent Row) (on : Agent Row → Closed Row → Upload Row → Reaction Row) → ForUploads on
      → (rest : List (Closed Row)) (x : Closed Row)
      → (u : Option (Upload Row)) → agent.incarnation < 2 ^ 24 → MayUpload a agent.incarnation u → Fit (to_closed agent on rest x u)
  of_closed agent on each rest x None fits may = (tt, refl)
  of_closed agent on each rest x (Some u) fits may = each (record agent { closed = rest }) x u fits may

  of_upload : (agent : Agent Row) (on : Agent Row → Closed Row → Upload Row → Reaction Row) → ForUploads on → agent.incarnation < 2 ^ 24
      → (xs : List (Closed Row)) → Each (λ (x : Closed Row). MayUpload a agent.incarnation x.upload) xs → Fit (to_upload agent on xs)
  of_upload agent on each fits [] may = (tt, refl)
  of_upload agent on each fits (x ∷ rest) may = of_closed agent on each rest x x.upload fits may.0

  of_begun : (agent : Agent Row) (xs : List (Closed Row)) → Fit (next_begun s rows a agent xs)
  of_begun agent [] = (tt, refl)
  of_begun agent (x ∷ rest) = begins x.upload where
    begins : (u : Option (Upload Row)) → Fit (begun s rows a agent rest x u)
    begins None = (tt, refl)
    begins (Some u) = (tt, refl)

  -- what is closed may be completed, also by an agent with the same
  abbrev MayCloseAll : Agent Row → Type 0
  MayCloseAll agent = Each (λ (x : Closed Row). MayUpload a agent.incarnation x.upload) agent.closed

  same_closes : (agent next : Agent Row) → next.incarnation ≡ agent.incarnation → next.closed ≡ agent.closed → MayCloseAll agent → MayCloseAll next
  same_closes agent next i closed may =
      subst (λ xs. Each (λ (x : Closed Row). MayUpload a next.incarnation x.upload) xs) (sym closed)
      (subst (λ n. Each (λ (x : Closed Row). MayUpload a n x.upload) agent.closed) (sym i) may)

  -- opens; what they do leaves the closed sessions

  -- it asks well, and leaves the incarnation and the closed sessions
  abbrev LeavesCloses : Agent Row → Reaction Row → Type 0
  LeavesCloses agent r = Fit r × (r.agent.incarnation ≡ agent.incarnation) × (r.agent.closed ≡ agent.closed)

  reading : (agent : Agent Row) (o : Opening Row) (next : Next (List ℕ)) → agent.incarnation < 2 ^ 24
      → LeavesCloses agent (reads s rows a agent o next)
  reading agent o Goes_on fits = ((tt, refl), refl, refl)
  reading agent o (Asks clouds) fits = ((tt, refl), refl, refl)
  reading agent o (Has bytes) fits = ((tt, refl), refl, refl)
  reading agent o (Gives_up good) fits =
      chosen (LeavesCloses agent) o.writes _ _ (((((small, fits), tt), tt), refl), refl, refl) ((tt, refl), refl, refl)

  heard : (agent : Agent Row) (o : Opening Row) (c : ℕ) (request : RequestNo) (answer : CloudAnswer) → agent.incarnation < 2 ^ 24
      → LeavesCloses agent (open_hears s rows a agent o c request answer)
  heard agent o c request answer fits =
      let piece = piece_in s o.reading c answer in
      chosen (LeavesCloses agent) (is_awaited o.reading c request) _ _
      (reading (tallied agent c (is_some piece)) (record o { reading = with_piece o.reading piece }) (read_on s o.reading piece) fits)
      (reading agent o Goes_on fits)

  turned : (agent : Agent Row) (o : Opening Row) → agent.incarnation < 2 ^ 24 → LeavesCloses agent (open_turns s rows a agent o)
  turned agent o fits = reading agent (record o { reading = record o.reading { turns = o.reading.turns + 1 } }) (read_turn o.reading) fits

  of_open : (agent : Agent Row) (on : Agent Row → Opening Row → Reaction Row)
      → ((agent : Agent Row) (o : Opening Row) → agent.incarnation < 2 ^ 24 → LeavesCloses agent (on agent o)) → agent.incarnation < 2 ^ 24
      → (w : Option (Waiting Row)) → LeavesCloses agent (to_open agent on w)
  of_open agent on each fits None = ((tt, refl), refl, refl)
  of_open agent on each fits (Some For_step) = ((tt, refl), refl, refl)
  of_open agent on each fits (Some (For_clouds o)) = each (idle agent) o fits
  of_open agent on each fits (Some For_close) = ((tt, refl), refl, refl)

  of_work : (agent : Agent Row) (on_open : Agent Row → Opening Row → Reaction Row) (on_upload : Agent Row → Closed Row → Upload Row → Reaction Row)
      → ((agent : Agent Row) (o : Opening Row) → agent.incarnation < 2 ^ 24 → LeavesCloses agent (on_open agent o)) → ForUploads on_upload
      → agent.incarnation < 2 ^ 24 → MayCloseAll agent → Fit (to_work agent on_open on_upload)
  of_work agent on_open on_upload opens_well uploads_well fits may =
      let first : LeavesCloses agent (to_open agent on_open agent.waiting) = of_open agent on_open opens_well fits agent.waiting in
      let next : Agent Row = (to_open agent on_open agent.waiting).agent in
      both (to_open agent on_open agent.waiting) (λ next. to_upload next on_upload next.closed) first.0
      (of_upload next on_upload uploads_well (subst (λ n. n < 2 ^ 24) (sym first.1) fits) next.closed (same_closes agent next first.1 first.2 may))

  -- what the space replied

  sees : (agent : Agent Row) (given : Given) (h : ℕ) (writes : Bool) (sight : Sight Row) (at : Found Row)
      → Servable (sighted s rows a agent given h writes sight at)
  sees agent given h writes sight As_empty = tt
  sees agent given h writes sight (On_clouds v) = tt

  told_of_open : (agent : Agent Row) (given : Given) (request : RequestNo) (h : ℕ) (r : OrRefusal (Session_outcome Row))
      → Servable (told_open s rows a agent given request h r)
  told_of_open agent given request h (Ok (Sees sight)) = sees agent given h false sight (found sight)
  told_of_open agent given request h (Ok (Locks sight l)) = sees (leased agent h l.until) given h true sight (found sight)
  told_of_open agent given request h (Ok (Completes session v n)) = tt
  told_of_open agent given request h (Err why) = tt

  told_of_close : (agent : Agent Row) (x : Closed Row) (r : OrRefusal (Session_outcome Row)) → Servable (told_closed s rows a agent x r)
  told_of_close agent x (Ok (Sees sight)) = tt
  told_of_close agent x (Ok (Locks sight l)) = tt
  told_of_close agent x (Ok (Completes session v n)) = tt
  told_of_close agent x (Err why) = tt

  told_of_commit : (agent : Agent Row) (xs : List (Closed Row)) (r : OrRefusal (Session_outcome Row)) → Servable (told_commit s rows a agent xs r)
  told_of_commit agent [] r = tt
  told_of_commit agent (x ∷ rest) r = told_of_close (record agent { closed = rest }) x r

  told_of : (agent : Agent Row) (given : Given) (request : RequestNo) (o : Outcome Row) → Servable (told s rows a agent given request o)
  told_of agent given request (Of_names x r) = tt
  told_of agent given request (Of_locks x r) = subst (Each CanBeAsked) (sym (told_calm agent x r).steps) tt
  told_of agent given request (Of_sessions (Open_read names h) r) = told_of_open agent given request h r
  told_of agent given request (Of_sessions (Open_write names h) r) = told_of_open agent given request h r
  told_of agent given request (Of_sessions (Commit h v) r) = told_of_commit agent agent.closed r

  -- what is not a reply
  abbrev pub Quiet : Input Row → Type 0
  Quiet (Calls x) = Unit {0}
  Quiet (Tells request o) = ⊥
  Quiet (Hears c request answer) = Unit {0}
  Quiet Turns = Unit {0}
  Quiet Crashes = Unit {0}
  Quiet Starts = Unit {0}

  responds : (agent : Agent Row) (given : Given) (input : Input Row) → MayAsk a agent → Quiet input → Fit (responded s rows a agent given input)
  responds agent given (Calls x) may quiet = call agent may x agent.waiting
  responds agent given (Tells request o) may quiet = absurd quiet
  responds agent given (Hears c request answer) may quiet =
      of_work agent (λ next o. open_hears s rows a next o c request answer) (λ next x u. upload_hears s a next x u c request answer)
      (λ next o fits. heard next o c request answer fits) (upload_heard c request answer) (below agent may) may.closes
  responds agent given Turns may quiet =
      let due = filter (λ (l : Lease). is_due given.now s.header.lease l && not l.asked) agent.leases in
      let first = renewed a agent due in
      let next = (renews_all rows a agent due).agent in
      both (renews_all rows a agent due) (λ next. to_work next (open_turns s rows a) (upload_turns s a))
      (first.asked small (below agent may), first.ranked)
      (of_work next (open_turns s rows a) (upload_turns s a) turned upload_turned (subst (λ n. n < 2 ^ 24) (sym first.incarnation) (below agent may))
      (same_closes agent next first.incarnation first.closed may.closes))
  responds agent given Crashes may quiet = (tt, refl)
  responds agent given Starts may quiet = ((((small, may.incarnation), tt), tt), refl)

module _ (header : Header) (a : ℕ) (agent : Agent Row) (given : Given) (may : MayAsk a agent) where
  abbrev reaction : Input Row → Reaction Row
  reaction input = reacted (under header) rows a agent given input

  fit : (input : Input Row) → Quiet (under header) a may.number input → Fit (under header) a may.number (reaction input)
  fit input quiet =
      let first : Reaction Row = responded (under header) rows a agent given input in
      both (under header) a may.number first (λ next. next_begun (under header) rows a next next.closed)
      (responds (under header) a may.number agent given input may quiet) (of_begun (under header) a may.number first.agent first.agent.closed)

  pub none_ranked : (input : Input Row) → Quiet (under header) a may.number input → (reaction input).ranked ≡ []
  none_ranked input quiet = (fit input quiet).1

  pub all_asked_fit : (input : Input Row) → Each CanBeAsked (reaction input).steps
  all_asked_fit (Tells request o) =
      let first : Reaction Row = responded (under header) rows a agent given (Tells request o) in
      each_append CanBeAsked first.steps (next_begun (under header) rows a first.agent first.agent.closed).steps
      (chosen (Servable (under header) a may.number) (is_pending agent request) _ _
      (told_of (under header) a may.number (untold agent request) given request o) tt)
      (of_begun (under header) a may.number first.agent first.agent.closed).0
  all_asked_fit (Calls x) = (fit (Calls x) tt).0
  all_asked_fit (Hears c request answer) = (fit (Hears c request answer) tt).0
  all_asked_fit Turns = (fit Turns tt).0
  all_asked_fit Crashes = (fit Crashes tt).0
  all_asked_fit Starts = (fit Starts tt).0

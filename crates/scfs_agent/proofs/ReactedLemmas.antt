-- What the rank rule is asked in a reaction, and that no upload begins behind most.
use Rattle.std.proofs.Common.{◌≡◌, ℕ, List, [], ◌∷◌, Bool, true, false, Option, Some, None, Ok, Err, refl, sym, ◌∙◌, subst}
use Rattle.std.specs.Prelude.{filter, ◌&&◌, not, is_some, if◌then◌else◌}
use Rattle.scfs_base.specs.declared.naming.RequestNo.{RequestNo}
use Rattle.scfs_base.specs.declared.cloud.CloudAnswer.{CloudAnswer}
use Rattle.scfs_lease.specs.declared.leases.Lease.{Lease}
use Rattle.scfs_lease.specs.Leases.{is_due}
use Rattle.scfs_model.specs.Format.{Setup}
use Rattle.scfs_model.specs.Layers.{Row, rows}
use Rattle.scfs_model.specs.Given.{Given}
use Rattle.scfs_model.specs.Walks.{OrRefusal}
use Rattle.scfs_model.specs.SessionSteps.{Open_read, Open_write, Commit, Session_outcome, Sees, Locks, Completes, Sight}
use Rattle.scfs_model.specs.Steps.{Outcome, Of_names, Of_locks, Of_sessions}
use Rattle.scfs_model.specs.Agents.{Agent, Opening, Waiting, For_step, For_clouds, For_close, Closed, Upload, Reaction, silent}
use Rattle.scfs_model.specs.Opens.{open_hears, open_turns, saw, found}
use Rattle.scfs_model.specs.Closes.{upload_hears, upload_turns}
use Rattle.scfs_model.specs.Leases.{leased, renews_due}
use Rattle.scfs_model.specs.Told.{tells, told, told_open, told_closed, told_commit, untold, is_pending}
use Rattle.scfs_model.specs.Reactions.{idle, to_open, to_closed, to_upload, to_work, hears, turns, begun}
use Rattle.scfs_agent.specs.Settled.{HasBegun, OneBegun}
use Rattle.scfs_agent.proofs.LeaseLemmas.{renewed, told_calm}
use Rattle.scfs_agent.proofs.SettledLemmas.{Leaves, hears_leaves, turns_leave, sighted_leaves, hears_begun, turns_begun}

-- what is told
module _ (s : Setup) (a : ℕ) where
  pub one_begun : (xs : List (Closed Row)) → OneBegun xs → HasBegun xs
  one_begun [] h = tt
  one_begun (x ∷ []) h = h
  one_begun (x ∷ y ∷ rest) h = absurd h

  closed_begun : (agent : Agent Row) (x : Closed Row) (rest : List (Closed Row)) (r : OrRefusal (Session_outcome Row)) → rest ≡ [] → agent.closed
      ≡ rest → is_some x.upload ≡ true
      → HasBegun (told_closed s rows a agent x r).agent.closed
  closed_begun agent x rest (Ok (Completes session v n)) none same begun = subst HasBegun (sym (same ∙ none)) tt
  closed_begun agent x rest (Ok (Sees sight)) none same begun = begun
  closed_begun agent x rest (Ok (Locks sight l)) none same begun = begun
  closed_begun agent x rest (Err why) none same begun = subst HasBegun (sym (same ∙ none)) tt

  commit_begun : (agent : Agent Row) (xs : List (Closed Row)) (r : OrRefusal (Session_outcome Row)) → agent.closed ≡ xs → OneBegun xs
      → HasBegun (told_commit s rows a agent xs r).agent.closed
  commit_begun agent [] r same h = subst HasBegun (sym same) tt
  commit_begun agent (x ∷ []) r same h = closed_begun (record agent { closed = [] }) x [] r refl refl h
  commit_begun agent (x ∷ y ∷ rest) r same h = absurd h

  saw_leaves : (agent : Agent Row) (given : Given) (request : RequestNo) (h : ℕ) (writes : Bool) (sight : Sight Row)
      → Leaves agent (saw s rows a agent given request h writes sight)
  saw_leaves agent given request h writes sight = sighted_leaves s a agent given h writes sight (found sight)

  open_begun : (agent : Agent Row) (given : Given) (request : RequestNo) (h : ℕ) (r : OrRefusal (Session_outcome Row)) → HasBegun agent.closed
      → HasBegun (told_open s rows a agent given request h r).agent.closed
  open_begun agent given request h (Ok (Sees sight)) begun = subst HasBegun (sym (saw_leaves agent given request h false sight)) begun
  open_begun agent given request h (Ok (Locks sight l)) begun =
      subst HasBegun (sym (saw_leaves (leased agent h l.until) given request h true sight)) begun
  open_begun agent given request h (Ok (Completes session v n)) begun = begun
  open_begun agent given request h (Err why) begun = begun

  told_begun : (agent : Agent Row) (given : Given) (request : RequestNo) (o : Outcome Row) → OneBegun agent.closed
      → HasBegun (told s rows a agent given request o).agent.closed
  told_begun agent given request (Of_names x r) begun = one_begun agent.closed begun
  told_begun agent given request (Of_locks x r) begun = subst HasBegun (sym (told_calm agent x r).closed) (one_begun agent.closed begun)
  told_begun agent given request (Of_sessions (Open_read names h) r) begun = open_begun agent given request h r (one_begun agent.closed begun)
  told_begun agent given request (Of_sessions (Open_write names h) r) begun = open_begun agent given request h r (one_begun agent.closed begun)
  told_begun agent given request (Of_sessions (Commit h v) r) begun = commit_begun agent agent.closed r refl begun

  pub tells_begun : (agent : Agent Row) (given : Given) (request : RequestNo) (o : Outcome Row) → OneBegun agent.closed
      → HasBegun (tells s rows a agent given request o).agent.closed
  tells_begun agent given request o begun = by (is_pending agent request) where
    by : (b : Bool) → HasBegun (if b then told s rows a (untold agent request) given request o else silent agent).agent.closed
    by true = told_begun (untold agent request) given request o begun
    by false = one_begun agent.closed begun

-- what comes to an agent for its work
module _ (on_open : Agent Row → Opening Row → Reaction Row) (on_upload : Agent Row → Closed Row → Upload Row → Reaction Row)
    (opening : (agent : Agent Row) (o : Opening Row) → Leaves agent (on_open agent o))
    (uploading : (agent : Agent Row) (x : Closed Row) (u : Upload Row) → agent.closed ≡ [] → HasBegun (on_upload agent x u).agent.closed) where
  to_open_leaves : (agent : Agent Row) (w : Option (Waiting Row)) → Leaves agent (to_open agent on_open w)
  to_open_leaves agent None = refl
  to_open_leaves agent (Some For_step) = refl
  to_open_leaves agent (Some (For_clouds o)) = opening (idle agent) o
  to_open_leaves agent (Some For_close) = refl

  to_closed_begun : (agent : Agent Row) (x : Closed Row) (u : Option (Upload Row)) → agent.closed ≡ x ∷ [] → x.upload ≡ u → is_some u ≡ true
      → HasBegun (to_closed agent on_upload [] x u).agent.closed
  to_closed_begun agent x None one same e = cc
  to_closed_begun agent x (Some u) one same e = uploading (record agent { closed = [] }) x u refl

  to_upload_begun : (agent : Agent Row) (xs : List (Closed Row)) → agent.closed ≡ xs → OneBegun xs
      → HasBegun (to_upload agent on_upload xs).agent.closed
  to_upload_begun agent [] same begun = subst HasBegun (sym same) tt
  to_upload_begun agent (x ∷ []) same begun = to_closed_begun agent x x.upload same refl begun
  to_upload_begun agent (x ∷ y ∷ rest) same begun = absurd begun

  to_work_begun : (agent : Agent Row) → OneBegun agent.closed → HasBegun (to_work agent on_open on_upload).agent.closed
  to_work_begun agent begun =
      let first = (to_open agent on_open agent.waiting).agent in
      to_upload_begun first first.closed refl (subst OneBegun (sym (to_open_leaves agent agent.waiting)) begun)

module _ (s : Setup) (a : ℕ) where
  pub all_hears_begun : (agent : Agent Row) (c : ℕ) (request : RequestNo) (answer : CloudAnswer) → OneBegun agent.closed
      → HasBegun (hears s rows a agent c request answer).agent.closed
  all_hears_begun agent c request answer begun =
      to_work_begun (λ next o. open_hears s rows a next o c request answer) (λ next x u. upload_hears s a next x u c request answer)
      (λ next o. hears_leaves s a next o c request answer) (λ next x u none. hears_begun s a next x u c request answer none) agent begun

  pub all_turns_begun : (agent : Agent Row) (given : Given) → OneBegun agent.closed → HasBegun (turns s rows a agent given).agent.closed
  all_turns_begun agent given begun =
      let first = renewed a agent (filter (λ (l : Lease). is_due given.now s.header.lease l && not l.asked) agent.leases) in
      to_work_begun (open_turns s rows a) (upload_turns s a) (λ next o. turns_leave s a next o) (λ next x u none. turns_begun s a next x u none)
      (renews_due rows a agent given.now s.header.lease).agent (subst OneBegun (sym first.closed) begun)

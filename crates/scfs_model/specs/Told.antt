use Rattle.std.specs.Prelude.{ℕ, List, [], ◌∷◌, Bool, true, false, if◌then◌else◌, Ok, Err}
use Rattle.std.specs.List.{list_any}
use Rattle.scfs_base.specs.declared.naming.RequestNo.{RequestNo}
use Rattle.scfs_lease.specs.Leases.{with_end}
use Rattle.scfs_model.specs.Lists.{without_first}
use Rattle.scfs_model.specs.Names.{same_request}
use Rattle.scfs_model.specs.Format.{Setup}
use Rattle.scfs_model.specs.Versions.{Versions}
use Rattle.scfs_model.specs.Given.{Given}
use Rattle.scfs_model.specs.Walks.{OrRefusal}
use Rattle.scfs_model.specs.Lives.{Ready}
use Rattle.scfs_model.specs.NameSteps.{Name_outcome, Makes, Shows}
use Rattle.scfs_model.specs.LockSteps.{Lock_step, Unlock, Unlock_all, Renew, Lock_outcome, Frees, Renews}
use Rattle.scfs_model.specs.SessionSteps.{Session_step, Open_read, Open_write, Commit, Session_outcome, Sees, Locks, Completes}
use Rattle.scfs_model.specs.Steps.{Outcome, Of_names, Of_locks, Of_sessions}
use Rattle.scfs_model.specs.Sayings.{Saying}
use Rattle.scfs_model.specs.Sayings as says
use Rattle.scfs_model.specs.Agents.{Closed, Request, Agent, Reaction, silent, saying, answered}
use Rattle.scfs_model.specs.Leases.{leased, unleased}
use Rattle.scfs_model.specs.Opens.{saw}

-- An agent is told what its step came to.

-- the answer to a call on names
abbrev pub name_answer : OrRefusal Name_outcome → Saying
name_answer (Ok (Makes n)) = says.Made n.id
name_answer (Ok (Shows n)) = says.Described n
name_answer (Err why) = says.Refuses why

module _ {V : Type 0} where
  -- whether the reply to a request was not told yet
  abbrev pub is_pending : Agent V → RequestNo → Bool
  is_pending agent request = list_any (λ (x : Request V). same_request x.number request) agent.pending

  abbrev pub untold : Agent V → RequestNo → Agent V
  untold agent request = record agent { pending = without_first (λ (x : Request V). same_request x.number request) agent.pending }

  -- an agent that starts is ready once the locks that it took before are given back
  abbrev pub told_start : Agent V → OrRefusal Lock_outcome → Reaction V
  told_start agent (Ok (Frees count)) = saying (record agent { life = Ready }) says.Ready
  told_start agent (Ok (Renews l)) = silent agent
  told_start agent (Err why) = silent agent

  -- the new end of the lock of session h, or that it is not to be renewed again
  abbrev pub told_renewal : Agent V → (h : ℕ) → OrRefusal Lock_outcome → Reaction V
  told_renewal agent h (Ok (Frees count)) = silent agent
  told_renewal agent h (Ok (Renews l)) = silent (record agent { leases = with_end h l.until agent.leases })
  told_renewal agent h (Err why) = saying (unleased agent h) (says.Lapsed h)

  -- for a lock that was given back nothing waits
  abbrev pub told_locks : Agent V → Lock_step → OrRefusal Lock_outcome → Reaction V
  told_locks agent (Unlock file h) r = silent agent
  told_locks agent Unlock_all r = told_start agent r
  told_locks agent (Renew file h) r = told_renewal agent h r

module _ {V : Type 0} (s : Setup) (vs : Versions V) (a : ℕ) where
  abbrev pub told_open : Agent V → Given → RequestNo → (h : ℕ) → OrRefusal (Session_outcome V) → Reaction V
  told_open agent given request h (Ok (Sees sight)) = saw s vs a agent given request h false sight
  told_open agent given request h (Ok (Locks sight l)) = saw s vs a (leased agent h l.until) given request h true sight
  told_open agent given request h (Ok (Completes session v n)) = silent agent
  told_open agent given request h (Err why) = answered agent (says.Refuses why)

  -- the first closed session ends, with the answer to the call that closed it
  abbrev pub told_closed : Agent V → Closed V → OrRefusal (Session_outcome V) → Reaction V
  told_closed agent x (Ok (Completes session v n)) = answered (unleased agent x.number) (says.Stored x.number (vs.number v))
  told_closed agent x (Ok other) = silent (record agent { closed = x ∷ agent.closed })
  told_closed agent x (Err why) = answered (unleased agent x.number) (says.Refuses why)

  abbrev pub told_commit : Agent V → List (Closed V) → OrRefusal (Session_outcome V) → Reaction V
  told_commit agent [] r = silent agent
  told_commit agent (x ∷ rest) r = told_closed (record agent { closed = rest }) x r

  abbrev pub told_sessions : Agent V → Given → RequestNo → Session_step V → OrRefusal (Session_outcome V) → Reaction V
  told_sessions agent given request (Open_read names h) r = told_open agent given request h r
  told_sessions agent given request (Open_write names h) r = told_open agent given request h r
  told_sessions agent given request (Commit h v) r = told_commit agent agent.closed r

  abbrev pub told : Agent V → Given → RequestNo → Outcome V → Reaction V
  told agent given request (Of_names x r) = answered agent (name_answer r)
  told agent given request (Of_locks x r) = told_locks agent x r
  told agent given request (Of_sessions x r) = told_sessions agent given request x r

  -- the reply to a request
  abbrev pub tells : Agent V → Given → RequestNo → Outcome V → Reaction V
  tells agent given request o = if is_pending agent request then told (untold agent request) given request o else silent agent

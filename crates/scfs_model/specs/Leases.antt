use Rattle.std.specs.Prelude.{ℕ, List, [], ◌∷◌, filter, find, false, ◌&&◌, not, ◌==◌, if◌then◌else◌, Option, Some, None}
use Rattle.scfs_base.specs.declared.naming.FileId.{FileId}
use Rattle.scfs_session.specs.Open.{session_of}
use Rattle.scfs_session.specs.declared.sessions.Session.{Session}
use Rattle.scfs_lease.specs.declared.leases.Lease.{Lease}
use Rattle.scfs_lease.specs.Leases.{is_due, with_lease, without_lease, with_renewal}
use Rattle.scfs_model.specs.Lists.{if_some}
use Rattle.scfs_model.specs.Versions.{Versions}
use Rattle.scfs_model.specs.LockSteps.{Renew}
use Rattle.scfs_model.specs.Steps.{On_locks}
use Rattle.scfs_model.specs.Agents.{Waiting, For_step, For_clouds, For_close, Closed, Agent, Reaction, silent, followed, asks_step}

-- The locks of an agent's sessions, as the agent was told them last, and their renewal.

module _ {V : Type 0} where
  -- a session took a lock that ends then
  abbrev pub leased : Agent V → (h until : ℕ) → Agent V
  leased agent h until = record agent { leases = with_lease (record { session = h; until = until; asked = false }) agent.leases }

  -- the lock of a session is not renewed any more
  abbrev pub unleased : Agent V → (h : ℕ) → Agent V
  unleased agent h = record agent { leases = without_lease h agent.leases }

  -- the file of a session that is closed and did not end
  abbrev pub closed_file : (h : ℕ) → List (Closed V) → Option FileId
  closed_file h closed = if_some (find (λ (x : Closed V). x.number == h) closed) None (λ (x : Closed V). Some x.session.file)

  -- of one that is open, or closed and did not end
  abbrev pub held_file : Agent V → (h : ℕ) → Option FileId
  held_file agent h = if_some (session_of agent.sessions h) (closed_file h agent.closed) (λ (y : Session). Some y.file)

module _ {V : Type 0} (vs : Versions V) where
  -- of one that is being read from the clouds, open, or closed and did not end
  abbrev pub file_of : Agent V → (h : ℕ) → Option (Waiting V) → Option FileId
  file_of agent h None = held_file agent h
  file_of agent h (Some For_step) = held_file agent h
  file_of agent h (Some (For_clouds o)) = if o.session == h then Some (vs.file o.version) else held_file agent h
  file_of agent h (Some For_close) = held_file agent h

module _ {V : Type 0} (vs : Versions V) (a : ℕ) where
  -- the lock of a session of this file is to live longer
  abbrev pub renews : Agent V → (h : ℕ) → FileId → Reaction V
  renews agent h file = asks_step a (record agent { leases = with_renewal h agent.leases }) (On_locks (Renew file h))

  -- the locks of these sessions are, in their order
  abbrev pub renews_all : Agent V → List Lease → Reaction V
  renews_all agent [] = silent agent
  renews_all agent (l ∷ rest) =
      followed (if_some (file_of vs agent l.session agent.waiting) (silent agent) (renews agent l.session)) (λ next. renews_all next rest)

  -- at a turn those are that live, in the last half of a life of this length, and of which no renewal is under way
  abbrev pub renews_due : Agent V → (now lease : ℕ) → Reaction V
  renews_due agent now lease = renews_all agent (filter (λ (l : Lease). is_due now lease l && not l.asked) agent.leases)

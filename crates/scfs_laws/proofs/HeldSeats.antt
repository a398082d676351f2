-- What is seen of an agent, tied to its seat: the machine's sessions, close and opening, and the steps between it and the space.
use Rattle.std.proofs.Common.{◌≡◌, ℕ, ◌+◌, ◌<◌, ◌≤◌, List, [], ◌∷◌, length, true, find, Option, Some, None, Result, Ok, Err}
use Rattle.scfs_base.specs.declared.naming.FileId.{FileId}
use Rattle.scfs_schedule.specs.declared.types.Refusal.{Refusal}
use Rattle.scfs_session.specs.Open.{OpenSessions}
use Rattle.scfs_model.specs.Names.{upload_no}
use Rattle.scfs_model.specs.Format.{Setup, sealed}
use Rattle.scfs_model.specs.Reading.{Reading}
use Rattle.scfs_model.specs.Storing.{is_enough}
use Rattle.scfs_model.specs.SessionSteps.{Session_step, Open_read, Open_write, Commit, Session_outcome, Sees, Locks, Completes}
use Rattle.scfs_model.specs.Steps.{Step, On_names, On_locks, On_sessions, Outcome, Of_names, Of_locks, Of_sessions}
use Rattle.scfs_model.specs.Layers.{Row}
use Rattle.scfs_model.specs.Agents.{Waiting, For_step, For_clouds, For_close, Upload, Closed, Request}
use Rattle.scfs_model.specs.States.{Reply, Seat}
use Rattle.scfs_laws.specs.Held.{Close_seen, Version_seen, Agent_seen, no_close, is_version}
use Rattle.scfs_laws.proofs.Lists.{Each}
use Rattle.scfs_laws.proofs.HeldSessions.{AreHeld}

abbrev pub IsEmpty : {X : Type 0} → List X → Type 0
IsEmpty [] = Unit {0}
IsEmpty (x ∷ xs) = ⊥

-- a row is that of a close
pub record IsRow (s : Setup) (v : Row) (y : Close_seen) : Type 0 where
  pub upload : v.upload ≡ y.upload
  pub root : v.root ≡ (sealed s y.upload y.bytes).root
  pub size : v.length ≡ length y.bytes

-- the latest close of an agent's incarnation
abbrev pub latest : Agent_seen → Close_seen
latest y = y.close y.incarnation

-- what lines tell of a reading: not the order of the clouds, nor the turns
abbrev pub told_of : Reading → Reading
told_of r = record r { order = []; turns = 0 }

-- a step that the agent waits for: all but that a lock is given back
abbrev pub busy : Step Row → ℕ
busy (On_names x) = 1
busy (On_locks x) = 0
busy (On_sessions x) = 1

abbrev pub busy_asked : List (Request Row) → ℕ
busy_asked [] = 0
busy_asked (q ∷ qs) = busy q.step + busy_asked qs

abbrev pub step_of : Outcome Row → Step Row
step_of (Of_names x r) = On_names x
step_of (Of_locks x r) = On_locks x
step_of (Of_sessions x r) = On_sessions x

abbrev pub busy_replied : List (Reply Row) → ℕ
busy_replied [] = 0
busy_replied (r ∷ rs) = busy (step_of r.outcome) + busy_replied rs

abbrev pub IsStepping : Option (Waiting Row) → Type 0
IsStepping None = ⊥
IsStepping (Some For_step) = Unit {0}
IsStepping (Some (For_clouds o)) = ⊥
IsStepping (Some For_close) = ⊥

module _ (s : Setup) where
  -- enough clouds acknowledged the objects of the first closed session
  abbrev pub IsStored : Option (Upload Row) → Type 0
  IsStored None = ⊥
  IsStored (Some u) = is_enough s u.storing ≡ true

  abbrev pub FirstStored : List (Closed Row) → Type 0
  FirstStored [] = ⊥
  FirstStored (x ∷ rest) = IsStored x.upload

  abbrev pub IsCommitting : Option (Waiting Row) → List (Closed Row) → Type 0
  IsCommitting None closed = ⊥
  IsCommitting (Some For_step) closed = ⊥
  IsCommitting (Some (For_clouds o)) closed = ⊥
  IsCommitting (Some For_close) closed = FirstStored closed

  -- the one closed session uploads the latest close
  abbrev pub Uploads : Close_seen → Option (Upload Row) → Type 0
  Uploads close None = ⊥
  Uploads close (Some u) = IsRow s u.version close

  abbrev pub Closes : Close_seen → List (Closed Row) → Type 0
  Closes close [] = ⊥
  Closes close (x ∷ []) = Uploads close x.upload
  Closes close (x ∷ y ∷ rest) = ⊥

  -- what an agent waits for, with its closed sessions
  abbrev pub Waits : Agent_seen → Option (Waiting Row) → List (Closed Row) → Type 0
  Waits y None closed = IsEmpty closed
  Waits y (Some For_step) closed = IsEmpty closed
  Waits y (Some (For_clouds o)) closed = (y.reading ≡ told_of o.reading) × IsEmpty closed
  Waits y (Some For_close) closed = Closes (latest y) closed

  -- what a step that was asked rests on
  abbrev pub SessionFits : Close_seen → Option (Waiting Row) → List (Closed Row) → Session_step Row → Type 0
  SessionFits close waiting closed (Open_read names h) = IsStepping waiting
  SessionFits close waiting closed (Open_write names h) = IsStepping waiting
  SessionFits close waiting closed (Commit h v) = IsCommitting waiting closed × IsRow s v close

  abbrev pub Fits : Close_seen → Option (Waiting Row) → List (Closed Row) → Step Row → Type 0
  Fits close waiting closed (On_names x) = IsStepping waiting
  Fits close waiting closed (On_locks x) = Unit {0}
  Fits close waiting closed (On_sessions x) = SessionFits close waiting closed x

  -- a version that was found, if it was, is seen as a close
  abbrev pub IsSeen : List Version_seen → FileId → (number : ℕ) → Option Row → Type 0
  IsSeen versions file number None = Unit {0}
  IsSeen versions file number (Some v) = (w : Version_seen) × (find (is_version file number) versions ≡ Some w) × IsRow s v w.close

  abbrev pub ResultFits : List Version_seen → Result (Session_outcome Row) Refusal → Type 0
  ResultFits versions (Ok (Sees sight)) = IsSeen versions sight.file sight.number sight.version
  ResultFits versions (Ok (Locks sight l)) = IsSeen versions sight.file sight.number sight.version
  ResultFits versions (Ok (Completes h v n)) = Unit {0}
  ResultFits versions (Err why) = Unit {0}

  abbrev pub OutcomeFits : List Version_seen → Outcome Row → Type 0
  OutcomeFits versions (Of_names x r) = Unit {0}
  OutcomeFits versions (Of_locks x r) = Unit {0}
  OutcomeFits versions (Of_sessions x r) = ResultFits versions r

module _ (s : Setup) (a : ℕ) (versions : List Version_seen) (close : Close_seen) (waiting : Option (Waiting Row)) (closed : List (Closed Row)) where
  abbrev pub RequestFits : Request Row → Type 0
  RequestFits q = (q.number.agent ≡ a) × Fits s close waiting closed q.step

  abbrev pub ReplyFits : Reply Row → Type 0
  ReplyFits r = (r.number.agent ≡ a) × Fits s close waiting closed (step_of r.outcome) × OutcomeFits s versions r.outcome

  -- the steps between agent a and the space: at most one that it waits for
  pub record Between (asked : List (Request Row)) (replied : List (Reply Row)) : Type 0 where
    pub asks : Each RequestFits asked
    pub replies : Each ReplyFits replied
    pub alone : busy_asked asked + busy_replied replied ≤ 1

-- what is seen of agent a is so of its sessions, and of the incarnation and the uploads that it drew
pub record Based (a : ℕ) (bytes : (h : ℕ) → List ℕ) (i : ℕ) (close : (i : ℕ) → Close_seen) (sessions : OpenSessions) (incarnation uploads : ℕ) : Type 0 where
  pub held : AreHeld bytes sessions
  pub same : i ≡ incarnation
  pub ahead : (j : ℕ) → i < j → close j ≡ no_close a j
  pub upload : (close i).upload ≡ upload_no a i uploads

-- and of what it waits for, and of the steps between it and the space
pub record Seated (s : Setup) (versions : List Version_seen) (a : ℕ) (y : Agent_seen) (seat : Seat Row) : Type 0 where
  pub based : Based a y.bytes y.incarnation y.close seat.agent.sessions seat.agent.incarnation seat.agent.uploads
  pub waits : Waits s y seat.agent.waiting seat.agent.closed
  pub steps : Between s a versions (latest y) seat.agent.waiting seat.agent.closed seat.asked seat.replied

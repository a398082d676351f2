use Rattle.std.specs.Prelude.{◌≡◌, ◌⊎◌, ℕ, ◌-◌, List, [], ◌∷◌, filter, Some, IsTrue, Contains, slice_get}
use Rattle.scfs_base.specs.declared.naming.FileId.{FileId}
use Rattle.scfs_base.specs.declared.naming.RequestNo.{RequestNo}
use Rattle.scfs_schedule.specs.declared.types.Event.TheVariants as events
use Rattle.scfs_schedule.specs.declared.types.Line.TheVariants as lines
use Rattle.scfs_model.specs.Names.{same_file}
use Rattle.scfs_model.specs.Format.{Setup}
use Rattle.scfs_model.specs.History.{Entry, History}
use Rattle.scfs_model.specs.Versions.{Versions}
use Rattle.scfs_model.specs.Tree.{Node, Lock, live, node_at, is_lock_by}
use Rattle.scfs_model.specs.SessionSteps.{Session_step, Open_write, Commit}
use Rattle.scfs_model.specs.Steps.{On_sessions}
use Rattle.scfs_model.specs.Agents.{Request}
use Rattle.scfs_model.specs.States.{Seat, State}
use Rattle.scfs_model.specs.Runs.{state_after}

-- A close is completed behind its session's lock, which alone lived on the file from the session's open on.

-- of these locks, the only one on a file is that of a session of the agent, in the incarnation, that makes a request
abbrev pub HasAlone : List Lock → RequestNo → FileId → (session : ℕ) → Type 0
HasAlone locks request file session =
    (l : Lock) × (filter (λ (m : Lock). same_file m.file file) locks ≡ l ∷ []) × IsTrue (is_lock_by request file session l)

-- in an entry that comes to a state the space serves this step for a session, the oldest at its seat
abbrev pub Serves : {V : Type 0} → State V → Entry → RequestNo → Session_step V → Type 0
Serves {V} state e request x =
    (a : ℕ) × (seat : Seat V) × (rest : List (Request V)) × (e.event ≡ events.Space a) × (slice_get state.seats a ≡ Some seat)
    × (seat.asked ≡ (record { number = request; step = On_sessions x }) ∷ rest)

module _ {V : Type 0} (s : Setup) (vs : Versions V) where
  -- the locks that live after a history
  abbrev pub live_locks : History → List Lock
  live_locks past = (live (state_after s vs past).clock (state_after s vs past).tree).locks

  -- an entry after a history has the locked line of a session of the agent, in the incarnation, that makes a request: its open is served
  abbrev pub IsLocked : History → Entry → RequestNo → FileId → (session : ℕ) → Type 0
  IsLocked past e request file session =
      (taken : RequestNo) × (names : List (List ℕ)) × (until : ℕ) × Serves (state_after s vs past) e taken (Open_write names session)
      × Contains e.lines (lines.Locked taken file until) × (taken.agent ≡ request.agent) × (taken.incarnation ≡ request.incarnation)

  -- a session's lock lived after each event from its locked line on, and no other lock on the file
  abbrev pub HasSince : History → RequestNo → FileId → (session : ℕ) → Type 0
  HasSince [] request file session = ⊥
  HasSince (e ∷ past) request file session =
      HasAlone (live_locks (e ∷ past)) request file session × (IsLocked past e request file session ⊎ HasSince past request file session)

  -- each committed line of an entry after a history is of the close of a session that had its lock since, up to this event, and found the
  -- file at the version before
  abbrev pub IsFenced : History → Entry → Type 0
  IsFenced past e =
      (request : RequestNo) (file : FileId) (number : ℕ) → Contains e.lines (lines.Committed request file number)
      → (session : ℕ) × (v : V) × (n : Node) × Serves (state_after s vs past) e request (Commit session v) × HasSince past request file session
      × (node_at (state_after s vs past).tree.nodes file (number - 1) ≡ Some n)

  -- each committed line of a history
  abbrev pub CommitsAreFenced : History → Type 0
  CommitsAreFenced [] = Unit {0}
  CommitsAreFenced (e ∷ past) = IsFenced past e × CommitsAreFenced past

use Rattle.std.specs.Prelude.{ℕ, ◌-◌, List, [], ◌∷◌, ◌++◌, Option, Some, None, Ok, Err}
use Rattle.scfs_base.specs.declared.naming.FileId.{FileId}
use Rattle.scfs_base.specs.declared.naming.RequestNo.{RequestNo}
use Rattle.scfs_schedule.specs.declared.types.Line.{Line}
use Rattle.scfs_schedule.specs.declared.types.Line.TheVariants as lines
use Rattle.scfs_schedule.specs.declared.types.Refusal.TheVariants as refusals
use Rattle.scfs_model.specs.Lists.{without_first}
use Rattle.scfs_model.specs.Versions.{Versions}
use Rattle.scfs_model.specs.Tree.{Node, Lock, Tree, node_at, version_at, lock_on, session_lock, is_node_at, is_lock_by}
use Rattle.scfs_model.specs.Walks.{OrRefusal, on_ok, file_at, free_file_at}

-- Steps for a session: its open and its close. These see and put versions.

pub data Session_step (V : Type 0) : Type 0 where
  -- an open for a session of this number, by the names of a path
  Open_read : (names : List (List ℕ)) → (session : ℕ) → Session_step V
  Open_write : (names : List (List ℕ)) → (session : ℕ) → Session_step V
  -- the close of a session of this number, as this version
  Commit : (session : ℕ) → V → Session_step V

-- what an open sees: the file, the number of its newest version, that version, and the lock on the file
pub record Sight (V : Type 0) : Type 0 where
  pub file : FileId
  pub number : ℕ
  pub version : Option V
  pub lock : Option Lock

pub data Session_outcome (V : Type 0) : Type 0 where
  Sees : Sight V → Session_outcome V
  -- an open for writing also puts this lock
  Locks : Sight V → Lock → Session_outcome V
  -- the close of a session of this number is completed: the version, and the file's node with it
  Completes : (session : ℕ) → V → Node → Session_outcome V

-- the node that a close finds, where the session's lock is there and the file's newest version is the one before it
abbrev pub still_held : Option Lock → Option Node → OrRefusal Node
still_held None n = Err refusals.LockLost
still_held (Some l) None = Err refusals.LockLost
still_held (Some l) (Some n) = Ok n

-- the lock that an open for writing puts
abbrev pub new_lock : RequestNo → (session until : ℕ) → FileId → Lock
new_lock request session until file =
    record { file = file; agent = request.agent; incarnation = request.incarnation; session = session; until = until }

module _ {V : Type 0} (vs : Versions V) where
  -- the sight of a file's newest version
  abbrev pub sight_of : Tree V → Node → Sight V
  sight_of tree n =
      record { file = n.id; number = n.newest; version = version_at vs tree.versions n.id n.newest; lock = lock_on tree.locks n.id }

  -- a file's node with its next version
  abbrev pub with_version : Node → V → Node
  with_version n v = record n { newest = vs.number v; size = vs.size v }

  -- what a step comes to at a moment, where a lock lives until then
  abbrev pub session_outcome : Tree V → (now until : ℕ) → RequestNo → Session_step V → OrRefusal (Session_outcome V)
  session_outcome tree now until request (Open_read names session) = on_ok (λ n. Sees (sight_of tree n)) (file_at tree.nodes names)
  session_outcome tree now until request (Open_write names session) =
      on_ok (λ (n : Node). Locks (sight_of tree n) (new_lock request session until n.id)) (free_file_at tree.nodes tree.locks names)
  session_outcome tree now until request (Commit session v) =
      on_ok (λ n. Completes session (vs.completed v now) (with_version n (vs.completed v now)))
      (still_held (session_lock tree.locks request (vs.file v) session) (node_at tree.nodes (vs.file v) (vs.number v - 1)))

  -- the tree after it; after a close the session's lock and the node as it was are away, the node as it is now and the version are put
  abbrev pub session_after : Tree V → RequestNo → Session_outcome V → Tree V
  session_after tree request (Sees sight) = tree
  session_after tree request (Locks sight l) = record tree { locks = tree.locks ++ l ∷ [] }
  session_after tree request (Completes session v n) =
      record {
        nodes = without_first (is_node_at (vs.file v) (vs.number v - 1)) tree.nodes ++ n ∷ [];
        locks = without_first (is_lock_by request (vs.file v) session) tree.locks;
        versions = tree.versions ++ v ∷ [];
      }

  -- its line, where the space serves it
  abbrev pub session_line : RequestNo → Session_outcome V → Line
  session_line request (Sees sight) = lines.Looked request
  session_line request (Locks sight l) = lines.Locked request l.file l.until
  session_line request (Completes session v n) = lines.Committed request (vs.file v) (vs.number v)

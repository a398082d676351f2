use Rattle.std.specs.Prelude.{ℕ, List, [], ◌∷◌, ◌++◌, length, filter, Bool, false, not, ◌==◌, Option, Some, None, Ok, Err}
use Rattle.scfs_base.specs.declared.naming.FileId.{FileId}
use Rattle.scfs_base.specs.declared.naming.RequestNo.{RequestNo}
use Rattle.scfs_schedule.specs.declared.types.Line.{Line}
use Rattle.scfs_schedule.specs.declared.types.Line.TheVariants as lines
use Rattle.scfs_schedule.specs.declared.types.Refusal.TheVariants as refusals
use Rattle.scfs_model.specs.Lists.{without_first}
use Rattle.scfs_model.specs.Tree.{Lock, is_lock_by, session_lock}
use Rattle.scfs_model.specs.Walks.{OrRefusal}

-- Steps on locks that were put before. They don't rest on versions.

pub data Lock_step : Type 0 where
  -- the lock of a session is given back
  Unlock : FileId → (session : ℕ) → Lock_step
  -- all locks of the agent are, those of earlier incarnations too
  Unlock_all : Lock_step
  -- the lock of a session lives longer
  Renew : FileId → (session : ℕ) → Lock_step

pub data Lock_outcome : Type 0 where
  -- so many locks are away
  Frees : (locks : ℕ) → Lock_outcome
  -- the lock with its new end
  Renews : Lock → Lock_outcome

-- whether a step takes a lock away
abbrev pub frees : RequestNo → Lock_step → Lock → Bool
frees request (Unlock file session) l = is_lock_by request file session l
frees request Unlock_all l = l.agent == request.agent
frees request (Renew file session) l = false

-- how many of these locks a step takes away
abbrev pub freed : List Lock → RequestNo → Lock_step → ℕ
freed locks request step = length (filter (frees request step) locks)

-- a lock that lives until this moment from now on, where it is there
abbrev pub renewed : (until : ℕ) → Option Lock → OrRefusal Lock_outcome
renewed until None = Err refusals.LockLost
renewed until (Some l) = Ok (Renews (record l { until = until }))

-- what a step comes to with these locks, where a lock that is renewed lives until then
abbrev pub lock_outcome : List Lock → (until : ℕ) → RequestNo → Lock_step → OrRefusal Lock_outcome
lock_outcome locks until request (Unlock file session) = Ok (Frees (freed locks request (Unlock file session)))
lock_outcome locks until request Unlock_all = Ok (Frees (freed locks request Unlock_all))
lock_outcome locks until request (Renew file session) = renewed until (session_lock locks request file session)

-- the locks with the lock that a step renews put anew
abbrev pub put_anew : List Lock → RequestNo → Lock_step → Lock → List Lock
put_anew locks request (Renew file session) l = without_first (is_lock_by request file session) locks ++ l ∷ []
put_anew locks request other l = locks

-- the locks after it
abbrev pub locks_after : List Lock → RequestNo → Lock_step → Lock_outcome → List Lock
locks_after locks request step (Frees count) = filter (λ (l : Lock). not (frees request step l)) locks
locks_after locks request step (Renews l) = put_anew locks request step l

-- its line, where the space serves it
abbrev pub lock_line : RequestNo → Lock_outcome → Line
lock_line request (Frees count) = lines.Unlocked request count
lock_line request (Renews l) = lines.Renewed request l.until

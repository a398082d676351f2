-- The line that is read off a step of the space and its reply is that of what the step came to on the machine.
use Rattle.std.proofs.Common.{◌≡◌, ℕ, ◌+◌, ◌-◌, List, [], ◌∷◌, ◌++◌, length, refl, ap, sym, ◌∙◌, Option, Some, None, Ok, Err, arith, length-append}
use Rattle.scfs_base.specs.declared.naming.FileId.{FileId}
use Rattle.scfs_base.specs.declared.naming.RequestNo.{RequestNo}
use Rattle.scfs_schedule.specs.declared.types.Line.{Line}
use Rattle.scfs_schedule.specs.declared.types.Line.TheVariants as lines
use Rattle.scfs_schedule.specs.declared.types.Refusal.{Refusal}
use Rattle.scfs_schedule.specs.declared.types.Refusal.TheVariants as refusals
use Rattle.scfs_tuples.specs.declared.types.Field.{Field}
use Rattle.scfs_tuples.specs.declared.types.Field.TheVariants as fields
use Rattle.scfs_tuples.specs.declared.types.Reply.{Reply}
use Rattle.scfs_tuples.specs.declared.types.Step as tuples
use Rattle.scfs_tuples.specs.declared.types.Tuple.{Tuple}
use Rattle.scfs_tuples.specs.declared.types.StepResult.{StepResult}
use Rattle.scfs_tuples.specs.declared.types.StepResult.TheVariants as results
use Rattle.scfs_anchor.specs.Fields.{number_at}
use Rattle.scfs_anchor.specs.Replies.{ShowsSight, refusal_in}
use Rattle.scfs_anchor.specs.StepPlans.{step_on_tuples}
use Rattle.scfs_anchor.specs.StepReplies.{IsDone, IsRefusal, HasTaken, IsLockReply, sight_said, IsReplyTo}
use Rattle.scfs_model.specs.Layers.{Row, rows}
use Rattle.scfs_model.specs.Tree.{Node, Lock, Tree, session_lock, node_at}
use Rattle.scfs_model.specs.Walks.{OrRefusal, file_at, free_file_at, on_ok}
use Rattle.scfs_model.specs.NameSteps.{Name_step, Make, Look, Name_outcome, Makes, Shows, name_outcome}
use Rattle.scfs_model.specs.LockSteps.{Lock_step, Unlock, Unlock_all, Renew, renewed, lock_outcome}
use Rattle.scfs_model.specs.SessionSteps.{Open_read, Open_write, Commit, Sight, Sees, Locks, Completes, still_held, sight_of, new_lock, with_version}
use Rattle.scfs_model.specs.Steps.{Step, On_names, On_locks, On_sessions, Of_names, Of_locks, Of_sessions, served, served_line}
use Rattle.scfs_world.specs.Showing.{line_of, line_by, file_shown}

-- the last but one field
number_behind : (before : List Field) (a b : ℕ) → number_at (before ++ fields.Num a ∷ fields.Num b ∷ []) (length before) ≡ a
number_behind [] a b = refl
number_behind (f ∷ before) a b = number_behind before a b

file_behind : (before : List Field) (a b : ℕ) → file_shown (before ++ fields.Num a ∷ fields.Num b ∷ []) ≡ record { 0 = a }
file_behind before a b =
    let size : length (before ++ fields.Num a ∷ fields.Num b ∷ []) - 2 ≡ length before = simp length-append (omega arith) in
    ap (λ at. record { 0 = number_at (before ++ fields.Num a ∷ fields.Num b ∷ []) at }) size ∙ ap (λ n. record { 0 = n }) (number_behind before a b)

refused_line : (request : RequestNo) (step : tuples.Step) (now : ℕ) (why : Refusal) (result : StepResult) → IsRefusal step why result
    → line_by request step now result ≡ lines.Refused request why
refused_line request step now why result (index, found, is, said) =
    ap (line_by request step now) is ∙ ap (lines.Refused request) (sym (ap (refusal_in step.conds) is) ∙ said)

module _ (request : RequestNo) (now lease : ℕ) where
  -- the line that is read off
  abbrev Read : Step Row → StepResult → Line
  Read step result = line_by request (step_on_tuples lease request step) now result

  name_line : (x : Name_step) (r : OrRefusal Name_outcome) (reply : Reply) → IsReplyTo lease request (Of_names x r) reply
      → Read (On_names x) reply.result ≡ served_line rows request (Of_names x r)
  name_line x (Err why) reply h = refused_line request (step_on_tuples lease request (On_names x)) now why reply.result h
  name_line (Make names id) (Ok (Makes n)) reply h = by reply.result h
    where
      by : (result : StepResult) → IsDone result → Read (On_names (Make names id)) result ≡ lines.Changed request
      by (results.Did bound taken shown) done = refl
      by (results.Refused index found) done = absurd done
  name_line (Make names id) (Ok (Shows n)) reply h = absurd h
  name_line (Look names) (Ok (Makes n)) reply h = absurd h
  name_line (Look []) (Ok (Shows n)) reply h = by reply.result h
    where
      by : (result : StepResult) → IsDone result → Read (On_names (Look [])) result ≡ lines.Looked request
      by (results.Did bound taken shown) done = refl
      by (results.Refused index found) done = absurd done
  name_line (Look (name ∷ [])) (Ok (Shows n)) reply h = ap (Read (On_names (Look (name ∷ [])))) h.1
  name_line (Look (name ∷ next ∷ names)) (Ok (Shows n)) reply h = ap (Read (On_names (Look (name ∷ next ∷ names)))) h.1

  -- locks that are given back, and one that is renewed
  frees_line : (x : Lock_step) (count : ℕ) (result : StepResult) → ((bound : List Field) (taken : ℕ) (shown : List (List Tuple))
      → Read (On_locks x) (results.Did bound taken shown) ≡ lines.Unlocked request taken) → HasTaken count result
      → Read (On_locks x) result ≡ lines.Unlocked request count
  frees_line x count (results.Did bound taken shown) each done = each bound taken shown ∙ ap (lines.Unlocked request) done
  frees_line x count (results.Refused index found) each done = absurd done

  renews_line : (file : FileId) (session : ℕ) (l : Option Lock) (reply : Reply)
      → IsLockReply lease request (Renew file session) (renewed (now + lease) l) reply
      → Read (On_locks (Renew file session)) reply.result ≡ served_line rows request (Of_locks (Renew file session) (renewed (now + lease) l))
  renews_line file session None reply h =
      refused_line request (step_on_tuples lease request (On_locks (Renew file session))) now refusals.LockLost reply.result h
  renews_line file session (Some l) reply h = by reply.result h.0
    where
      by : (result : StepResult) → IsDone result → Read (On_locks (Renew file session)) result ≡ lines.Renewed request (now + lease)
      by (results.Did bound taken shown) done = refl
      by (results.Refused index found) done = absurd done

  locks_line : (locks : List Lock) (x : Lock_step) (reply : Reply) → IsLockReply lease request x (lock_outcome locks (now + lease) request x) reply
      → Read (On_locks x) reply.result ≡ served_line rows request (Of_locks x (lock_outcome locks (now + lease) request x))
  locks_line locks (Unlock file session) reply h = frees_line (Unlock file session) _ reply.result (λ bound taken shown. refl) h
  locks_line locks Unlock_all reply h = frees_line Unlock_all _ reply.result (λ bound taken shown. refl) h
  locks_line locks (Renew file session) reply h = renews_line file session (session_lock locks request file session) reply h

  read_line : (names : List (List ℕ)) (session : ℕ) (sight : Sight Row) (reply : Reply) → ShowsSight reply (sight_said sight)
      → Read (On_sessions (Open_read names session)) reply.result ≡ lines.Looked request
  read_line [] session sight reply shows = ap (Read (On_sessions (Open_read [] session))) shows.result
  read_line (name ∷ []) session sight reply shows = ap (Read (On_sessions (Open_read (name ∷ []) session))) shows.result
  read_line (name ∷ next ∷ names) session sight reply shows = ap (Read (On_sessions (Open_read (name ∷ next ∷ names) session))) shows.result

  -- by what is found on the way
  module _ (tree : Tree Row) (reply : Reply) where
    reads_line : (names : List (List ℕ)) (session : ℕ) (r : OrRefusal Node)
        → let o = Of_sessions (Open_read names session) (on_ok (λ n. Sees (sight_of rows tree n)) r) in
        IsReplyTo lease request o reply → Read (On_sessions (Open_read names session)) reply.result ≡ served_line rows request o
    reads_line names session (Ok n) h = read_line names session (sight_of rows tree n) reply h
    reads_line names session (Err why) h =
        refused_line request (step_on_tuples lease request (On_sessions (Open_read names session))) now why reply.result h

    writes_line : (names : List (List ℕ)) (session : ℕ) (r : OrRefusal Node)
        → let o = Of_sessions (Open_write names session)
        (on_ok (λ (n : Node). Locks (sight_of rows tree n) (new_lock request session (now + lease) n.id)) r) in
        IsReplyTo lease request o reply → Read (On_sessions (Open_write names session)) reply.result ≡ served_line rows request o
    writes_line names session (Ok n) h =
        ap (Read (On_sessions (Open_write names session))) h.0.result
        ∙ ap (λ id. lines.Locked request id (now + lease)) (file_behind h.0.before n.id.0 n.newest)
    writes_line names session (Err why) h =
        refused_line request (step_on_tuples lease request (On_sessions (Open_write names session))) now why reply.result h

    lost : (session : ℕ) (v : Row) (result : StepResult)
        → IsRefusal (step_on_tuples lease request (On_sessions (Commit session v))) refusals.LockLost result
        → Read (On_sessions (Commit session v)) result ≡ lines.Refused request refusals.LockLost
    lost session v result h = refused_line request (step_on_tuples lease request (On_sessions (Commit session v))) now refusals.LockLost result h

    commits_line : (session : ℕ) (v : Row) (l : Option Lock) (n : Option Node)
        → let w = rows.completed v now in
        let o = Of_sessions (Commit session v) (on_ok (λ m. Completes session w (with_version rows m w)) (still_held l n)) in
        IsReplyTo lease request o reply → Read (On_sessions (Commit session v)) reply.result ≡ served_line rows request o
    commits_line session v None n h = lost session v reply.result h
    commits_line session v (Some l) None h = lost session v reply.result h
    commits_line session v (Some l) (Some n) h = by reply.result h
      where
        by : (result : StepResult) → IsDone result → Read (On_sessions (Commit session v)) result ≡ lines.Committed request v.file v.number
        by (results.Did bound taken shown) done = refl
        by (results.Refused index found) done = absurd done

  line_is : (tree : Tree Row) (x : Step Row) (reply : Reply) → IsReplyTo lease request (served rows tree now lease request x).outcome reply
      → Read x reply.result ≡ served_line rows request (served rows tree now lease request x).outcome
  line_is tree (On_names x) reply h = name_line x (name_outcome tree.nodes x) reply h
  line_is tree (On_locks x) reply h = locks_line tree.locks x reply h
  line_is tree (On_sessions (Open_read names session)) reply h = reads_line tree reply names session (file_at tree.nodes names) h
  line_is tree (On_sessions (Open_write names session)) reply h = writes_line tree reply names session (free_file_at tree.nodes tree.locks names) h
  line_is tree (On_sessions (Commit session v)) reply h =
      commits_line tree reply session v (session_lock tree.locks request v.file session) (node_at tree.nodes v.file (v.number - 1)) h

pub line_served : (tree : Tree Row) (now lease : ℕ) (request : RequestNo) (x : Step Row) (reply : Reply) → reply.now ≡ now
    → IsReplyTo lease request (served rows tree now lease request x).outcome reply
    → line_of request (step_on_tuples lease request x) reply ≡ served_line rows request (served rows tree now lease request x).outcome
line_served tree now lease request x reply moment h =
    ap (λ m. line_by request (step_on_tuples lease request x) m reply.result) moment ∙ line_is request now lease tree x reply h

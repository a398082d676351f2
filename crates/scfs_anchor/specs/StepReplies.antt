use Rattle.std.specs.Prelude.{◌≡◌, ◌<◌, ◌≤◌, ◌+◌, ◌^◌, ℕ, List, [], ◌∷◌, ◌++◌, Option, Some, None, option_map, Ok, Err}
use Rattle.scfs_base.specs.declared.naming.RequestNo.{RequestNo}
use Rattle.scfs_schedule.specs.declared.types.Refusal.{Refusal}
use Rattle.scfs_base.specs.Limits.{contents_limit}
use Rattle.scfs_tuples.specs.declared.types.Field.{Field}
use Rattle.scfs_tuples.specs.declared.types.Field.TheVariants as fields
use Rattle.scfs_tuples.specs.declared.types.Tuple.{Tuple}
use Rattle.scfs_tuples.specs.declared.types.Reply.{Reply}
use Rattle.scfs_tuples.specs.declared.types.Step.{Step}
use Rattle.scfs_tuples.specs.declared.types.StepResult.{StepResult}
use Rattle.scfs_tuples.specs.declared.types.StepResult.TheVariants as results
use Rattle.scfs_model.specs.Layers.{Row}
use Rattle.scfs_model.specs.Tree.{Node, Lock}
use Rattle.scfs_model.specs.Walks.{OrRefusal, root_node}
use Rattle.scfs_model.specs.NameSteps.{Name_step, Make, Look, Name_outcome, Makes, Shows}
use Rattle.scfs_model.specs.LockSteps.{Lock_step, Unlock, Unlock_all, Renew, Lock_outcome, Frees, Renews}
use Rattle.scfs_model.specs.SessionSteps.{Session_step, Open_read, Open_write, Commit, Session_outcome, Sees, Locks, Completes}
use Rattle.scfs_model.specs.SessionSteps as machine
use Rattle.scfs_model.specs.Steps.{Outcome, Of_names, Of_locks, Of_sessions}
use Rattle.scfs_anchor.specs.Plans.{step_of}
use Rattle.scfs_anchor.specs.Replies.{ShowsSight, refusal_in, IsRow}
use Rattle.scfs_anchor.specs.Tree.{IsNode, kind_number}
use Rattle.scfs_anchor.specs.Items.{row_said, node_said}
use Rattle.scfs_anchor.specs.StepPlans.{name_plan, lock_plan, session_plan}
use Rattle.scfs_anchor.specs.declared.seen.Sight.{Sight}

-- What a reply of the space shows, by the step and by what it came to on the machine.

-- a step was done
abbrev pub IsDone : StepResult → Type 0
IsDone (results.Did bound taken rows) = Unit {0}
IsDone (results.Refused index found) = ⊥

-- a step was refused for this reason
abbrev pub IsRefusal : Step → Refusal → StepResult → Type 0
IsRefusal step why result =
    (index : ℕ) × (found : Option Tuple) × (result ≡ results.Refused index found) × (refusal_in step.conds result ≡ why)

-- what a look binds for a node, behind what the names before it bind
abbrev pub seen_fields : Node → List Field
seen_fields n = fields.Num n.id.0 ∷ fields.Num (kind_number n.kind) ∷ fields.Num n.newest ∷ fields.Num n.size ∷ []

abbrev pub HasShown : List (List ℕ) → Node → StepResult → Type 0
HasShown [] n result = IsDone result
HasShown (name ∷ names) n result = (before : List Field) × (result ≡ results.Did (before ++ seen_fields n) 0 [])

-- so many were taken
abbrev pub HasTaken : ℕ → StepResult → Type 0
HasTaken count (results.Did bound taken rows) = taken ≡ count
HasTaken count (results.Refused index found) = ⊥

-- a lock was put at the moment of the reply, to live so long
abbrev pub LivesFrom : Reply → (lease : ℕ) → Lock → Type 0
LivesFrom reply lease l = reply.now + lease ≡ l.until

-- a sight by its row and by who holds the lock
abbrev pub sight_said : machine.Sight Row → Sight
sight_said sight =
    record {
      id = sight.file;
      newest = sight.number;
      row = option_map row_said sight.version;
      lock = option_map (λ (l : Lock). (l.agent, l.incarnation, l.session)) sight.lock;
    }

-- the reply to a step on names that came to this
abbrev pub IsNameReply : Name_step → OrRefusal Name_outcome → Reply → Type 0
IsNameReply x (Err why) reply = IsRefusal (step_of (name_plan x)) why reply.result
IsNameReply (Make names id) (Ok (Makes n)) reply = IsDone reply.result
IsNameReply (Look names) (Ok (Shows n)) reply = HasShown names n reply.result
IsNameReply x other reply = ⊥

-- to a step on locks
abbrev pub IsLockReply : (lease : ℕ) → RequestNo → Lock_step → OrRefusal Lock_outcome → Reply → Type 0
IsLockReply lease request x (Err why) reply = IsRefusal (step_of (lock_plan lease request x)) why reply.result
IsLockReply lease request (Unlock file session) (Ok (Frees count)) reply = HasTaken count reply.result
IsLockReply lease request Unlock_all (Ok (Frees count)) reply = HasTaken count reply.result
IsLockReply lease request (Renew file session) (Ok (Renews l)) reply = IsDone reply.result × LivesFrom reply lease l
IsLockReply lease request x other reply = ⊥

-- to a step for a session
abbrev pub IsSessionReply : (lease : ℕ) → RequestNo → Session_step Row → OrRefusal (Session_outcome Row) → Reply → Type 0
IsSessionReply lease request x (Err why) reply = IsRefusal (step_of (session_plan lease request x)) why reply.result
IsSessionReply lease request (Open_read names session) (Ok (Sees sight)) reply = ShowsSight reply (sight_said sight)
IsSessionReply lease request (Open_write names session) (Ok (Locks sight l)) reply =
    ShowsSight reply (sight_said sight) × LivesFrom reply lease l
IsSessionReply lease request (Commit session v) (Ok (Completes of it n)) reply = IsDone reply.result
IsSessionReply lease request x other reply = ⊥

-- a reply of the space is that of a step that came to this
abbrev pub IsReplyTo : (lease : ℕ) → RequestNo → Outcome Row → Reply → Type 0
IsReplyTo lease request (Of_names x r) reply = IsNameReply x r reply
IsReplyTo lease request (Of_locks x r) reply = IsLockReply lease request x r reply
IsReplyTo lease request (Of_sessions x r) reply = IsSessionReply lease request x r reply

-- the numbers of an outcome that an agent answers with fit their fields
abbrev pub FitsNode : Node → Type 0
FitsNode n = IsNode (node_said n)

abbrev pub FitsVersion : Option Row → Type 0
FitsVersion None = Unit {0}
FitsVersion (Some v) = IsRow (row_said v) × (v.number ≤ 1000000) × (v.length ≤ contents_limit)

abbrev pub FitsSight : machine.Sight Row → Type 0
FitsSight sight = (sight.file.0 < 2 ^ 64) × (sight.number ≤ 1000000) × FitsVersion sight.version

-- what a step came to is of its kind, and its numbers fit
abbrev pub FitsNames : Name_step → OrRefusal Name_outcome → Type 0
FitsNames x (Err why) = Unit {0}
FitsNames (Make names id) (Ok (Makes n)) = (n.id ≡ id) × FitsNode n
FitsNames (Look []) (Ok (Shows n)) = n ≡ root_node
FitsNames (Look (name ∷ names)) (Ok (Shows n)) = FitsNode n
FitsNames x other = ⊥

-- only a renewal is refused
abbrev pub FitsLocks : Lock_step → OrRefusal Lock_outcome → Type 0
FitsLocks (Unlock file session) (Ok (Frees count)) = count < 2 ^ 64
FitsLocks Unlock_all (Ok (Frees count)) = count < 2 ^ 64
FitsLocks (Renew file session) (Ok (Renews l)) = l.until < 2 ^ 64
FitsLocks (Renew file session) (Err why) = Unit {0}
FitsLocks x other = ⊥

abbrev pub FitsSessions : Session_step Row → OrRefusal (Session_outcome Row) → Type 0
FitsSessions x (Err why) = Unit {0}
FitsSessions (Open_read names session) (Ok (Sees sight)) = FitsSight sight
FitsSessions (Open_write names session) (Ok (Locks sight l)) = FitsSight sight × (l.until < 2 ^ 64)
FitsSessions (Commit session v) (Ok (Completes of it n)) = (of ≡ session) × (it.number ≡ v.number)
FitsSessions x other = ⊥

abbrev pub FitsOutcome : Outcome Row → Type 0
FitsOutcome (Of_names x r) = FitsNames x r
FitsOutcome (Of_locks x r) = FitsLocks x r
FitsOutcome (Of_sessions x r) = FitsSessions x r

use Rattle.std.proofs.Common.{◌≡◌, ℕ, ◌+◌, ◌-◌, List, [], ◌∷◌, ◌++◌, Bool, false, Option, ap, ◌∙◌, zero-add}
use Rattle.std.specs.Prelude.{filter, not}
use Rattle.scfs_base.specs.declared.naming.FileId.{FileId}
use Rattle.scfs_base.specs.declared.naming.RequestNo.{RequestNo}
use Rattle.scfs_schedule.specs.declared.types.Refusal.{Refusal}
use Rattle.scfs_tuples.specs.After.{Failed, tested, result_of, left_by, reply_among, left_among}
use Rattle.scfs_tuples.specs.declared.types.Step.{Step}
use Rattle.scfs_tuples.specs.declared.types.StepResult.TheVariants.{Refused}
use Rattle.scfs_tuples.specs.declared.types.Tuple.{Tuple}
use Rattle.scfs_model.specs.Layers.{Row}
use Rattle.scfs_model.specs.Lists.{without_first}
use Rattle.scfs_model.specs.Tree.{Node, Lock, is_node_at, is_lock_by}
use Rattle.scfs_model.specs.Walks.{OrRefusal}
use Rattle.scfs_model.specs.NameSteps.{Name_step, Name_outcome, Makes, Shows}
use Rattle.scfs_model.specs.LockSteps.{Lock_step, Renew, Lock_outcome, Frees, Renews, frees}
use Rattle.scfs_model.specs.SessionSteps.{Session_step, Session_outcome, Sees, Locks, Completes}
use Rattle.scfs_model.specs.Steps.{after_ok}
use Rattle.scfs_anchor.specs.Plans.{step_of}
use Rattle.scfs_anchor.specs.Replies.{refusal_at, refusal_in}
use Rattle.scfs_anchor.specs.Items.{Item, Of_node, Of_version, Of_lock, space_of}
use Rattle.scfs_anchor.specs.StepPlans.{name_plan, lock_plan, session_plan}
use Rattle.scfs_anchor.specs.StepReplies.{IsRefusal, IsNameReply, IsLockReply, IsSessionReply}

-- What steps leave of items without ended locks, and that those on their tuples do the same.

-- whether an item is a lock that passes a test
abbrev pub lock_that : (Lock → Bool) → Item → Bool
lock_that test (Of_node n) = false
lock_that test (Of_version v) = false
lock_that test (Of_lock l) = test l

-- or a node
abbrev pub node_that : (Node → Bool) → Item → Bool
node_that test (Of_node n) = test n
node_that test (Of_version v) = false
node_that test (Of_lock l) = false

-- the items after a step on names
abbrev pub name_items : List Item → Name_outcome → List Item
name_items items (Makes n) = items ++ Of_node n ∷ []
name_items items (Shows n) = items

-- what is left for a close to put behind
abbrev pub opened_up : List Item → RequestNo → FileId → (session base : ℕ) → List Item
opened_up items request file session base =
    without_first (node_that (is_node_at file base)) (without_first (lock_that (is_lock_by request file session)) items)

-- the items with the lock that a step renews put anew
abbrev pub items_anew : List Item → RequestNo → Lock_step → Lock → List Item
items_anew items request (Renew file session) l = without_first (lock_that (is_lock_by request file session)) items ++ Of_lock l ∷ []
items_anew items request other l = items

-- the items after a step on locks
abbrev pub lock_items : List Item → RequestNo → Lock_step → Lock_outcome → List Item
lock_items items request x (Frees count) = filter (λ i. not (lock_that (frees request x) i)) items
lock_items items request x (Renews l) = items_anew items request x l

-- the items after a step for a session
abbrev pub session_items : List Item → RequestNo → Session_outcome Row → List Item
session_items items request (Sees sight) = items
session_items items request (Locks sight l) = items ++ Of_lock l ∷ []
session_items items request (Completes session v n) =
    opened_up items request v.file session (v.number - 1) ++ Of_node n ∷ Of_version v ∷ []

-- a step on names does to the tuples of items what it does to the items
abbrev pub NamesAlike : (now : ℕ) → List Item → Name_step → OrRefusal Name_outcome → Type 0
NamesAlike now items x r =
    IsNameReply x r (reply_among (space_of items) now (step_of (name_plan x)))
    × (left_among (space_of items) now (step_of (name_plan x)) ≡ space_of (after_ok items (name_items items) r))

-- and so does a step on locks
abbrev pub LocksAlike : (now lease : ℕ) → List Item → RequestNo → Lock_step → OrRefusal Lock_outcome → Type 0
LocksAlike now lease items request x r =
    IsLockReply lease request x r (reply_among (space_of items) now (step_of (lock_plan lease request x)))
    × (left_among (space_of items) now (step_of (lock_plan lease request x)) ≡ space_of (after_ok items (lock_items items request x) r))

-- and a step for a session
abbrev pub SessionsAlike : (now lease : ℕ) → List Item → RequestNo → Session_step Row → OrRefusal (Session_outcome Row) → Type 0
SessionsAlike now lease items request x r =
    IsSessionReply lease request x r (reply_among (space_of items) now (step_of (session_plan lease request x)))
    × (left_among (space_of items) now (step_of (session_plan lease request x)) ≡ space_of (after_ok items (session_items items request) r))

-- a step whose condition of this number fails is refused so, and leaves the tuples
pub refused : (step : Step) (now : ℕ) (ts : List Tuple) (k : ℕ) (found : Option Tuple) (why : Refusal)
    → tested step.conds 0 ts [] 0 ≡ Failed (0 + k) found → refusal_at step.conds k found ≡ why
    → IsRefusal step why (reply_among ts now step).result × (left_among ts now step ≡ ts)
refused step now ts k found why h r =
    let result : (reply_among ts now step).result ≡ Refused (0 + k) found = ap (λ t. result_of t ts step.all) h in (
      (0 + k, found, result, ap (refusal_in step.conds) result ∙ ap (λ j. refusal_at step.conds j found) (zero-add k) ∙ r),
      ap (λ t. left_by t now ts step.puts) h,
    )

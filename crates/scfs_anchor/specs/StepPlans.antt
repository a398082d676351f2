use Rattle.std.specs.Prelude.{ℕ, ◌+◌, zero, suc, List, [], ◌∷◌, codes, None}
use Rattle.scfs_base.specs.declared.naming.FileId.{FileId}
use Rattle.scfs_base.specs.declared.naming.RequestNo.{RequestNo}
use Rattle.scfs_schedule.specs.declared.types.Refusal.TheVariants as refusals
use Rattle.scfs_tuples.specs.declared.types.Want.TheVariants as wants
use Rattle.scfs_tuples.specs.declared.types.Cond.TheVariants as conds
use Rattle.scfs_tuples.specs.declared.types.Give.{Give}
use Rattle.scfs_tuples.specs.declared.types.Give.TheVariants as gives
use Rattle.scfs_tuples.specs.declared.types.Template.{Template}
use Rattle.scfs_tuples.specs.declared.types.Step.{Step}
use Rattle.scfs_model.specs.Layers.{Row}
use Rattle.scfs_model.specs.NameSteps.{Name_step, Make, Look}
use Rattle.scfs_model.specs.LockSteps.{Lock_step, Unlock, Unlock_all, Renew}
use Rattle.scfs_model.specs.SessionSteps.{Session_step, Open_read, Open_write, Commit}
use Rattle.scfs_model.specs.Steps.{On_names, On_locks, On_sessions}
use Rattle.scfs_model.specs.Steps as machine
use Rattle.scfs_anchor.specs.Shapes.{node, text, directory, given, given_text, root}
use Rattle.scfs_anchor.specs.Plans.{Condition, needs, reach, before_last, Plan, step_of, open_read, open_write, commit, renew, unlock, unlock_all}
use Rattle.scfs_anchor.specs.Items.{row_said}

-- The plan of each step of the machine.

-- the last name is free, else a step is refused as Exists
abbrev pub free : ℕ → List ℕ → List Condition
free at name =
    (record {
      cond = conds.NoneOf (node wants.Any (directory at) (text name) wants.Any wants.Any wants.Any);
      refusal = λ found. refusals.Exists;
    }) ∷ []

-- the last name is there; variables stand for its id, its kind, its newest version and its length
abbrev pub there : ℕ → List ℕ → List Condition
there at name =
    needs (node (wants.Bind at) (directory at) (text name) (wants.Bind (at + 1)) (wants.Bind (at + 2)) (wants.Bind (at + 3))) refusals.NoEntry ∷ []

-- nothing is asked of the last name
abbrev pub nothing_more : ℕ → List ℕ → List Condition
nothing_more at name = []

-- the directory behind so many names
abbrev pub parent_of : ℕ → Give
parent_of zero = given root
parent_of (suc at) = gives.Var at

abbrev pub last_name : List (List ℕ) → List ℕ
last_name [] = []
last_name (name ∷ []) = name
last_name (name ∷ next ∷ names) = last_name (next ∷ names)

-- the node of a new file, behind so many names
abbrev pub file_template : (at : ℕ) → (name : List ℕ) → FileId → Template
file_template at name id =
    record {
      gives = given_text (codes "node") ∷ given id.0 ∷ parent_of at ∷ given_text name ∷ given 1 ∷ given 0 ∷ given 0 ∷ [];
      life = None;
    }

abbrev pub new_file : List (List ℕ) → FileId → Template
new_file names id = file_template (before_last names) (last_name names) id

abbrev pub create : List (List ℕ) → FileId → Plan
create names id = record { conditions = reach free 0 names; all = []; puts = new_file names id ∷ [] }

abbrev pub stat : List (List ℕ) → Plan
stat names = record { conditions = reach there 0 names; all = []; puts = [] }

-- the plan of a step on names
abbrev pub name_plan : Name_step → Plan
name_plan (Make names id) = create names id
name_plan (Look names) = stat names

-- the plan of a step on locks, by the agent and in the incarnation of its request, where a lock lives so long
abbrev pub lock_plan : (lease : ℕ) → RequestNo → Lock_step → Plan
lock_plan lease request (Unlock file session) = unlock file request.agent request.incarnation session
lock_plan lease request Unlock_all = unlock_all request.agent
lock_plan lease request (Renew file session) = renew file request.agent request.incarnation session lease

-- the plan of a step for a session, where a lock lives so long
abbrev pub session_plan : (lease : ℕ) → RequestNo → Session_step Row → Plan
session_plan lease request (Open_read names session) = open_read names None
session_plan lease request (Open_write names session) = open_write names request.agent request.incarnation session lease
session_plan lease request (Commit session v) = commit (row_said v) session

abbrev pub plan_of : (lease : ℕ) → RequestNo → machine.Step Row → Plan
plan_of lease request (On_names x) = name_plan x
plan_of lease request (On_locks x) = lock_plan lease request x
plan_of lease request (On_sessions x) = session_plan lease request x

-- what is asked of the space
abbrev pub step_on_tuples : (lease : ℕ) → RequestNo → machine.Step Row → Step
step_on_tuples lease request step = step_of (plan_of lease request step)

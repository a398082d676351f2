use Rattle.std.specs.Prelude.{◌≡◌, ◌≢◌, ◌<◌, ◌≤◌, ◌^◌, ◌+◌, ℕ, List, [], length}
use Rattle.scfs_base.specs.declared.naming.RequestNo.{RequestNo}
use Rattle.scfs_base.specs.declared.naming.UploadNo.{UploadNo}
use Rattle.scfs_schedule.specs.declared.types.Kind.TheVariants.{File}
use Rattle.scfs_base.specs.Limits.{contents_limit}
use Rattle.scfs_tuples.specs.After.{reply_of, left_after}
use Rattle.scfs_tuples.specs.declared.types.Tuple.{Tuple}
use Rattle.scfs_model.specs.Layers.{Row, rows}
use Rattle.scfs_model.specs.Tree.{Node, Lock, Tree, empty_tree, live}
use Rattle.scfs_model.specs.NameSteps.{Make, Look}
use Rattle.scfs_model.specs.SessionSteps.{Open_read, Open_write, Commit}
use Rattle.scfs_model.specs.Steps.{Step, On_names, On_locks, On_sessions, Served, served}
use Rattle.scfs_anchor.specs.Tree.{Each, IsTree}
use Rattle.scfs_anchor.specs.Items.{Item, entries_of, space_of, tree_of}
use Rattle.scfs_anchor.specs.StepPlans.{step_on_tuples}
use Rattle.scfs_anchor.specs.StepReplies.{IsReplyTo, FitsOutcome}

-- That tuples hold the tree of the machine, and that they go on to do so.

-- the numbers of an upload of an agent fit
pub record IsUpload (u : UploadNo) : Type 0 where
  pub agent : u.agent < 2 ^ 8
  pub incarnation : u.incarnation < 2 ^ 24
  pub count : u.count < 2 ^ 32

-- a version that a close asks for: its numbers fit, and its upload is of the agent, in the incarnation, that makes the request
pub record IsClosing (request : RequestNo) (v : Row) : Type 0 where
  pub first : 1 ≤ v.number
  pub last : v.number ≤ 1000001
  pub root : length v.root.0 ≡ 32
  pub content : length v.content.0 ≡ 32
  pub short : v.length ≤ contents_limit
  pub upload : IsUpload v.upload
  pub agent : v.upload.agent ≡ request.agent
  pub incarnation : v.upload.incarnation ≡ request.incarnation

-- a step that an agent asks: of a path below the root, but for a look; its numbers fit
abbrev pub IsAskable : RequestNo → Step Row → Type 0
IsAskable request (On_names (Make names id)) = (names ≢ []) × (id.0 < 2 ^ 64)
IsAskable request (On_names (Look names)) = Unit {0}
IsAskable request (On_locks x) = Unit {0}
IsAskable request (On_sessions (Open_read names session)) = names ≢ []
IsAskable request (On_sessions (Open_write names session)) = (names ≢ []) × (session < 2 ^ 64)
IsAskable request (On_sessions (Commit session v)) = IsClosing request v

-- the number of a request to the space fits
abbrev pub IsRequest : RequestNo → Type 0
IsRequest request = (request.agent < 2 ^ 8) × (request.incarnation < 2 ^ 24)

-- a new file has an id that no node has
abbrev pub IsFresh : List Node → Step Row → Type 0
IsFresh nodes (On_names (Make names id)) = Each (λ (n : Node). n.id.0 ≢ id.0) nodes
IsFresh nodes (On_names (Look names)) = Unit {0}
IsFresh nodes (On_locks x) = Unit {0}
IsFresh nodes (On_sessions x) = Unit {0}

-- no directory has a lock
abbrev pub LockFiles : List Node → List Lock → Type 0
LockFiles nodes locks = Each (λ (l : Lock). Each (λ (n : Node). n.id.0 ≡ l.file.0 → n.kind ≡ File) nodes) locks

-- no file has more versions than this
abbrev pub HaveAtMost : ℕ → List Node → Type 0
HaveAtMost most nodes = Each (λ (n : Node). n.newest ≤ most) nodes

-- at a moment tuples hold a tree in which no file has more versions than this, and which has no more locks
pub record Holds (now most : ℕ) (tuples : List Tuple) (tree : Tree Row) : Type 0 where
  pub items : List Item
  pub said : tuples ≡ space_of items
  pub meant : tree ≡ tree_of items
  pub valid : IsTree now (entries_of items)
  pub files : LockFiles tree.nodes tree.locks
  pub few : HaveAtMost most tree.nodes
  pub held : length tree.locks ≤ most

-- a step on the tuples of a tree does what it does to the tree: they hold the tree left, and the reply is that of its outcome, whose
-- numbers fit
pub record ServesAlike (now most lease : ℕ) (tuples : List Tuple) (request : RequestNo) (step : Step Row) (x : Served Row) : Type 0 where
  pub holds : Holds now (most + 1) (left_after tuples now (step_on_tuples lease request step)) x.tree
  pub reply : IsReplyTo lease request x.outcome (reply_of tuples now (step_on_tuples lease request step))
  pub fits : FitsOutcome x.outcome

-- no tuples hold the empty tree
abbrev pub EmptyHolds : Type 0
EmptyHolds = (now : ℕ) → Holds now 0 [] empty_tree

-- what holds at a moment holds later, and with more versions
abbrev pub HoldsOn : Type 0
HoldsOn =
    (now later most more : ℕ) (tuples : List Tuple) (tree : Tree Row) → Holds now most tuples tree → now ≤ later → most ≤ more
    → Holds later more tuples tree

-- each step that an agent asks does to the tuples what it does to the tree, where the end of a lock that is put now fits
abbrev pub StepsServeAlike : Type 0
StepsServeAlike =
    (now most lease : ℕ) (tuples : List Tuple) (tree : Tree Row) (request : RequestNo) (step : Step Row) → Holds now most tuples tree
    → most < 1000000 → now + lease < 2 ^ 64 → IsRequest request → IsAskable request step → IsFresh tree.nodes step
    → ServesAlike now most lease tuples request step (served rows (live now tree) now lease request step)

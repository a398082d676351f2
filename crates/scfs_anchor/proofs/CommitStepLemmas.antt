use Rattle.std.proofs.Common.{◌≡◌, ℕ, ◌+◌, ◌-◌, List, [], ◌∷◌, ◌++◌, eqb, Bool, true, false, Option, Some, None, refl, ap, ◌∙◌, sym, subst}
use Rattle.std.specs.Prelude.{codes}
use Rattle.std.specs.List.{find}
use Rattle.std.specs.Option.{option_map}
use Rattle.std.proofs.lemmas.Bool.{eqb-true}
use Rattle.scfs_base.specs.declared.naming.FileId.{FileId}
use Rattle.scfs_base.specs.declared.naming.RequestNo.{RequestNo}
use Rattle.scfs_schedule.specs.declared.types.Kind.TheVariants.{File}
use Rattle.scfs_schedule.specs.declared.types.Refusal.TheVariants as refusals
use Rattle.scfs_tuples.specs.After.{Tested, Passed, Failed, tested, need, result_of, left_by}
use Rattle.scfs_tuples.specs.Matching.{Match}
use Rattle.scfs_tuples.specs.declared.types.Cond.{Cond}
use Rattle.scfs_tuples.specs.declared.types.Cond.TheVariants as conds
use Rattle.scfs_tuples.specs.declared.types.Field.{Field}
use Rattle.scfs_tuples.specs.declared.types.Field.TheVariants.{Num, Text}
use Rattle.scfs_tuples.specs.declared.types.Tuple.{Tuple}
use Rattle.scfs_tuples.specs.declared.types.Want.{Want}
use Rattle.scfs_tuples.specs.declared.types.Want.TheVariants.{Any, Bind}
use Rattle.scfs_model.specs.Layers.{Row, rows}
use Rattle.scfs_model.specs.Lists.{without_first}
use Rattle.scfs_model.specs.Tree.{Node, Lock, Tree, node_at, session_lock, is_lock_by, is_node_at}
use Rattle.scfs_model.specs.Walks.{OrRefusal, on_ok}
use Rattle.scfs_model.specs.SessionSteps.{Commit, Session_outcome, Completes, still_held, with_version, session_outcome}
use Rattle.scfs_anchor.specs.Shapes.{number, node}
use Rattle.scfs_anchor.specs.Plans as plans
use Rattle.scfs_anchor.specs.Plans.{step_of}
use Rattle.scfs_anchor.specs.Tree.{Each, kind_number}
use Rattle.scfs_anchor.specs.Items.{Item, Of_node, Of_version, Of_lock, space_of, nodes, locks, tree_of}
use Rattle.scfs_anchor.specs.StepPlans.{session_plan}
use Rattle.scfs_anchor.specs.StepReplies.{IsSessionReply, FitsSessions}
use Rattle.scfs_anchor.specs.Holding.{LockFiles}
use Rattle.scfs_anchor.proofs.Alike.{lock_that, node_that, opened_up, SessionsAlike, refused}
use Rattle.scfs_anchor.proofs.ItemLemmas.{flipped, space_append}
use Rattle.scfs_anchor.proofs.ItemMatches.{Meets, met, said, take_met, each_of}
use Rattle.scfs_anchor.proofs.KeptLemmas.{without_lock}
use Rattle.scfs_anchor.proofs.ListLemmas.{both_true, each_found, found_passes}
use Rattle.scfs_anchor.proofs.LockStepLemmas.{own_lock, lock_wants, binds_none, lock_meets, lock_item}

-- A close: the session's lock and the file's node as it was go, the node as it is and the version come.

abbrev node_wants : FileId → (base : ℕ) → List Want
node_wants file base = (node (number file.0) (Bind 0) (Bind 1) (number 1) (number base) Any).wants

-- the pattern binds the directory and the name
abbrev binds_place : Item → List Field
binds_place (Of_node n) = Num n.parent.0 ∷ Text n.name ∷ []
binds_place (Of_version v) = []
binds_place (Of_lock l) = []

-- a node of this number is a file
abbrev pub IsFileAt : FileId → Node → Type 0
IsFileAt file n = n.id.0 ≡ file.0 → n.kind ≡ File

abbrev IsFileIn : FileId → Item → Type 0
IsFileIn file (Of_node n) = IsFileAt file n
IsFileIn file (Of_version v) = Unit {0}
IsFileIn file (Of_lock l) = Unit {0}

file_items : (file : FileId) (items : List Item) → Each (IsFileAt file) (nodes items) → Each (IsFileIn file) items
file_items file [] h = tt
file_items file (Of_node n ∷ items) h = (h.0, file_items file items h.1)
file_items file (Of_version v ∷ items) h = (tt, file_items file items h)
file_items file (Of_lock l ∷ items) h = (tt, file_items file items h)

-- the pattern of a file's node meets it, and no other item
node_meets : (file : FileId) (base : ℕ) (x : Item) → IsFileIn file x
    → Meets (node_wants file base) [] (node_that (is_node_at file base)) binds_place x
node_meets file base (Of_version v) h = refl
node_meets file base (Of_lock l) h = refl
node_meets file base (Of_node n) h = here (eqb file.0 n.id.0) (eqb base n.newest) refl refl where
  file_kind : eqb file.0 n.id.0 ≡ true → eqb 1 (kind_number n.kind) ≡ true
  file_kind e = ap (λ k. eqb 1 (kind_number k)) (h (sym (eqb-true file.0 n.id.0 e)))

  here : (t u : Bool) → eqb file.0 n.id.0 ≡ t → eqb base n.newest ≡ u
      → Meets (node_wants file base) [] (node_that (is_node_at file base)) binds_place (Of_node n)
  here false u e f = rw (e, flipped file.0 n.id.0 false e) refl
  here true false e f = rw (e, file_kind e, f, flipped file.0 n.id.0 true e, flipped base n.newest false f) refl
  here true true e f = rw (e, file_kind e, f, flipped file.0 n.id.0 true e, flipped base n.newest true f) refl

all_meet : (file : FileId) (base : ℕ) (items : List Item) → Each (IsFileIn file) items
    → Each (Meets (node_wants file base) [] (node_that (is_node_at file base)) binds_place) items
all_meet file base [] h = tt
all_meet file base (x ∷ items) h = (node_meets file base x h.0, all_meet file base items h.1)

-- the first such item is the first such node
node_item : (test : Node → Bool) (items : List Item) → find (node_that test) items ≡ option_map Of_node (find test (nodes items))
node_item test [] = refl
node_item test (Of_version v ∷ items) = node_item test items
node_item test (Of_lock l ∷ items) = node_item test items
node_item test (Of_node n ∷ items) = here (test n) refl (node_item test items) where
  here : (t : Bool) → test n ≡ t → find (node_that test) items ≡ option_map Of_node (find test (nodes items))
      → find (node_that test) (Of_node n ∷ items) ≡ option_map Of_node (find test (nodes (Of_node n ∷ items)))
  here true e rest = rw e refl
  here false e rest = rw e rest

-- what the conditions of a commit come to
abbrev came : List Item → Option Lock → Option Node → Tested
came rest None n = Failed 0 None
came rest (Some l) None = Failed 1 None
came rest (Some l) (Some n) = Passed (binds_place (Of_node n)) 0 (space_of rest)

abbrev node_cond : FileId → (base : ℕ) → List Cond
node_cond file base = conds.Take (node (number file.0) (Bind 0) (Bind 1) (number 1) (number base) Any) ∷ []

abbrev commit_conds : FileId → (agent incarnation session base : ℕ) → List Cond
commit_conds file agent incarnation session base = conds.Take (plans.session_lock file agent incarnation session) ∷ node_cond file base

node_tested : (items : List Item) (file : FileId) (base : ℕ) (l : Lock) → Each (IsFileAt file) (nodes items)
    → tested (node_cond file base) 1 (space_of items) [] 0
    ≡ came (without_first (node_that (is_node_at file base)) items) (Some l) (node_at (nodes items) file base)
node_tested items file base l files =
    let test = is_node_at file base in
    take_met (node_wants file base) [] (node_that test) binds_place items (all_meet file base items (file_items file items files)) 1
    (λ ts (m : Match). Passed m.bound 0 ts)
    ∙ ap (λ x. need (option_map (met binds_place) x) 1 (λ (m : Match). Passed m.bound 0 (space_of (without_first (node_that test) items))))
    (node_item test items) ∙ by (node_at (nodes items) file base) where
      by : (o : Option Node)
          → need (option_map (met binds_place) (option_map Of_node o)) 1
          (λ (m : Match). Passed m.bound 0 (space_of (without_first (node_that (is_node_at file base)) items)))
          ≡ came (without_first (node_that (is_node_at file base)) items) (Some l) o
      by None = refl
      by (Some n) = refl

commit_tested : (items : List Item) (request : RequestNo) (file : FileId) (session base agent incarnation : ℕ) → agent ≡ request.agent
    → incarnation ≡ request.incarnation → (o : Option Lock) → session_lock (locks items) request file session ≡ o
    → ((l : Lock) → o ≡ Some l → Each (IsFileAt file) (nodes items))
    → tested (commit_conds file agent incarnation session base) 0 (space_of items) [] 0
    ≡ came (opened_up items request file session base) o (node_at (nodes items) file base)
commit_tested items request file session base agent incarnation ea ei o e files =
    let ws = lock_wants file agent incarnation session in
    let test = is_lock_by request file session in
    let rest = without_first (lock_that test) items in
    let go = λ (ts : List Tuple) (m : Match). tested (node_cond file base) 1 ts m.bound 0 in
    take_met ws [] (lock_that test) binds_none items
    (each_of (Meets ws [] (lock_that test) binds_none) (lock_meets request file session agent incarnation ea ei) items) 0 go
    ∙ ap (λ x. need (option_map (met binds_none) x) 0 (go (space_of rest))) (lock_item test items ∙ ap (option_map Of_lock) e)
    ∙ by o files where
      by : (o : Option Lock) → ((l : Lock) → o ≡ Some l → Each (IsFileAt file) (nodes items))
          → need (option_map (met binds_none) (option_map Of_lock o)) 0
          (λ (m : Match). tested (node_cond file base) 1 (space_of (without_first (lock_that (is_lock_by request file session)) items)) m.bound 0)
          ≡ came (opened_up items request file session base) o (node_at (nodes items) file base)
      by None files = refl
      by (Some l) files =
          let rest = without_first (lock_that (is_lock_by request file session)) items in
          subst (λ (ns : List Node). tested (node_cond file base) 1 (space_of rest) [] 0
          ≡ came (opened_up items request file session base) (Some l) (node_at ns file base)) same
          (node_tested rest file base l (subst (Each (IsFileAt file)) (sym same) (files l refl))) where
            same : nodes (without_first (lock_that (is_lock_by request file session)) items) ≡ nodes items
            same = ap (λ (t : Tree Row). t.nodes) (without_lock (is_lock_by request file session) items)

-- a node of this file
abbrev pub AtFile : FileId → Option Node → Type 0
AtFile file None = Unit {0}
AtFile file (Some n) = (n.id.0 ≡ file.0) × (n.kind ≡ File)

pub found_at : (file : FileId) (base : ℕ) (ns : List Node) → Each (IsFileAt file) ns → AtFile file (node_at ns file base)
found_at file base ns h = by (node_at ns file base) refl where
  by : (o : Option Node) → node_at ns file base ≡ o → AtFile file o
  by None e = tt
  by (Some n) e =
      let same = eqb-true n.id.0 file.0 (both_true (eqb n.id.0 file.0) _ (found_passes (is_node_at file base) ns n e)).0 in
      (same, each_found (IsFileAt file) (is_node_at file base) ns h n e same)

-- a file that the session has the lock of is one
pub held_files : (request : RequestNo) (file : FileId) (session : ℕ) (ns : List Node) (ls : List Lock) → LockFiles ns ls → (l : Lock)
    → session_lock ls request file session ≡ Some l → Each (IsFileAt file) ns
held_files request file session ns ls h l e =
    let own = is_lock_by request file session in
    let same = ap (λ (x : Lock). x.file.0) (own_lock request file session l.until l (found_passes own ls l e)) in
    subst (λ (i : ℕ). Each (λ (n : Node). n.id.0 ≡ i → n.kind ≡ File) ns) same
    (each_found (λ (l : Lock). Each (λ (n : Node). n.id.0 ≡ l.file.0 → n.kind ≡ File) ns) own ls h l e)

-- the version that a close completes
abbrev pub completed : (now : ℕ) → Row → Row
completed now v = record v { moment = now }

-- what a close comes to, by the lock and the node that are there
abbrev pub committed : (now session : ℕ) → Row → Option Lock → Option Node → OrRefusal (Session_outcome Row)
committed now session v o n = on_ok (λ n. Completes session (completed now v) (with_version rows n (completed now v))) (still_held o n)

-- the tuple of a file's node in the place of this one
abbrev node_put : Node → Row → (id kind : ℕ) → Tuple
node_put n v id kind =
    record {
      fields = Text (codes "node") ∷ Num id ∷ Num n.parent.0 ∷ Text n.name ∷ Num kind ∷ Num v.number ∷ Num v.length ∷ [];
      until = None;
    }

came_to : (now lease : ℕ) (items : List Item) (request : RequestNo) (session : ℕ) (v : Row) (o : Option Lock) (n : Option Node)
    → ((l : Lock) → o ≡ Some l → AtFile v.file n)
    → tested (step_of (session_plan lease request (Commit session v))).conds 0 (space_of items) [] 0
    ≡ came (opened_up items request v.file session (v.number - 1)) o n
    → SessionsAlike now lease items request (Commit session v) (committed now session v o n)
came_to now lease items request session v None n at h =
    refused (step_of (session_plan lease request (Commit session v))) now (space_of items) 0 None refusals.LockLost h refl
came_to now lease items request session v (Some l) None at h =
    refused (step_of (session_plan lease request (Commit session v))) now (space_of items) 1 None refusals.LockLost h refl
came_to now lease items request session v (Some l) (Some n) at h =
    let ts = space_of items in
    let left = opened_up items request v.file session (v.number - 1) in
    let w = completed now v in
    let new : Node = with_version rows n w in
    let step = step_of (session_plan lease request (Commit session v)) in
    let is = at l refl in (
      subst (λ (t : Tested). IsSessionReply lease request (Commit session v) (committed now session v (Some l) (Some n))
          (record { now = now; result = result_of t ts step.all })) (sym h) tt,
      ap (λ t. left_by t now ts step.puts) h
          ∙ ap (λ id. space_of left ++ node_put n v id 1 ∷ said (Of_version w) ∷ []) (sym is.0)
          ∙ ap (λ kind. space_of left ++ node_put n v n.id.0 (kind_number kind) ∷ said (Of_version w) ∷ []) (sym is.1)
          ∙ sym (space_append left (Of_node new ∷ Of_version w ∷ [])),
    )

-- a close does what it does to the tree
pub commit_alike : (now lease : ℕ) (items : List Item) (request : RequestNo) (session : ℕ) (v : Row) → v.upload.agent ≡ request.agent
    → v.upload.incarnation ≡ request.incarnation → LockFiles (nodes items) (locks items)
    → SessionsAlike now lease items request (Commit session v)
    (session_outcome rows (tree_of items) now (now + lease) request (Commit session v))
commit_alike now lease items request session v ea ei files =
    let lock = session_lock (locks items) request v.file session in
    let all = held_files request v.file session (nodes items) (locks items) files in
    came_to now lease items request session v lock (node_at (nodes items) v.file (v.number - 1))
    (λ l e. found_at v.file (v.number - 1) (nodes items) (all l e))
    (commit_tested items request v.file session (v.number - 1) v.upload.agent v.upload.incarnation ea ei lock refl all)

committed_fits : (now session : ℕ) (v : Row) (o : Option Lock) (n : Option Node) → FitsSessions (Commit session v) (committed now session v o n)
committed_fits now session v None n = tt
committed_fits now session v (Some l) None = tt
committed_fits now session v (Some l) (Some n) = (refl, refl)

pub commit_fits : (now until : ℕ) (items : List Item) (request : RequestNo) (session : ℕ) (v : Row)
    → FitsSessions (Commit session v) (session_outcome rows (tree_of items) now until request (Commit session v))
commit_fits now until items request session v =
    committed_fits now session v (session_lock (locks items) request v.file session) (node_at (nodes items) v.file (v.number - 1))

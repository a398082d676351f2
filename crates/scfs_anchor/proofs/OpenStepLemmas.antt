use Rattle.std.proofs.Common.{◌≡◌, ◌≢◌, ℕ, ◌+◌, ◌<◌, ◌^◌, List, [], ◌∷◌, eqb, Bool, true, false, ◌&&◌, Option, Some, None, Ok, Err, refl, ap, ◌∙◌, sym, subst}
use Rattle.std.specs.Option.{option_map}
use Rattle.std.proofs.lemmas.List.{map-append}
use Rattle.scfs_base.specs.declared.naming.FileId.{FileId}
use Rattle.scfs_base.specs.declared.naming.RequestNo.{RequestNo}
use Rattle.scfs_tuples.specs.After.{reply_among, left_among}
use Rattle.scfs_model.specs.Layers.{Row, rows}
use Rattle.scfs_model.specs.Names.{same_file, root_id}
use Rattle.scfs_model.specs.Tree.{Node, Lock, version_at, lock_on}
use Rattle.scfs_model.specs.Walks.{OrRefusal, on_ok, unlocked}
use Rattle.scfs_model.specs.SessionSteps.{Open_read, Open_write, Session_outcome, Sees, Locks, sight_of, new_lock, session_outcome}
use Rattle.scfs_model.specs.SessionSteps as machine
use Rattle.scfs_anchor.specs.Shapes.{root}
use Rattle.scfs_anchor.specs.Plans.{step_of, open_read}
use Rattle.scfs_anchor.specs.Tree as anchor
use Rattle.scfs_anchor.specs.Tree.{Each, Apart, IsEntry, IsTree, tuples_of}
use Rattle.scfs_anchor.specs.Replies.{ShowsSight}
use Rattle.scfs_anchor.specs.Items.{Item, Of_node, Of_version, Of_lock, lock_said, entry_of, entries_of, space_of, versions, locks, tree_of}
use Rattle.scfs_anchor.specs.StepPlans.{session_plan}
use Rattle.scfs_anchor.specs.StepReplies.{sight_said, FitsVersion, FitsSight, FitsSessions}
use Rattle.scfs_anchor.proofs.OpenLemmas.{AnswersSight, LocksApart, opens_at_tree, file_fits, FileFits}
use Rattle.scfs_anchor.proofs.LockLemmas.{taken, unless_locked, with_lock, LocksAt, locks_at_tree}
use Rattle.scfs_anchor.proofs.Alike.{SessionsAlike}
use Rattle.scfs_anchor.proofs.ItemLemmas.{node_meant, locks_said, version_found, lock_found}
use Rattle.scfs_anchor.proofs.ItemWalks.{on_from, walk_to_file}
use Rattle.scfs_anchor.proofs.ListLemmas.{apart_map}
use Rattle.scfs_anchor.proofs.WholeLemmas.{same_lock}

-- Opens, over the items that live.

on_ok_from : {X Y Z : Type 0} (f : Y → Z) (g : X → OrRefusal Y) (r : OrRefusal X) → on_ok f (on_from g r) ≡ on_from (λ x. on_ok f (g x)) r
on_ok_from f g (Ok x) = refl
on_ok_from f g (Err why) = refl

held_said : (o : Option Lock) → option_map anchor.held (option_map lock_said o) ≡ option_map (λ (l : Lock). (l.agent, l.incarnation, l.session)) o
held_said None = refl
held_said (Some l) = refl

-- the sight of a file in the tree
abbrev pub sight_in : List Item → anchor.Node → machine.Sight Row
sight_in items n = sight_of rows (tree_of items) (node_meant n)

-- the sight of a file in the entries is that in the tree
seen_said : (items : List Item) (n : anchor.Node) → anchor.sight_of (entries_of items) n ≡ sight_said (sight_in items n)
seen_said items n =
    let row = version_found items n.id n.newest in
    let held = ap (option_map anchor.held) (lock_found items n.id) ∙ held_said (lock_on (locks items) n.id) in
    λ i. record { id = n.id; newest = n.newest; row = row i; lock = held i }

-- no two locks of the entries are on one file
entries_apart : (items : List Item) → Apart same_lock (locks items) → LocksApart (entries_of items)
entries_apart items h =
    subst (Apart (λ (a b : anchor.Lock). anchor.same_file a.file b.file)) (sym (locks_said items))
    (apart_map lock_said (λ a b. anchor.same_file a.file b.file) (locks items) h)

-- the outcome of an open for reading, by the way through the entries
abbrev pub read_from : List Item → OrRefusal anchor.Node → OrRefusal (Session_outcome Row)
read_from items r = on_from (λ n. Ok (Sees (sight_in items n))) r

pub read_walks : (now until : ℕ) (items : List Item) (request : RequestNo) (names : List (List ℕ)) (session : ℕ) → names ≢ []
    → session_outcome rows (tree_of items) now until request (Open_read names session)
    ≡ read_from items (anchor.file_at (anchor.nodes_of (entries_of items)) root names)
read_walks now until items request names session some =
    ap (on_ok (λ (n : Node). Sees (sight_of rows (tree_of items) n))) (walk_to_file items root_id names (λ n. Ok n) some)
    ∙ on_ok_from (λ (n : Node). Sees (sight_of rows (tree_of items) n)) (λ n. Ok (node_meant n))
    (anchor.file_at (anchor.nodes_of (entries_of items)) root names)

read_answered : (now lease : ℕ) (items : List Item) (request : RequestNo) (names : List (List ℕ)) (session : ℕ) (r : OrRefusal anchor.Node)
    → (let step = step_of (open_read names None) in
    AnswersSight step (reply_among (space_of items) now step) (on_ok (anchor.sight_of (entries_of items)) r)
    × (left_among (space_of items) now step ≡ space_of items))
    → SessionsAlike now lease items request (Open_read names session) (read_from items r)
read_answered now lease items request names session (Ok n) h =
    (subst (ShowsSight (reply_among (space_of items) now (step_of (open_read names None)))) (seen_said items n) h.0, h.1)
read_answered now lease items request names session (Err why) h = h

pub read_alike : (now lease : ℕ) (items : List Item) (request : RequestNo) (names : List (List ℕ)) (session : ℕ)
    → IsTree now (entries_of items) → Apart same_lock (locks items) → names ≢ []
    → SessionsAlike now lease items request (Open_read names session)
    (session_outcome rows (tree_of items) now (now + lease) request (Open_read names session))
read_alike now lease items request names session is apart some =
    subst (λ (r : OrRefusal (Session_outcome Row)). SessionsAlike now lease items request (Open_read names session) r)
    (sym (read_walks now (now + lease) items request names session some))
    (read_answered now lease items request names session (anchor.file_at (anchor.nodes_of (entries_of items)) root names)
    (opens_at_tree now (entries_of items) names is (entries_apart items apart) some))

-- the outcome of an open for writing, by the way through the entries
abbrev pub write_from : List Item → (until : ℕ) → RequestNo → (session : ℕ) → OrRefusal anchor.Node → OrRefusal (Session_outcome Row)
write_from items until request session r =
    on_from (λ n. on_ok (λ (n : Node). Locks (sight_of rows (tree_of items) n) (new_lock request session until n.id))
    (unlocked (lock_on (locks items) n.id) (node_meant n))) r

pub write_walks : (now until : ℕ) (items : List Item) (request : RequestNo) (names : List (List ℕ)) (session : ℕ) → names ≢ []
    → session_outcome rows (tree_of items) now until request (Open_write names session)
    ≡ write_from items until request session (anchor.file_at (anchor.nodes_of (entries_of items)) root names)
write_walks now until items request names session some =
    let locked = λ (n : Node). Locks (sight_of rows (tree_of items) n) (new_lock request session until n.id) in
    ap (on_ok locked) (walk_to_file items root_id names (λ n. unlocked (lock_on (locks items) n.id) n) some)
    ∙ on_ok_from locked (λ n. unlocked (lock_on (locks items) n.id) (node_meant n)) (anchor.file_at (anchor.nodes_of (entries_of items)) root names)

-- an open of the file n, by the lock on it
lock_answered : (now lease : ℕ) (items : List Item) (request : RequestNo) (names : List (List ℕ)) (session : ℕ) (n : anchor.Node) (o : Option Lock)
    → (let step = step_of (session_plan lease request (Open_write names session)) in
    AnswersSight step (reply_among (space_of items) now step) (unless_locked (entries_of items) n (option_map lock_said o))
    × (left_among (space_of items) now step
    ≡ tuples_of (with_lock (entries_of items) (taken now request.agent request.incarnation session lease n) (option_map lock_said o))))
    → SessionsAlike now lease items request (Open_write names session)
    (on_ok (λ (n : Node). Locks (sight_of rows (tree_of items) n) (new_lock request session (now + lease) n.id)) (unlocked o (node_meant n)))
lock_answered now lease items request names session n None h =
    let step = step_of (session_plan lease request (Open_write names session)) in (
      (subst (ShowsSight (reply_among (space_of items) now step)) (seen_said items n) h.0, refl),
      h.1 ∙ ap tuples_of (sym (map-append entry_of items (Of_lock (new_lock request session (now + lease) n.id) ∷ []))),
    )
lock_answered now lease items request names session n (Some there) h = h

write_answered : (now lease : ℕ) (items : List Item) (request : RequestNo) (names : List (List ℕ)) (session : ℕ) (r : OrRefusal anchor.Node)
    → LocksAt now (entries_of items) (step_of (session_plan lease request (Open_write names session)))
    (taken now request.agent request.incarnation session lease) r
    → SessionsAlike now lease items request (Open_write names session) (write_from items (now + lease) request session r)
write_answered now lease items request names session (Ok n) h =
    let step = step_of (session_plan lease request (Open_write names session)) in
    let es = entries_of items in
    lock_answered now lease items request names session n (lock_on (locks items) n.id)
    (subst (λ (o : Option anchor.Lock). AnswersSight step (reply_among (space_of items) now step) (unless_locked es n o) ×
    (left_among (space_of items) now step ≡ tuples_of (with_lock es (taken now request.agent request.incarnation session lease n) o)))
    (lock_found items n.id) h)
write_answered now lease items request names session (Err why) h = h

pub write_alike : (now lease : ℕ) (items : List Item) (request : RequestNo) (names : List (List ℕ)) (session : ℕ)
    → IsTree now (entries_of items) → Apart same_lock (locks items) → names ≢ []
    → SessionsAlike now lease items request (Open_write names session)
    (session_outcome rows (tree_of items) now (now + lease) request (Open_write names session))
write_alike now lease items request names session is apart some =
    subst (λ (r : OrRefusal (Session_outcome Row)). SessionsAlike now lease items request (Open_write names session) r)
    (sym (write_walks now (now + lease) items request names session some))
    (write_answered now lease items request names session (anchor.file_at (anchor.nodes_of (entries_of items)) root names)
    (locks_at_tree now (entries_of items) names request.agent request.incarnation session lease is (entries_apart items apart) some))

-- the numbers of a version that is there fit
version_fits : (now : ℕ) (id : FileId) (v : ℕ) (items : List Item) → Each (IsEntry now) (entries_of items)
    → FitsVersion (version_at rows (versions items) id v)
version_fits now id v [] h = tt
version_fits now id v (Of_node n ∷ items) h = version_fits now id v items h.1
version_fits now id v (Of_lock l ∷ items) h = version_fits now id v items h.1
version_fits now id v (Of_version x ∷ items) h = here (same_file x.file id && eqb x.number v) refl (version_fits now id v items h.1) where
  here : (t : Bool) → same_file x.file id && eqb x.number v ≡ t → FitsVersion (version_at rows (versions items) id v)
      → FitsVersion (version_at rows (versions (Of_version x ∷ items)) id v)
  here true e rest = rw e (h.0.fits, h.0.number, h.0.length)
  here false e rest = rw e rest

sight_fits : (now : ℕ) (items : List Item) (n : anchor.Node) → IsTree now (entries_of items) → anchor.IsNode n → FitsSight (sight_in items n)
sight_fits now items n is fit = (fit.id, fit.newest, version_fits now n.id n.newest items is.ranges)

read_comes : (now : ℕ) (items : List Item) (names : List (List ℕ)) (session : ℕ) → IsTree now (entries_of items) → (r : OrRefusal anchor.Node)
    → FileFits r → FitsSessions (Open_read names session) (read_from items r)
read_comes now items names session is (Ok n) fit = sight_fits now items n is fit
read_comes now items names session is (Err why) fit = tt

pub read_fits : (now until : ℕ) (items : List Item) (request : RequestNo) (names : List (List ℕ)) (session : ℕ) → IsTree now (entries_of items)
    → names ≢ []
    → FitsSessions (Open_read names session) (session_outcome rows (tree_of items) now until request (Open_read names session))
read_fits now until items request names session is some =
    subst (FitsSessions (Open_read names session)) (sym (read_walks now until items request names session some))
    (read_comes now items names session is (anchor.file_at (anchor.nodes_of (entries_of items)) root names)
    (file_fits now (entries_of items) is.ranges names root))

locked_fits : (items : List Item) (until : ℕ) (request : RequestNo) (names : List (List ℕ)) (session : ℕ) (n : Node) → until < 2 ^ 64
    → FitsSight (sight_of rows (tree_of items) n) → (o : Option Lock)
    → FitsSessions (Open_write names session)
    (on_ok (λ (n : Node). Locks (sight_of rows (tree_of items) n) (new_lock request session until n.id)) (unlocked o n))
locked_fits items until request names session n small fit None = (fit, small)
locked_fits items until request names session n small fit (Some there) = tt

write_comes : (now until : ℕ) (items : List Item) (request : RequestNo) (names : List (List ℕ)) (session : ℕ) → IsTree now (entries_of items)
    → until < 2 ^ 64 → (r : OrRefusal anchor.Node) → FileFits r → FitsSessions (Open_write names session) (write_from items until request session r)
write_comes now until items request names session is small (Ok n) fit =
    locked_fits items until request names session (node_meant n) small (sight_fits now items n is fit) (lock_on (locks items) n.id)
write_comes now until items request names session is small (Err why) fit = tt

pub write_fits : (now until : ℕ) (items : List Item) (request : RequestNo) (names : List (List ℕ)) (session : ℕ) → IsTree now (entries_of items)
    → until < 2 ^ 64 → names ≢ []
    → FitsSessions (Open_write names session) (session_outcome rows (tree_of items) now until request (Open_write names session))
write_fits now until items request names session is small some =
    subst (FitsSessions (Open_write names session)) (sym (write_walks now until items request names session some))
    (write_comes now until items request names session is small (anchor.file_at (anchor.nodes_of (entries_of items)) root names)
    (file_fits now (entries_of items) is.ranges names root))

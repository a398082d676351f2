use Rattle.std.proofs.Common.{◌≡◌, ℕ, ◌+◌, List, [], ◌∷◌, ◌++◌, length, cond, eqb, Bool, true, false, ◌&&◌, Option, Some, None, Ok, Err, zero, suc, refl, ap, ◌∙◌, sym, subst, arith, append_assoc, length-append, zero-add}
use Rattle.std.specs.Prelude.{slice_get}
use Rattle.std.specs.Option.{option_map}
use Rattle.std.specs.Str.{bytes_eq}
use Rattle.std.proofs.lemmas.List.{append-nil}
use Rattle.scfs_schedule.specs.declared.types.Refusal.TheVariants as refusals
use Rattle.scfs_tuples.specs.After.{Passed, tested, need, result_of, left_by}
use Rattle.scfs_tuples.specs.Matching.{Match, first_match, fits}
use Rattle.scfs_tuples.specs.declared.types.Cond.{Cond}
use Rattle.scfs_tuples.specs.declared.types.Field.{Field}
use Rattle.scfs_tuples.specs.declared.types.Field.TheVariants.{Num}
use Rattle.scfs_tuples.specs.declared.types.Tuple.{Tuple}
use Rattle.scfs_tuples.specs.declared.types.Want.{Want}
use Rattle.scfs_tuples.specs.declared.types.Want.TheVariants.{Bind}
use Rattle.scfs_model.specs.Names.{root_id}
use Rattle.scfs_model.specs.Tree.{Node, node_in}
use Rattle.scfs_model.specs.Walks.{OrRefusal, from_node}
use Rattle.scfs_model.specs.NameSteps.{Look, Name_outcome, Shows, name_outcome}
use Rattle.scfs_anchor.specs.Shapes.{root, text, node, directory}
use Rattle.scfs_anchor.specs.Plans.{reach, before_last, step_of}
use Rattle.scfs_anchor.specs.Replies.{refusal_at}
use Rattle.scfs_anchor.specs.Tree as anchor
use Rattle.scfs_anchor.specs.Tree.{Entry, OfNode, OfVersion, OfLock, OfDead, OfGone, tuple_of, tuples_of, nodes_of, node_at, kind_number, IsTree}
use Rattle.scfs_anchor.specs.Items.{Item, node_said, entries_of, space_of, nodes}
use Rattle.scfs_anchor.specs.StepPlans.{there, last_name, name_plan}
use Rattle.scfs_anchor.proofs.WalkLemmas.{past, IsDirectory}
use Rattle.scfs_anchor.proofs.Alike.{NamesAlike, refused}
use Rattle.scfs_anchor.proofs.ItemLemmas.{node_found}
use Rattle.scfs_anchor.proofs.ItemWalks.{on_from, directory_at, walk_to_directory}
use Rattle.scfs_anchor.proofs.ReachLemmas.{Reaches, conds_of, path_reaches, dir_meets}

-- A look at a node: its name has to be there in the directory that was reached.

abbrev any_node : ℕ → List ℕ → List Want
any_node at name = (node (Bind at) (directory at) (text name) (Bind (at + 1)) (Bind (at + 2)) (Bind (at + 3))).wants

-- what the pattern binds for a node
abbrev seen : anchor.Node → List Field
seen n = Num n.id.0 ∷ Num (kind_number n.kind) ∷ Num n.newest ∷ Num n.size ∷ []

abbrev met : List Field → Option anchor.Node → Option Match
met bound None = None
met bound (Some n) = Some (record { tuple = tuple_of (OfNode n); bound = bound ++ seen n })

in_front : (bound more : List Field) (k : ℕ) (f : Field) → slice_get bound k ≡ Some f → slice_get (bound ++ more) k ≡ Some f
in_front [] more k f h = cc
in_front (b ∷ bound) more zero f h = h
in_front (b ∷ bound) more (suc k) f h = in_front bound more k f h

dir_stays : (at d : ℕ) (bound more : List Field) → IsDirectory at d bound → IsDirectory at d (bound ++ more)
dir_stays zero d bound more is = is
dir_stays (suc k) d bound more is = in_front bound more k (Num d) is

-- a variable behind those that are bound is free
next_free : (bound : List Field) (v : ℕ) → length bound ≡ v → slice_get bound v ≡ None
next_free bound v size = subst (λ (k : ℕ). slice_get bound k ≡ None) size (past bound)

four_behind : (bound : List Field) (a b c d : Field) → ((((bound ++ a ∷ []) ++ b ∷ []) ++ c ∷ []) ++ d ∷ []) ≡ bound ++ a ∷ b ∷ c ∷ d ∷ []
four_behind bound a b c d = simp append_assoc

node_fits : (at d : ℕ) (bound : List Field) (name : List ℕ) → length bound ≡ at → IsDirectory at d bound → (n : anchor.Node) (t u : Bool)
    → eqb d n.parent.0 ≡ t → bytes_eq name n.name ≡ u
    → fits (any_node at name) (tuple_of (OfNode n)).fields bound ≡ cond (t && u) (Some (bound ++ seen n)) None
node_fits at d bound name size is n true true e k =
    let b1 = bound ++ Num n.id.0 ∷ [] in
    let b2 = b1 ++ Num (kind_number n.kind) ∷ [] in
    let b3 = b2 ++ Num n.newest ∷ [] in
    let second : length b1 ≡ at + 1 = simp length-append (omega arith) in
    let third : length b2 ≡ at + 2 = simp length-append (omega arith) in
    let fourth : length b3 ≡ at + 3 = simp length-append (omega arith) in
    rw (
      next_free bound at size,
      dir_meets at d b1 (dir_stays at d bound (Num n.id.0 ∷ []) is) n.parent.0,
      e,
      k,
      next_free b1
          (at + 1) second,
      next_free b2 (at + 2) third,
      next_free b3 (at + 3) fourth,
    )
    (ap (λ b. Some b) (four_behind bound (Num n.id.0) (Num (kind_number n.kind)) (Num n.newest) (Num n.size)))
node_fits at d bound name size is n true false e k =
    rw (next_free bound at size, dir_meets at d (bound ++ Num n.id.0 ∷ []) (dir_stays at d bound (Num n.id.0 ∷ []) is) n.parent.0, e, k) refl
node_fits at d bound name size is n false u e k =
    rw (next_free bound at size, dir_meets at d (bound ++ Num n.id.0 ∷ []) (dir_stays at d bound (Num n.id.0 ∷ []) is) n.parent.0, e) refl

-- the pattern meets the node of the name, where there is one
first_seen : (at d : ℕ) (bound : List Field) (name : List ℕ) → length bound ≡ at → IsDirectory at d bound → (es : List Entry)
    → first_match (any_node at name) (tuples_of es) bound ≡ met bound (node_at (nodes_of es) d name)
first_seen at d bound name size is [] = refl
first_seen at d bound name size is (OfVersion row ∷ es) = first_seen at d bound name size is es
first_seen at d bound name size is (OfLock l ∷ es) = first_seen at d bound name size is es
first_seen at d bound name size is (OfDead u ∷ es) = first_seen at d bound name size is es
first_seen at d bound name size is (OfGone id ∷ es) = first_seen at d bound name size is es
first_seen at d bound name size is (OfNode n ∷ es) =
    here (eqb d n.parent.0) (bytes_eq name n.name) refl refl (first_seen at d bound name size is es) where
      here : (t u : Bool) → eqb d n.parent.0 ≡ t → bytes_eq name n.name ≡ u
          → first_match (any_node at name) (tuples_of es) bound ≡ met bound (node_at (nodes_of es) d name)
          → first_match (any_node at name) (tuples_of (OfNode n ∷ es)) bound ≡ met bound (node_at (nodes_of (OfNode n ∷ es)) d name)
      here true true e k rest = rw (node_fits at d bound name size is n true true e k, e, k) refl
      here true false e k rest = rw (node_fits at d bound name size is n true false e k, e, k) rest
      here false u e k rest = rw (node_fits at d bound name size is n false u e k, e) rest

abbrev on_path : List (List ℕ) → List Cond
on_path names = conds_of (reach there 0 names)

abbrev pub shown : Option Node → OrRefusal Name_outcome
shown o = from_node o (λ n. Ok (Shows n))

abbrev pub shown_in : List Item → List (List ℕ) → (d : ℕ) → OrRefusal Name_outcome
shown_in items names d = shown (node_in (nodes items) (record { 0 = d }) (last_name names))

-- at the directory that was reached
at_last : (now : ℕ) (items : List Item) (name : List ℕ) (names : List (List ℕ)) (k : ℕ) (before : List Field)
    → ((found : Option Tuple) → refusal_at (on_path (name ∷ names)) k found ≡ refusals.NoEntry) → (o : Option Node)
    → tested (on_path (name ∷ names)) 0 (space_of items) [] 0
    ≡ need (met before (option_map node_said o)) (0 + k) (λ (m : Match). Passed m.bound 0 (space_of items))
    → NamesAlike now items (Look (name ∷ names)) (shown o)
at_last now items name names k before why None h =
    refused (step_of (name_plan (Look (name ∷ names)))) now (space_of items) k None refusals.NoEntry h (why None)
at_last now items name names k before why (Some n) h =
    let ts = space_of items in
    let step = step_of (name_plan (Look (name ∷ names))) in
    ((before, ap (λ t. result_of t ts step.all) h), ap (λ t. left_by t now ts step.puts) h ∙ append-nil ts)

looked : (now : ℕ) (items : List Item) (name : List ℕ) (names : List (List ℕ)) (r : OrRefusal ℕ)
    → Reaches (on_path (name ∷ names)) (conds_of (there (before_last (name ∷ names)) (last_name (name ∷ names)))) 0 (entries_of items)
    (before_last (name ∷ names)) (tested (on_path (name ∷ names)) 0 (space_of items) [] 0) r
    → NamesAlike now items (Look (name ∷ names)) (on_from (shown_in items (name ∷ names)) r)
looked now items name names (Err why) (k, h, r) =
    refused (step_of (name_plan (Look (name ∷ names)))) now (space_of items) k None why h r
looked now items name names (Ok d) (k, before, size, is, h, r) =
    let last = last_name (name ∷ names) in
    at_last now items name names k before (λ found. r found) (node_in (nodes items) (record { 0 = d }) last)
    (h ∙ ap (λ (m : Option Match). need m (0 + k) (λ (m : Match). Passed m.bound 0 (space_of items)))
    (first_seen (before_last (name ∷ names)) d before last size is (entries_of items) ∙ ap (met before) (node_found items (record { 0 = d }) last)))

-- that a walk to the directory of a node looks at it there
pub look_walks : (items : List Item) (name : List ℕ) (names : List (List ℕ))
    → name_outcome (nodes items) (Look (name ∷ names))
    ≡ on_from (shown_in items (name ∷ names)) (directory_at (nodes_of (entries_of items)) root (name ∷ names))
look_walks items name names =
    walk_to_directory items root_id (name ∷ names) (λ directory last. shown (node_in (nodes items) directory last)) (λ e. cc)

-- a look shows what it shows in the tree
pub look_alike : (now : ℕ) (items : List Item) (names : List (List ℕ)) → IsTree now (entries_of items)
    → NamesAlike now items (Look names) (name_outcome (nodes items) (Look names))
look_alike now items [] is = (tt, append-nil (space_of items))
look_alike now items (name ∷ names) is =
    let es = entries_of items in
    subst (λ (r : OrRefusal Name_outcome). NamesAlike now items (Look (name ∷ names)) r) (sym (look_walks items name names))
    (looked now items name names (directory_at (nodes_of es) root (name ∷ names))
    (path_reaches there (name ∷ names) 0 root [] 0 es (before_last (name ∷ names)) (λ e. cc) refl
    (zero-add (before_last (name ∷ names))) refl is.places))

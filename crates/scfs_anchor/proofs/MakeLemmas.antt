use Rattle.std.proofs.Common.{◌≡◌, ◌≢◌, ℕ, ◌+◌, List, [], ◌∷◌, ◌++◌, cond, eqb, Bool, true, false, ◌&&◌, Option, Some, None, Ok, Err, zero, suc, refl, ap, ◌∙◌, sym, subst, zero-add}
use Rattle.std.specs.Prelude.{codes}
use Rattle.std.specs.Option.{option_map}
use Rattle.std.specs.Str.{bytes_eq}
use Rattle.scfs_base.specs.declared.naming.FileId.{FileId}
use Rattle.scfs_schedule.specs.declared.types.Refusal.TheVariants as refusals
use Rattle.scfs_tuples.specs.After.{Tested, Passed, tested, need_none, result_of, left_by, field_of, standing}
use Rattle.scfs_tuples.specs.Matching.{Match, first_match, fits}
use Rattle.scfs_tuples.specs.declared.types.Cond.{Cond}
use Rattle.scfs_tuples.specs.declared.types.Field.{Field}
use Rattle.scfs_tuples.specs.declared.types.Field.TheVariants.{Num, Text}
use Rattle.scfs_tuples.specs.declared.types.Tuple.{Tuple}
use Rattle.scfs_tuples.specs.declared.types.Want.{Want}
use Rattle.scfs_tuples.specs.declared.types.Want.TheVariants.{Any}
use Rattle.scfs_model.specs.Names.{root_id}
use Rattle.scfs_model.specs.Tree.{Node, node_in}
use Rattle.scfs_model.specs.Walks.{OrRefusal}
use Rattle.scfs_model.specs.NameSteps.{Make, Name_outcome, Makes, new_file, made, name_outcome}
use Rattle.scfs_anchor.specs.Shapes.{root, text, node, directory}
use Rattle.scfs_anchor.specs.Plans.{reach, before_last, step_of}
use Rattle.scfs_anchor.specs.Replies.{refusal_at}
use Rattle.scfs_anchor.specs.Tree as anchor
use Rattle.scfs_anchor.specs.Tree.{Entry, OfNode, OfVersion, OfLock, OfDead, OfGone, tuple_of, tuples_of, nodes_of, node_at, IsTree}
use Rattle.scfs_anchor.specs.Items.{Item, Of_node, node_said, entries_of, space_of, nodes}
use Rattle.scfs_anchor.specs.StepPlans.{free, last_name, parent_of, name_plan}
use Rattle.scfs_anchor.specs.StepReplies.{IsNameReply}
use Rattle.scfs_anchor.proofs.WalkLemmas.{IsDirectory}
use Rattle.scfs_anchor.proofs.Alike.{NamesAlike, refused}
use Rattle.scfs_anchor.proofs.ItemLemmas.{space_append, node_found}
use Rattle.scfs_anchor.proofs.ItemWalks.{on_from, directory_at, walk_to_directory}
use Rattle.scfs_anchor.proofs.ReachLemmas.{Reaches, conds_of, path_reaches, dir_meets}

-- A new file: its name has to be free in the directory that was reached.

abbrev free_name : ℕ → List ℕ → List Want
free_name at name = (node Any (directory at) (text name) Any Any Any).wants

abbrev met : List Field → Option anchor.Node → Option Match
met bound None = None
met bound (Some n) = Some (record { tuple = tuple_of (OfNode n); bound = bound })

name_fits : (at d : ℕ) (bound : List Field) (name : List ℕ) → IsDirectory at d bound → (n : anchor.Node) (t u : Bool) → eqb d n.parent.0 ≡ t
    → bytes_eq name n.name ≡ u → fits (free_name at name) (tuple_of (OfNode n)).fields bound ≡ cond (t && u) (Some bound) None
name_fits at d bound name is n true true e k = rw (dir_meets at d bound is n.parent.0, e, k) refl
name_fits at d bound name is n true false e k = rw (dir_meets at d bound is n.parent.0, e, k) refl
name_fits at d bound name is n false u e k = rw (dir_meets at d bound is n.parent.0, e) refl

-- the pattern meets the node of the name, where there is one
first_name : (at d : ℕ) (bound : List Field) (name : List ℕ) → IsDirectory at d bound → (es : List Entry)
    → first_match (free_name at name) (tuples_of es) bound ≡ met bound (node_at (nodes_of es) d name)
first_name at d bound name is [] = refl
first_name at d bound name is (OfVersion row ∷ es) = first_name at d bound name is es
first_name at d bound name is (OfLock l ∷ es) = first_name at d bound name is es
first_name at d bound name is (OfDead u ∷ es) = first_name at d bound name is es
first_name at d bound name is (OfGone id ∷ es) = first_name at d bound name is es
first_name at d bound name is (OfNode n ∷ es) =
    here (eqb d n.parent.0) (bytes_eq name n.name) refl refl (first_name at d bound name is es) where
      here : (t u : Bool) → eqb d n.parent.0 ≡ t → bytes_eq name n.name ≡ u
          → first_match (free_name at name) (tuples_of es) bound ≡ met bound (node_at (nodes_of es) d name)
          → first_match (free_name at name) (tuples_of (OfNode n ∷ es)) bound ≡ met bound (node_at (nodes_of (OfNode n ∷ es)) d name)
      here true true e k rest = rw (name_fits at d bound name is n true true e k, e, k) refl
      here true false e k rest = rw (name_fits at d bound name is n true false e k, e, k) rest
      here false u e k rest = rw (name_fits at d bound name is n false u e k, e) rest

abbrev pub made_in : List Item → List (List ℕ) → FileId → (d : ℕ) → OrRefusal Name_outcome
made_in items names id d =
    made (node_in (nodes items) (record { 0 = d }) (last_name names)) (new_file id (record { 0 = d }) (last_name names))

-- the parent that is put is the directory that was reached
parent_is : (now at d : ℕ) (bound : List Field) → IsDirectory at d bound → field_of now bound (parent_of at) ≡ Num d
parent_is now zero d bound is = ap Num (sym is)
parent_is now (suc at) d bound is = ap standing is

abbrev on_path : List (List ℕ) → List Cond
on_path names = conds_of (reach free 0 names)

-- at the directory that was reached
at_last : (now : ℕ) (items : List Item) (names : List (List ℕ)) (id : FileId) (d k : ℕ) (before : List Field)
    → IsDirectory (before_last names) d before → ((found : Option Tuple) → refusal_at (on_path names) k found ≡ refusals.Exists)
    → (o : Option Node)
    → tested (on_path names) 0 (space_of items) [] 0
    ≡ need_none (met before (option_map node_said o)) (0 + k) (Passed before 0 (space_of items))
    → NamesAlike now items (Make names id) (made o (new_file id (record { 0 = d }) (last_name names)))
at_last now items names id d k before is why None h =
    let ts = space_of items in
    let step = step_of (name_plan (Make names id)) in
    let new = new_file id (record { 0 = d }) (last_name names) in (
      subst (λ (t : Tested). IsNameReply (Make names id) (Ok (Makes new)) (record { now = now; result = result_of t ts step.all })) (sym h) tt,
      ap (λ t. left_by t now ts step.puts) h
          ∙ ap (λ parent. ts ++
          (record { fields = Text (codes "node") ∷ Num id.0 ∷ parent ∷ Text (last_name names) ∷ Num 1 ∷ Num 0 ∷ Num 0 ∷ []; until = None }) ∷ [])
          (parent_is now (before_last names) d before is)
          ∙ sym (space_append items (Of_node new ∷ [])),
    )
at_last now items names id d k before is why (Some n) h =
    let found = Some (tuple_of (OfNode (node_said n))) in
    refused (step_of (name_plan (Make names id))) now (space_of items) k found refusals.Exists h (why found)

created : (now : ℕ) (items : List Item) (names : List (List ℕ)) (id : FileId) (r : OrRefusal ℕ)
    → Reaches (on_path names) (conds_of (free (before_last names) (last_name names))) 0 (entries_of items) (before_last names)
    (tested (on_path names) 0 (space_of items) [] 0) r
    → NamesAlike now items (Make names id) (on_from (made_in items names id) r)
created now items names id (Err why) (k, h, r) = refused (step_of (name_plan (Make names id))) now (space_of items) k None why h r
created now items names id (Ok d) (k, before, size, is, h, r) =
    at_last now items names id d k before is (λ found. r found) (node_in (nodes items) (record { 0 = d }) (last_name names))
    (h ∙ ap (λ m. need_none m (0 + k) (Passed before 0 (space_of items)))
    (first_name (before_last names) d before (last_name names) is (entries_of items)
    ∙ ap (met before) (node_found items (record { 0 = d }) (last_name names))))

-- that a walk to the directory of a new file makes it there
pub make_walks : (items : List Item) (names : List (List ℕ)) (id : FileId) → names ≢ []
    → name_outcome (nodes items) (Make names id) ≡ on_from (made_in items names id) (directory_at (nodes_of (entries_of items)) root names)
make_walks items names id some =
    walk_to_directory items root_id names (λ directory last. made (node_in (nodes items) directory last) (new_file id directory last)) some

-- a new file is made as in the tree
pub make_alike : (now : ℕ) (items : List Item) (names : List (List ℕ)) (id : FileId) → IsTree now (entries_of items) → names ≢ []
    → NamesAlike now items (Make names id) (name_outcome (nodes items) (Make names id))
make_alike now items names id is some =
    let es = entries_of items in
    subst (λ (r : OrRefusal Name_outcome). NamesAlike now items (Make names id) r) (sym (make_walks items names id some))
    (created now items names id (directory_at (nodes_of es) root names)
    (path_reaches free names 0 root [] 0 es (before_last names) some refl (zero-add (before_last names)) refl is.places))

use Rattle.std.proofs.Common.{◌≡◌, ℕ, List, [], ◌∷◌, ◌++◌, length, cond, eqb, Bool, true, false, ◌&&◌, ◌||◌, eq-eqb, Option, Some, None, zero, suc, refl, ap, sym, subst, arith}
use Rattle.std.specs.Prelude.{slice_get}
use Rattle.std.specs.List.{list_any}
use Rattle.std.specs.Str.{bytes_eq}
use Rattle.std.proofs.lemmas.Bool.Decides.{nat_tests}
use Rattle.std.proofs.lemmas.Slice.Eq.{bytes_eq-Decides}
use Rattle.scfs_tuples.specs.Matching.{Match, first_match, want_fits, bind, fits}
use Rattle.scfs_tuples.specs.declared.types.Field.{Field}
use Rattle.scfs_tuples.specs.declared.types.Field.TheVariants.{Num}
use Rattle.scfs_tuples.specs.declared.types.Want.{Want}
use Rattle.scfs_tuples.specs.declared.types.Want.TheVariants.{Any, Bind}
use Rattle.scfs_anchor.specs.Shapes.{root, number, text, node, directory}
use Rattle.scfs_anchor.specs.Tree.{Node, Entry, OfNode, OfVersion, OfLock, OfDead, OfGone, tuple_of, tuples_of, nodes_of, node_at, kind_number, same_place, Apart}

not_both : (s t : Bool) → t ≡ false → s && t ≡ false
not_both true t h = h
not_both false t h = refl

head_false : (t u : Bool) → t || u ≡ false → t ≡ false
head_false true u h = cc
head_false false u h = refl

tail_false : (t u : Bool) → t || u ≡ false → u ≡ false
tail_false true u h = cc
tail_false false u h = h

-- the field behind others
pub at_end : (before rest : List Field) (f : Field) → slice_get (before ++ f ∷ rest) (length before) ≡ Some f
at_end [] rest f = refl
at_end (b ∷ before) rest f = at_end before rest f

pub past : (bound : List Field) → slice_get bound (length bound) ≡ None
past [] = refl
past (b ∷ bound) = past bound

in_front : (bound more : List Field) (k : ℕ) (f : Field) → slice_get bound k ≡ Some f → slice_get (bound ++ more) k ≡ Some f
in_front [] more k f h = cc
in_front (b ∷ bound) more zero f h = h
in_front (b ∷ bound) more (suc k) f h = in_front bound more k f h

-- the directory in which the next name is looked up: the root, or what the last variable stands for
abbrev pub IsDirectory : ℕ → ℕ → List Field → Type 0
IsDirectory zero d bound = d ≡ root
IsDirectory (suc k) d bound = slice_get bound k ≡ Some (Num d)

-- a name below that directory, and no other, agrees with the pattern's parent
dir_fits : (at d : ℕ) (bound more : List Field) → IsDirectory at d bound → (p : ℕ) → want_fits (directory at) (Num p) (bound ++ more) ≡ cond (eqb d p) (Some (bound ++ more)) None
dir_fits zero d bound more is p = ap (λ r. cond (eqb r p) (Some (bound ++ more)) None) (sym is)
dir_fits (suc k) d bound more is p = ap (λ known. bind known (Num p) (bound ++ more)) (in_front bound more k (Num d) is)

-- what a pattern of a node binds beside its id: nothing, or the newest version
pub record Binds (at : ℕ) (bound : List Field) (newest : Want) (extra : Node → List Field) : Type 0 where
  pub first : (n : Node) → want_fits newest (Num n.newest) (bound ++ Num n.id.0 ∷ []) ≡ Some (bound ++ Num n.id.0 ∷ extra n)
  pub again : (n : Node) → want_fits newest (Num n.newest) (bound ++ Num n.id.0 ∷ extra n) ≡ Some (bound ++ Num n.id.0 ∷ extra n)

abbrev pub met : (List Field) → (Node → List Field) → Option Node → Option Match
met bound extra None = None
met bound extra (Some n) = Some (record { tuple = tuple_of (OfNode n); bound = bound ++ Num n.id.0 ∷ extra n })

abbrev pub any_kind : ℕ → List ℕ → Want → List Want
any_kind at name newest = (node (Bind at) (directory at) (text name) Any newest Any).wants

abbrev pub of_kind : ℕ → List ℕ → ℕ → Want → List Want
of_kind at name kind newest = (node (Bind at) (directory at) (text name) (number kind) newest Any).wants

-- how one pattern meets a node: a free variable for the id, the parent, the name
first_fits : (at d : ℕ) (bound : List Field) (name : List ℕ) (newest : Want) (extra : Node → List Field) → slice_get bound at ≡ None → IsDirectory at d bound → Binds at bound newest extra → (n : Node) (t u : Bool) → eqb d n.parent.0 ≡ t → bytes_eq name n.name ≡ u → fits (any_kind at name newest) (tuple_of (OfNode n)).fields bound ≡ cond (t && u) (Some (bound ++ Num n.id.0 ∷ extra n)) None
first_fits at d bound name newest extra free is binds n true true e k = rw (free, dir_fits at d bound (Num n.id.0 ∷ []) is n.parent.0, e, k, binds.first n) refl
first_fits at d bound name newest extra free is binds n true false e k = rw (free, dir_fits at d bound (Num n.id.0 ∷ []) is n.parent.0, e, k) refl
first_fits at d bound name newest extra free is binds n false u e k = rw (free, dir_fits at d bound (Num n.id.0 ∷ []) is n.parent.0, e) refl

-- a node of that name in that directory
abbrev is_there : ℕ → List ℕ → Node → Bool
is_there d name n = eqb d n.parent.0 && bytes_eq name n.name

-- the first pattern meets the node of the name, where there is one
pub first_node : (at d : ℕ) (bound : List Field) (name : List ℕ) (newest : Want) (extra : Node → List Field) → slice_get bound at ≡ None → IsDirectory at d bound → Binds at bound newest extra → (es : List Entry) → first_match (any_kind at name newest) (tuples_of es) bound ≡ met bound extra (node_at (nodes_of es) d name)
first_node at d bound name newest extra free is binds [] = refl
first_node at d bound name newest extra free is binds (OfVersion row ∷ es) = first_node at d bound name newest extra free is binds es
first_node at d bound name newest extra free is binds (OfLock l ∷ es) = first_node at d bound name newest extra free is binds es
first_node at d bound name newest extra free is binds (OfDead u ∷ es) = first_node at d bound name newest extra free is binds es
first_node at d bound name newest extra free is binds (OfGone id ∷ es) = first_node at d bound name newest extra free is binds es
first_node at d bound name newest extra free is binds (OfNode n ∷ es) =
    here n es (eqb d n.parent.0) (bytes_eq name n.name) refl refl (first_node at d bound name newest extra free is binds es) where
      here : (n : Node) (es : List Entry) (t u : Bool) → eqb d n.parent.0 ≡ t → bytes_eq name n.name ≡ u → first_match (any_kind at name newest) (tuples_of es) bound ≡ met bound extra (node_at (nodes_of es) d name) → first_match (any_kind at name newest) (tuples_of (OfNode n ∷ es)) bound ≡ met bound extra (node_at (nodes_of (OfNode n ∷ es)) d name)
      here n es true true e k rest = rw (first_fits at d bound name newest extra free is binds n true true e k, e, k) refl
      here n es true false e k rest = rw (first_fits at d bound name newest extra free is binds n true false e k, e, k) rest
      here n es false u e k rest = rw (first_fits at d bound name newest extra free is binds n false u e k, e) rest

-- the bindings of the first pattern stay for the second, which wants a kind
second_fits : (at d : ℕ) (bound : List Field) (name : List ℕ) (kind : ℕ) (newest : Want) (extra : Node → List Field) → IsDirectory at d bound → Binds at bound newest extra → (found n : Node) → slice_get (bound ++ Num found.id.0 ∷ extra found) at ≡ Some (Num found.id.0) → (s t u : Bool) → eqb found.id.0 n.id.0 ≡ s → eqb d n.parent.0 ≡ t → bytes_eq name n.name ≡ u → s && (t && u) ≡ false → fits (of_kind at name kind newest) (tuple_of (OfNode n)).fields (bound ++ Num found.id.0 ∷ extra found) ≡ None
second_fits at d bound name kind newest extra is binds found n own true true true e f k none = cc
second_fits at d bound name kind newest extra is binds found n own true true false e f k none = rw (own, e, dir_fits at d bound (Num found.id.0 ∷ extra found) is n.parent.0, f, k) refl
second_fits at d bound name kind newest extra is binds found n own true false u e f k none = rw (own, e, dir_fits at d bound (Num found.id.0 ∷ extra found) is n.parent.0, f) refl
second_fits at d bound name kind newest extra is binds found n own false t u e f k none = rw (own, e) refl

-- it meets the node that was found exactly where that has the kind
found_fits : (at d : ℕ) (bound : List Field) (name : List ℕ) (kind : ℕ) (newest : Want) (extra : Node → List Field) → IsDirectory at d bound → Binds at bound newest extra → (n : Node) → slice_get (bound ++ Num n.id.0 ∷ extra n) at ≡ Some (Num n.id.0) → eqb d n.parent.0 ≡ true → bytes_eq name n.name ≡ true → (w : Bool) → eqb kind (kind_number n.kind) ≡ w → fits (of_kind at name kind newest) (tuple_of (OfNode n)).fields (bound ++ Num n.id.0 ∷ extra n) ≡ cond w (Some (bound ++ Num n.id.0 ∷ extra n)) None
found_fits at d bound name kind newest extra is binds n own f k true w = rw (own, eq-eqb n.id.0 n.id.0 refl, dir_fits at d bound (Num n.id.0 ∷ extra n) is n.parent.0, f, k, w, binds.again n) refl
found_fits at d bound name kind newest extra is binds n own f k false w = rw (own, eq-eqb n.id.0 n.id.0 refl, dir_fits at d bound (Num n.id.0 ∷ extra n) is n.parent.0, f, k, w) refl

-- no node of the name is there: the second pattern meets none
none_there : (at d : ℕ) (bound : List Field) (name : List ℕ) (kind : ℕ) (newest : Want) (extra : Node → List Field) → IsDirectory at d bound → Binds at bound newest extra → (found : Node) → slice_get (bound ++ Num found.id.0 ∷ extra found) at ≡ Some (Num found.id.0) → (es : List Entry) → list_any (is_there d name) (nodes_of es) ≡ false → first_match (of_kind at name kind newest) (tuples_of es) (bound ++ Num found.id.0 ∷ extra found) ≡ None
none_there at d bound name kind newest extra is binds found own [] none = refl
none_there at d bound name kind newest extra is binds found own (OfVersion row ∷ es) none = none_there at d bound name kind newest extra is binds found own es none
none_there at d bound name kind newest extra is binds found own (OfLock l ∷ es) none = none_there at d bound name kind newest extra is binds found own es none
none_there at d bound name kind newest extra is binds found own (OfDead u ∷ es) none = none_there at d bound name kind newest extra is binds found own es none
none_there at d bound name kind newest extra is binds found own (OfGone id ∷ es) none = none_there at d bound name kind newest extra is binds found own es none
none_there at d bound name kind newest extra is binds found own (OfNode n ∷ es) none =
    let misses = second_fits at d bound name kind newest extra is binds found n own (eqb found.id.0 n.id.0) (eqb d n.parent.0) (bytes_eq name n.name) refl refl refl (not_both (eqb found.id.0 n.id.0) (is_there d name n) (head_false (is_there d name n) _ none)) in
    rw misses (none_there at d bound name kind newest extra is binds found own es (tail_false (is_there d name n) _ none))

apart_there : (d : ℕ) (name : List ℕ) (n : Node) (ns : List Node) → d ≡ n.parent.0 → name ≡ n.name → list_any (same_place n) ns ≡ false → list_any (is_there d name) ns ≡ false
apart_there d name n ns p q h =
    subst (λ (x : ℕ). list_any (is_there x name) ns ≡ false) (sym p)
    (subst (λ (y : List ℕ). list_any (is_there n.parent.0 y) ns ≡ false) (sym q) h)

number_eq : (a b : ℕ) → eqb a b ≡ true → a ≡ b
number_eq a b h = grind (arith, nat_tests)

-- the second pattern meets the node that the first one met, exactly where it has the kind
abbrev pub met_again : List Field → (Node → List Field) → ℕ → Node → Option Match
met_again bound extra kind n =
    cond (eqb kind (kind_number n.kind)) (Some (record { tuple = tuple_of (OfNode n); bound = bound ++ Num n.id.0 ∷ extra n })) None

pub second_node : (at d : ℕ) (bound : List Field) (name : List ℕ) (kind : ℕ) (newest : Want) (extra : Node → List Field) → IsDirectory at d bound → Binds at bound newest extra → ((m : Node) → slice_get (bound ++ Num m.id.0 ∷ extra m) at ≡ Some (Num m.id.0)) → (found : Node) → (es : List Entry) → Apart same_place (nodes_of es) → node_at (nodes_of es) d name ≡ Some found → first_match (of_kind at name kind newest) (tuples_of es) (bound ++ Num found.id.0 ∷ extra found) ≡ met_again bound extra kind found
second_node at d bound name kind newest extra is binds own found [] apart h = cc
second_node at d bound name kind newest extra is binds own found (OfVersion row ∷ es) apart h = second_node at d bound name kind newest extra is binds own found es apart h
second_node at d bound name kind newest extra is binds own found (OfLock l ∷ es) apart h = second_node at d bound name kind newest extra is binds own found es apart h
second_node at d bound name kind newest extra is binds own found (OfDead u ∷ es) apart h = second_node at d bound name kind newest extra is binds own found es apart h
second_node at d bound name kind newest extra is binds own found (OfGone id ∷ es) apart h = second_node at d bound name kind newest extra is binds own found es apart h
second_node at d bound name kind newest extra is binds own found (OfNode n ∷ es) apart h =
    here (λ rest. second_node at d bound name kind newest extra is binds own found es apart.1 rest) (eqb d n.parent.0) (bytes_eq name n.name) refl refl where
      itself : (w : Bool) → eqb kind (kind_number n.kind) ≡ w → eqb d n.parent.0 ≡ true → bytes_eq name n.name ≡ true → first_match (of_kind at name kind newest) (tuples_of (OfNode n ∷ es)) (bound ++ Num n.id.0 ∷ extra n) ≡ met_again bound extra kind n
      itself true w e k = rw (found_fits at d bound name kind newest extra is binds n (own n) e k true w, w) refl
      itself false w e k =
          let fits_not = found_fits at d bound name kind newest extra is binds n (own n) e k false w in
          let none = none_there at d bound name kind newest extra is binds n (own n) es (apart_there d name n (nodes_of es) (number_eq d n.parent.0 e) ((bytes_eq-Decides name n.name).0 k) apart.0) in
          rw (fits_not, w) none

      skipped : (node_at (nodes_of es) d name ≡ Some found → first_match (of_kind at name kind newest) (tuples_of es) (bound ++ Num found.id.0 ∷ extra found) ≡ met_again bound extra kind found) → eqb d n.parent.0 && bytes_eq name n.name ≡ false → node_at (nodes_of es) d name ≡ Some found → first_match (of_kind at name kind newest) (tuples_of (OfNode n ∷ es)) (bound ++ Num found.id.0 ∷ extra found) ≡ met_again bound extra kind found
      skipped later other rest =
          let misses = second_fits at d bound name kind newest extra is binds found n (own found) (eqb found.id.0 n.id.0) (eqb d n.parent.0) (bytes_eq name n.name) refl refl refl (not_both (eqb found.id.0 n.id.0) _ other) in
          rw misses (later rest)

      here : (node_at (nodes_of es) d name ≡ Some found → first_match (of_kind at name kind newest) (tuples_of es) (bound ++ Num found.id.0 ∷ extra found) ≡ met_again bound extra kind found) → (t u : Bool) → eqb d n.parent.0 ≡ t → bytes_eq name n.name ≡ u → first_match (of_kind at name kind newest) (tuples_of (OfNode n ∷ es)) (bound ++ Num found.id.0 ∷ extra found) ≡ met_again bound extra kind found
      here later true true e k =
          let same : Some n ≡ Some found = rw (e, k) at h in
          let one : n ≡ found = cc in
          subst (λ (f : Node). first_match (of_kind at name kind newest) (tuples_of (OfNode n ∷ es)) (bound ++ Num f.id.0 ∷ extra f) ≡ met_again bound extra kind f) one
          (itself (eqb kind (kind_number n.kind)) refl e k)
      here later true false e k = skipped later (rw (e, k) refl) (rw (e, k) at h)
      here later false u e k = skipped later (rw e refl) (rw e at h)

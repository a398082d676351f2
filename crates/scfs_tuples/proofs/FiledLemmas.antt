use Rattle.std.proofs.Common.{◌≡◌, ℕ, List, [], ◌∷◌, ◌++◌, Bool, true, false, refl, ap, ◌∙◌, sym, cond, ◌&&◌, Option, Some, None, append-nil}
use Rattle.std.specs.Prelude.{not, slice_get}
use Rattle.std.proofs.lemmas.List.{map-append}
use Rattle.std.proofs.lemmas.List.Elements.{filter-append}
use Rattle.std.specs.BTreeMap.{BTreeMap, is_at}
use Rattle.std.specs.BTreeSet.{BTreeSet, insert_key}
use Rattle.std.specs.List.{filter}
use Rattle.std.specs.Ordering.{is_eq, nat_cmp}
use Rattle.std.specs.Set.{remove_key}
use Rattle.std.specs.declared.cmp.Ordering.{Ordering}
use Rattle.scfs_tuples.specs.Filed.{Apart, Below, Files, has_both, is_slot, pair_cmp, pair_of, slots_of, tuple_at, without}
use Rattle.scfs_tuples.specs.Index.{Adds, Removes, slots_at}
use Rattle.scfs_tuples.specs.Matching.{field_eq}
use Rattle.scfs_tuples.specs.Near.{has, is_field}
use Rattle.scfs_tuples.specs.Order.{field_cmp}
use Rattle.scfs_tuples.specs.declared.types.Field.{Field}
use Rattle.scfs_tuples.specs.declared.types.Tuple.{Tuple}
use Rattle.scfs_tuples.proofs.EntriesLemmas.{apart_filter, below_filter, filter_swap, slot_added, slot_removed, unseen}
use Rattle.scfs_tuples.proofs.OrderLemmas.{and_false, field_exact, field_test, is_eq_then, pair_exact}

-- the key is that one, where there is a key
abbrev pub is_key : {K : Type 0} → (K → K → Ordering) → Option K → K → Bool
is_key cmp None k = false
is_key cmp (Some key) k = is_at (cmp key) k

slots_pushed : (p : Tuple → Bool) (es : List (ℕ × Tuple)) (slot : ℕ) (t : Tuple) (b : Bool) → p t ≡ b →
    slots_of (filter (λ e. p e.1) (es ++ (slot, t) ∷ [])) ≡ cond b (slots_of (filter (λ e. p e.1) es) ++ slot ∷ []) (slots_of (filter (λ e. p e.1) es))
slots_pushed p es slot t true h =
    ap slots_of (filter-append (λ e. p e.1) es ((slot, t) ∷ []))
    ∙ ap (λ b. slots_of (filter (λ e. p e.1) es ++ cond b ((slot, t) ∷ []) [])) h
    ∙ map-append (λ e. e.0) (filter (λ e. p e.1) es) ((slot, t) ∷ [])
slots_pushed p es slot t false h =
    ap slots_of (filter-append (λ e. p e.1) es ((slot, t) ∷ []))
    ∙ ap (λ b. slots_of (filter (λ e. p e.1) es ++ cond b ((slot, t) ∷ []) [])) h
    ∙ ap slots_of (append-nil (filter (λ e. p e.1) es))

-- an index is kept by a push
pub files_pushed : {K : Type 0} (cmp : K → K → Ordering) (exact : (a b : K) → is_eq (cmp a b) ≡ true → a ≡ b) (test : K → Tuple → Bool)
    (es : List (ℕ × Tuple)) (slot : ℕ) (t : Tuple) (key : Option K) (old new : BTreeMap K (BTreeSet ℕ)) → ((k : K) → test k t ≡ is_key cmp key k) →
    Below slot es → Files cmp old test es → Adds cmp key slot old new → Files cmp new test (es ++ (slot, t) ∷ [])
files_pushed cmp exact test es slot t None old new same below files adds = λ k. adds k ∙ files k ∙ sym (slots_pushed (test k) es slot t false (same k))
files_pushed {K} cmp exact test es slot t (Some key) old new same below files adds = λ k. at k (is_at (cmp key) k) refl
  where
    at : (k : K) (b : Bool) → is_at (cmp key) k ≡ b → slots_at cmp new k ≡ slots_of (filter (λ e. test k e.1) (es ++ (slot, t) ∷ []))
    at k true h =
        adds k ∙ ap (λ b. cond b (insert_key nat_cmp (slots_at cmp old key) slot) (slots_at cmp old k)) h
        ∙ ap (λ j. insert_key nat_cmp (slots_at cmp old j) slot) (exact key k h) ∙ ap (λ l. insert_key nat_cmp l slot) (files k)
        ∙ slot_added slot (filter (λ e. test k e.1) es) (below_filter slot (λ e. test k e.1) es below)
        ∙ sym (slots_pushed (test k) es slot t true (same k ∙ h))
    at k false h =
        adds k ∙ ap (λ b. cond b (insert_key nat_cmp (slots_at cmp old key) slot) (slots_at cmp old k)) h ∙ files k
        ∙ sym (slots_pushed (test k) es slot t false (same k ∙ h))

-- an index is kept when a slot is emptied
pub files_removed : {K : Type 0} (cmp : K → K → Ordering) (exact : (a b : K) → is_eq (cmp a b) ≡ true → a ≡ b) (test : K → Tuple → Bool)
    (es : List (ℕ × Tuple)) (slot : ℕ) (t : Tuple) (key : Option K) (old new : BTreeMap K (BTreeSet ℕ)) → ((k : K) → test k t ≡ is_key cmp key k) →
    tuple_at es slot ≡ Some t → Apart es → Files cmp old test es → Removes cmp key slot old new → Files cmp new test (without slot es)
files_removed cmp exact test es slot t None old new same found apart files removes =
    λ k. removes k ∙ files k ∙ ap slots_of (sym (unseen (test k) slot t es (same k) found apart))
files_removed {K} cmp exact test es slot t (Some key) old new same found apart files removes = λ k. at k (is_at (cmp key) k) refl
  where
    at : (k : K) (b : Bool) → is_at (cmp key) k ≡ b → slots_at cmp new k ≡ slots_of (filter (λ e. test k e.1) (without slot es))
    at k true h =
        removes k ∙ ap (λ b. cond b (remove_key (is_at (nat_cmp slot)) (slots_at cmp old key)) (slots_at cmp old k)) h
        ∙ ap (λ j. remove_key (is_at (nat_cmp slot)) (slots_at cmp old j)) (exact key k h) ∙ ap (remove_key (is_at (nat_cmp slot))) (files k)
        ∙ slot_removed slot (filter (λ e. test k e.1) es) (apart_filter (λ e. test k e.1) es apart) ∙ ap slots_of (filter_swap (λ e. not (is_slot slot e)) (λ e. test k e.1) es)
    at k false h =
        removes k ∙ ap (λ b. cond b (remove_key (is_at (nat_cmp slot)) (slots_at cmp old key)) (slots_at cmp old k)) h ∙ files k
        ∙ ap slots_of (sym (unseen (test k) slot t es (same k ∙ h) found apart))

first_key_of : (k : Field) (o : Option Field) → is_field k o ≡ is_key field_cmp o k
first_key_of k None = refl
first_key_of k (Some f) = field_test f k

pair_key_of : (k : Field × Field) (o p : Option Field) → (is_field k.0 o && is_field k.1 p) ≡ is_key pair_cmp (pair_of o p) k
pair_key_of k None p = refl
pair_key_of k (Some f) None = and_false (field_eq k.0 f)
pair_key_of k (Some f) (Some g) =
    ap (λ b. b && field_eq k.1 g) (field_test f k.0) ∙ ap (λ b. is_eq (field_cmp f k.0) && b) (field_test g k.1)
    ∙ sym (is_eq_then (field_cmp f k.0) (field_cmp g k.1))

pub first_pushed : (es : List (ℕ × Tuple)) (slot : ℕ) (t : Tuple) (key : Option Field) (old new : BTreeMap Field (BTreeSet ℕ)) → key ≡ slice_get t.fields 0 →
    Below slot es → Files field_cmp old (has 0) es → Adds field_cmp key slot old new → Files field_cmp new (has 0) (es ++ (slot, t) ∷ [])
first_pushed es slot t key old new is below files adds =
    files_pushed field_cmp field_exact (has 0) es slot t key old new (λ k. first_key_of k (slice_get t.fields 0) ∙ ap (λ o. is_key field_cmp o k) (sym is)) below files adds

pub pair_pushed : (n : ℕ) (es : List (ℕ × Tuple)) (slot : ℕ) (t : Tuple) (key : Option (Field × Field)) (old new : BTreeMap (Field × Field) (BTreeSet ℕ)) →
    key ≡ pair_of (slice_get t.fields 0) (slice_get t.fields n) → Below slot es → Files pair_cmp old (has_both n) es → Adds pair_cmp key slot old new →
    Files pair_cmp new (has_both n) (es ++ (slot, t) ∷ [])
pair_pushed n es slot t key old new is below files adds =
    files_pushed pair_cmp pair_exact (has_both n) es slot t key old new
    (λ k. pair_key_of k (slice_get t.fields 0) (slice_get t.fields n) ∙ ap (λ o. is_key pair_cmp o k) (sym is)) below files adds

pub first_removed : (es : List (ℕ × Tuple)) (slot : ℕ) (t : Tuple) (key : Option Field) (old new : BTreeMap Field (BTreeSet ℕ)) → key ≡ slice_get t.fields 0 →
    tuple_at es slot ≡ Some t → Apart es → Files field_cmp old (has 0) es → Removes field_cmp key slot old new → Files field_cmp new (has 0) (without slot es)
first_removed es slot t key old new is found apart files removes =
    files_removed field_cmp field_exact (has 0) es slot t key old new
    (λ k. first_key_of k (slice_get t.fields 0) ∙ ap (λ o. is_key field_cmp o k) (sym is)) found apart files removes

pub pair_removed : (n : ℕ) (es : List (ℕ × Tuple)) (slot : ℕ) (t : Tuple) (key : Option (Field × Field)) (old new : BTreeMap (Field × Field) (BTreeSet ℕ)) →
    key ≡ pair_of (slice_get t.fields 0) (slice_get t.fields n) → tuple_at es slot ≡ Some t → Apart es → Files pair_cmp old (has_both n) es →
    Removes pair_cmp key slot old new → Files pair_cmp new (has_both n) (without slot es)
pair_removed n es slot t key old new is found apart files removes =
    files_removed pair_cmp pair_exact (has_both n) es slot t key old new
    (λ k. pair_key_of k (slice_get t.fields 0) (slice_get t.fields n) ∙ ap (λ o. is_key pair_cmp o k) (sym is)) found apart files removes

use Rattle.std.proofs.Common.{◌≡◌, ℕ, List, [], ◌∷◌, ◌++◌, Bool, true, false, refl, ap, ◌∙◌, sym, cond, Option, Some, None}
use Rattle.std.specs.Prelude.{not}
use Rattle.std.proofs.lemmas.List.{map-append}
use Rattle.std.proofs.lemmas.List.Elements.{filter-append}
use Rattle.std.specs.BTreeSet.{BTreeSet, contains}
use Rattle.std.specs.BTreeMap.{is_at}
use Rattle.std.specs.List.{filter}
use Rattle.std.specs.Ordering.{nat_cmp}
use Rattle.scfs_tuples.specs.Filed.{is_slot, slots_of, tuples_of, without}
use Rattle.scfs_tuples.specs.Matching.{agrees, fits, is_match, row}
use Rattle.scfs_tuples.specs.Search.{entries_at, entry_at, first_entry, met_or, standing}
use Rattle.scfs_tuples.specs.declared.search.Met.{Met}
use Rattle.scfs_tuples.specs.declared.types.Field.{Field}
use Rattle.scfs_tuples.specs.declared.types.Tuple.{Tuple}
use Rattle.scfs_tuples.specs.declared.types.Want.{Want}

entry_skipped : (ws : List Want) (e : ℕ × Tuple) (o : Option (List Field)) (later rest : Option Met) → None ≡ met_or e o later → met_or e o rest ≡ rest
entry_skipped ws e None later rest h = refl
entry_skipped ws e (Some b) later rest h = absurd cc

skipped : (ws : List Want) (xs ys : List (ℕ × Tuple)) (bound : List Field) → None ≡ first_entry ws xs bound → first_entry ws (xs ++ ys) bound ≡ first_entry ws ys bound
skipped ws [] ys bound h = refl
skipped ws (e ∷ xs) ys bound h = at (fits ws e.1.fields bound) h (skipped ws xs ys bound)
  where
    at : (o : Option (List Field)) → None ≡ met_or e o (first_entry ws xs bound) →
        (None ≡ first_entry ws xs bound → first_entry ws (xs ++ ys) bound ≡ first_entry ws ys bound) → met_or e o (first_entry ws (xs ++ ys) bound) ≡ first_entry ws ys bound
    at None k rest = rest k
    at (Some b) k rest = absurd cc

hit : (ws : List Want) (xs ys : List (ℕ × Tuple)) (bound : List Field) (m : Met) → Some m ≡ first_entry ws xs bound → first_entry ws (xs ++ ys) bound ≡ Some m
hit ws [] ys bound m h = absurd cc
hit ws (e ∷ xs) ys bound m h = at (fits ws e.1.fields bound) h (hit ws xs ys bound m)
  where
    at : (o : Option (List Field)) → Some m ≡ met_or e o (first_entry ws xs bound) →
        (Some m ≡ first_entry ws xs bound → first_entry ws (xs ++ ys) bound ≡ Some m) → met_or e o (first_entry ws (xs ++ ys) bound) ≡ Some m
    at None k rest = rest k
    at (Some b) k rest = sym k

-- a slot without a match is passed over
pub first_skipped : (ws : List Want) (gone : BTreeSet ℕ) (es : List (ℕ × Tuple)) (slot : ℕ) (slots : List ℕ) (bound : List Field) →
    None ≡ first_entry ws (standing gone (entry_at es slot)) bound →
    first_entry ws (standing gone (entries_at es (slot ∷ slots))) bound ≡ first_entry ws (standing gone (entries_at es slots)) bound
first_skipped ws gone es slot slots bound h =
    ap (λ l. first_entry ws l bound) (filter-append (λ e. not (contains nat_cmp gone e.0)) (entry_at es slot) (entries_at es slots))
    ∙ skipped ws (standing gone (entry_at es slot)) (standing gone (entries_at es slots)) bound h

-- a slot with a match gives it
pub first_hit : (ws : List Want) (gone : BTreeSet ℕ) (es : List (ℕ × Tuple)) (slot : ℕ) (slots : List ℕ) (bound : List Field) (m : Met) →
    Some m ≡ first_entry ws (standing gone (entry_at es slot)) bound → first_entry ws (standing gone (entries_at es (slot ∷ slots))) bound ≡ Some m
first_hit ws gone es slot slots bound m h =
    ap (λ l. first_entry ws l bound) (filter-append (λ e. not (contains nat_cmp gone e.0)) (entry_at es slot) (entries_at es slots))
    ∙ hit ws (standing gone (entry_at es slot)) (standing gone (entries_at es slots)) bound m h

-- the slots of the matches, slot by slot
pub slots_next : (ws : List Want) (gone : BTreeSet ℕ) (es : List (ℕ × Tuple)) (slot : ℕ) (slots : List ℕ) (bound : List Field) (found : List ℕ) →
    found ≡ slots_of (filter (λ e. is_match ws bound e.1) (standing gone (entry_at es slot))) →
    slots_of (filter (λ e. is_match ws bound e.1) (standing gone (entries_at es (slot ∷ slots))))
    ≡ found ++ slots_of (filter (λ e. is_match ws bound e.1) (standing gone (entries_at es slots)))
slots_next ws gone es slot slots bound found h =
    ap (λ l. slots_of (filter (λ e. is_match ws bound e.1) l)) (filter-append (λ e. not (contains nat_cmp gone e.0)) (entry_at es slot) (entries_at es slots))
    ∙ ap slots_of (filter-append (λ e. is_match ws bound e.1) (standing gone (entry_at es slot)) (standing gone (entries_at es slots)))
    ∙ map-append (λ e. e.0) (filter (λ e. is_match ws bound e.1) (standing gone (entry_at es slot))) (filter (λ e. is_match ws bound e.1) (standing gone (entries_at es slots)))
    ∙ ap (λ l. l ++ slots_of (filter (λ e. is_match ws bound e.1) (standing gone (entries_at es slots)))) (sym h)

-- the row, slot by slot
pub row_next : (ws : List Want) (es : List (ℕ × Tuple)) (slot : ℕ) (slots : List ℕ) (bound : List Field) (found : List Tuple) →
    found ≡ row bound (tuples_of (entry_at es slot)) ws →
    row bound (tuples_of (entries_at es (slot ∷ slots))) ws ≡ found ++ row bound (tuples_of (entries_at es slots)) ws
row_next ws es slot slots bound found h =
    ap (λ l. row bound l ws) (map-append (λ e. e.1) (entry_at es slot) (entries_at es slots))
    ∙ filter-append (λ t. agrees bound ws t.fields) (tuples_of (entry_at es slot)) (tuples_of (entries_at es slots))
    ∙ ap (λ l. l ++ row bound (tuples_of (entries_at es slots)) ws) (sym h)

taken_at : (a b : Bool) → (cond a true b) ≡ (cond a true b) → not (cond a true b) ≡ cond (not a) (not b) false
taken_at true b h = refl
taken_at false b h = refl

-- two filters, one after the other
pub filter_both : {X : Type 0} (p q r : X → Bool) → ((x : X) → r x ≡ cond (p x) (q x) false) → (xs : List X) → filter r xs ≡ filter p (filter q xs)
filter_both p q r is [] = refl
filter_both p q r is (x ∷ xs) = at (p x) (q x) refl refl (filter_both p q r is xs)
  where
    at : (a b : Bool) → p x ≡ a → q x ≡ b → filter r xs ≡ filter p (filter q xs) → cond (r x) (x ∷ filter r xs) (filter r xs) ≡ filter p (cond (q x) (x ∷ filter q xs) (filter q xs))
    at true true h k rest = rw (is x, h, k, h) (ap (λ l. x ∷ l) rest)
    at true false h k rest = rw (is x, h, k) rest
    at false true h k rest = rw (is x, h, k, h) rest
    at false false h k rest = rw (is x, h, k) rest

-- one more slot is taken
pub one_taken : (old new : BTreeSet ℕ) (slot : ℕ) → ((s : ℕ) → contains nat_cmp new s ≡ cond (is_at (nat_cmp slot) s) true (contains nat_cmp old s)) →
    (es : List (ℕ × Tuple)) → standing new es ≡ without slot (standing old es)
one_taken old new slot updates es =
    filter_both (λ e. not (is_slot slot e)) (λ e. not (contains nat_cmp old e.0)) (λ e. not (contains nat_cmp new e.0))
    (λ e. ap not (updates e.0) ∙ taken_at (is_slot slot e) (contains nat_cmp old e.0) refl) es

use Rattle.std.proofs.Common.{◌≡◌, ℕ, Bool, true, false, refl, ap, ◌∙◌, sym, arith, subst, ◌&&◌, ◌==◌}
use Rattle.std.proofs.lemmas.Bool.Decides.{nat_tests}
use Rattle.std.proofs.lemmas.Map.Lookups.{exact_unsigned, exact_bytes}
use Rattle.std.proofs.lemmas.Slice.Eq.{bytes_eq-Decides}
use Rattle.std.specs.declared.cmp.Ordering.{Ordering}
use Rattle.std.specs.declared.cmp.Ordering.TheVariants.{Less, Equal, Greater}
use Rattle.std.specs.Ordering.{is_eq, nat_cmp, ordering_then}
use Rattle.std.specs.Cmp.Lexicographic.{slice_cmp, texts_ties}
use Rattle.scfs_tuples.specs.Filed.{pair_cmp}
use Rattle.scfs_tuples.specs.Matching.{field_eq}
use Rattle.scfs_tuples.specs.Order.{field_cmp}
use Rattle.scfs_tuples.specs.declared.types.Field.{Field}
use Rattle.scfs_tuples.specs.declared.types.Field.TheVariants as fields

pub is_eq_then : (a b : Ordering) → is_eq (ordering_then a b) ≡ (is_eq a && is_eq b)
is_eq_then Less b = refl
is_eq_then Equal b = refl
is_eq_then Greater b = refl

pub equal : (a : Ordering) → is_eq a ≡ true → a ≡ Equal
equal Less h = cc
equal Equal h = refl
equal Greater h = cc

pub both_true : (a b : Bool) → (a && b) ≡ true → (a ≡ true) × (b ≡ true)
both_true true b h = (refl, h)
both_true false b h = absurd cc

pub slot_test : (a b : ℕ) → is_eq (nat_cmp a b) ≡ (a == b)
slot_test a b = grind (arith, nat_tests)

pub slot_exact : (a b : ℕ) → is_eq (nat_cmp a b) ≡ true → a ≡ b
slot_exact a b h = exact_unsigned a b (equal (nat_cmp a b) h)

pub slot_same : (a : ℕ) → is_eq (nat_cmp a a) ≡ true
slot_same a = grind (arith, nat_tests)

pub field_exact : (a b : Field) → is_eq (field_cmp a b) ≡ true → a ≡ b
field_exact (fields.Num a) (fields.Num b) h = ap fields.Num (slot_exact a b h)
field_exact (fields.Num a) (fields.Text y) h = absurd cc
field_exact (fields.Text x) (fields.Num b) h = absurd cc
field_exact (fields.Text x) (fields.Text y) h =
    ap fields.Text (exact_bytes x y (equal (slice_cmp nat_cmp x y) (both_true (is_eq (slice_cmp nat_cmp x y)) true (sym (is_eq_then (slice_cmp nat_cmp x y) Equal) ∙ h)).0))

pub field_eq_same : (a : Field) → field_eq a a ≡ true
field_eq_same (fields.Num a) = grind (arith, nat_tests)
field_eq_same (fields.Text x) = (bytes_eq-Decides x x).1 refl

pub field_eq_exact : (a b : Field) → field_eq a b ≡ true → a ≡ b
field_eq_exact (fields.Num a) (fields.Num b) h = ap fields.Num (slot_exact a b (slot_test a b ∙ h))
field_eq_exact (fields.Num a) (fields.Text y) h = absurd cc
field_eq_exact (fields.Text x) (fields.Num b) h = absurd cc
field_eq_exact (fields.Text x) (fields.Text y) h = ap fields.Text ((bytes_eq-Decides x y).0 h)

pub pair_exact : (a b : Field × Field) → is_eq (pair_cmp a b) ≡ true → a ≡ b
pair_exact (a, b) (c, d) h =
    let both = both_true (is_eq (field_cmp a c)) (is_eq (field_cmp b d)) (sym (is_eq_then (field_cmp a c) (field_cmp b d)) ∙ h) in
    let first : a ≡ c = field_exact a c both.0 in
    let second : b ≡ d = field_exact b d both.1 in
    cc

field_cmp_same : (a : Field) → is_eq (field_cmp a a) ≡ true
field_cmp_same (fields.Num a) = slot_same a
field_cmp_same (fields.Text x) =
    is_eq_then (slice_cmp nat_cmp x x) Equal ∙ ap (λ b. b && true) (sym (texts_ties x x) ∙ (bytes_eq-Decides x x).1 refl)

same_truth : (a b : Bool) → (a ≡ true → b ≡ true) → (b ≡ true → a ≡ true) → a ≡ b
same_truth true b h k = sym (h refl)
same_truth false true h k = k refl
same_truth false false h k = refl

-- a key is found exactly where the fields are equal
pub field_test : (f k : Field) → field_eq k f ≡ is_eq (field_cmp f k)
field_test f k =
    same_truth (field_eq k f) (is_eq (field_cmp f k))
    (λ h. subst (λ g. is_eq (field_cmp g k) ≡ true) (field_eq_exact k f h) (field_cmp_same k))
    (λ h. subst (λ g. field_eq g f ≡ true) (field_exact f k h) (field_eq_same f))

pub field_eq_sym : (a b : Field) → field_eq a b ≡ field_eq b a
field_eq_sym a b =
    same_truth (field_eq a b) (field_eq b a)
    (λ h. subst (λ g. field_eq g a ≡ true) (field_eq_exact a b h) (field_eq_same a))
    (λ h. subst (λ g. field_eq g b ≡ true) (field_eq_exact b a h) (field_eq_same b))

pub and_false : (a : Bool) → (a && false) ≡ false
and_false true = refl
and_false false = refl

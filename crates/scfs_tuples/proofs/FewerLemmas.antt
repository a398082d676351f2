use Rattle.std.proofs.Common.{◌≡◌, ℕ, ◌≤◌, ◌<◌, List, [], ◌∷◌, Bool, true, false, refl, ap, ◌∙◌, sym, cond, ◌&&◌, min, Some, None, arith, length}
use Rattle.std.specs.Prelude.{nat_lt}
use Rattle.std.proofs.lemmas.Bool.Decides.{nat_tests}
use Rattle.std.proofs.lemmas.List.{length-map}
use Rattle.std.specs.List.{filter}
use Rattle.scfs_tuples.specs.Filed.{AreNear, fewer, near_entries, slots_of, tuples_of}
use Rattle.scfs_tuples.specs.Near.{fixed_at, has, is_near, is_near_by}
use Rattle.scfs_tuples.specs.declared.types.Field.{Field}
use Rattle.scfs_tuples.specs.declared.types.Tuple.{Tuple}
use Rattle.scfs_tuples.specs.declared.types.Want.{Want}
use Rattle.scfs_tuples.proofs.NearLemmas.{tuples_filter}

filter_true : {X : Type 0} (xs : List X) → filter (λ x. true) xs ≡ xs
filter_true [] = refl
filter_true (x ∷ xs) = ap (λ l. x ∷ l) (filter_true xs)

-- where the first want is not fixed, every entry is near
near_all : (n : ℕ) (bound : List Field) (ws : List Want) (es : List (ℕ × Tuple)) → fixed_at bound ws 0 ≡ None → near_entries n bound ws es ≡ es
near_all n bound ws es h = ap (λ o. filter (λ e. is_near n o (fixed_at bound ws n) e.1) es) h ∙ filter_true es

-- where the further want is not fixed, those that have the first field
near_one : (n : ℕ) (bound : List Field) (ws : List Want) (f : Field) (es : List (ℕ × Tuple)) → fixed_at bound ws 0 ≡ Some f → fixed_at bound ws n ≡ None →
    near_entries n bound ws es ≡ filter (λ e. has 0 f e.1) es
near_one n bound ws f es h k = ap (λ o. filter (λ e. is_near n o (fixed_at bound ws n) e.1) es) h ∙ ap (λ p. filter (λ e. is_near n (Some f) p e.1) es) k

-- else those that have both fields
near_both : (n : ℕ) (bound : List Field) (ws : List Want) (f g : Field) (es : List (ℕ × Tuple)) → fixed_at bound ws 0 ≡ Some f → fixed_at bound ws n ≡ Some g →
    near_entries n bound ws es ≡ filter (λ e. has 0 f e.1 && has n g e.1) es
near_both n bound ws f g es h k = ap (λ o. filter (λ e. is_near n o (fixed_at bound ws n) e.1) es) h ∙ ap (λ p. filter (λ e. is_near n (Some f) p e.1) es) k

-- a narrower filter keeps no more
narrower : {X : Type 0} (p q : X → Bool) (xs : List X) → length (filter (λ x. p x && q x) xs) ≤ length (filter p xs)
narrower p q [] = omega arith
narrower p q (x ∷ xs) = at (p x) (q x) (narrower p q xs)
  where
    at : (a b : Bool) → length (filter (λ x. p x && q x) xs) ≤ length (filter p xs) →
        length (cond (a && b) (x ∷ filter (λ x. p x && q x) xs) (filter (λ x. p x && q x) xs)) ≤ length (cond a (x ∷ filter p xs) (filter p xs))
    at true true h = omega (arith, h)
    at true false h = omega (arith, h)
    at false b h = h

-- how many are near by a place
count_by : (n : ℕ) (bound : List Field) (ws : List Want) (es : List (ℕ × Tuple)) → length (filter (is_near_by n bound ws) (tuples_of es)) ≡ length (near_entries n bound ws es)
count_by n bound ws es = ap length (sym (tuples_filter (is_near_by n bound ws) es)) ∙ length-map (near_entries n bound ws es) (λ e. e.1)

least_of : (a b c d l : ℕ) → a ≡ c → b ≡ d → l ≡ c → c ≤ d → l ≡ min a b
least_of a b c d l h k m o = omega arith

last_of : (a b c d l : ℕ) → a ≡ c → b ≡ d → l ≡ d → d ≤ c → l ≡ min a b
last_of a b c d l h k m o = omega arith

slot_count : (slots : List ℕ) (es : List (ℕ × Tuple)) → slots ≡ slots_of es → length slots ≡ length es
slot_count slots es is = ap length is ∙ length-map es (λ e. e.0)

-- slots that are near by the second place, where by the third no fewer are
by_second : (ws : List Want) (bound : List Field) (es : List (ℕ × Tuple)) (slots : List ℕ) → slots ≡ slots_of (near_entries 1 bound ws es) →
    length (near_entries 1 bound ws es) ≤ length (near_entries 2 bound ws es) → AreNear bound ws es slots
by_second ws bound es slots is h = record {
  place = 1;
  same = is;
  count = least_of _ _ _ _ _ (count_by 1 bound ws es) (count_by 2 bound ws es) (slot_count slots (near_entries 1 bound ws es) is) h;
}

-- slots that are near by the third place, where by the second no fewer are
by_third : (ws : List Want) (bound : List Field) (es : List (ℕ × Tuple)) (slots : List ℕ) → slots ≡ slots_of (near_entries 2 bound ws es) →
    length (near_entries 2 bound ws es) ≤ length (near_entries 1 bound ws es) → AreNear bound ws es slots
by_third ws bound es slots is h = record {
  place = 2;
  same = is;
  count = last_of _ _ _ _ _ (count_by 1 bound ws es) (count_by 2 bound ws es) (slot_count slots (near_entries 2 bound ws es) is) h;
}

alike : (a b c d : List (ℕ × Tuple)) → a ≡ c → b ≡ d → length c ≤ length d → length a ≤ length b
alike a b c d h k le = omega (arith, ap length h, ap length k)

-- all slots are near where the first want is not fixed
pub all_near : (ws : List Want) (bound : List Field) (es : List (ℕ × Tuple)) (slots : List ℕ) → fixed_at bound ws 0 ≡ None → slots ≡ slots_of es → AreNear bound ws es slots
all_near ws bound es slots first is =
    by_second ws bound es slots (is ∙ ap slots_of (sym (near_all 1 bound ws es first)))
    (alike _ _ es es (near_all 1 bound ws es first) (near_all 2 bound ws es first) (omega arith))

-- the slots of a first field alone are near where no further want is fixed
pub first_near : (ws : List Want) (bound : List Field) (f : Field) (es : List (ℕ × Tuple)) (slots : List ℕ) → fixed_at bound ws 0 ≡ Some f → fixed_at bound ws 1 ≡ None →
    fixed_at bound ws 2 ≡ None → slots ≡ slots_of (filter (λ e. has 0 f e.1) es) → AreNear bound ws es slots
first_near ws bound f es slots first second third is =
    by_second ws bound es slots (is ∙ ap slots_of (sym (near_one 1 bound ws f es first second)))
    (alike _ _ (filter (λ e. has 0 f e.1) es) (filter (λ e. has 0 f e.1) es) (near_one 1 bound ws f es first second) (near_one 2 bound ws f es first third) (omega arith))

-- the slots of a first and second field are near where the third want is not fixed
pub second_near : (ws : List Want) (bound : List Field) (f g : Field) (es : List (ℕ × Tuple)) (slots : List ℕ) → fixed_at bound ws 0 ≡ Some f → fixed_at bound ws 1 ≡ Some g →
    fixed_at bound ws 2 ≡ None → slots ≡ slots_of (filter (λ e. has 0 f e.1 && has 1 g e.1) es) → AreNear bound ws es slots
second_near ws bound f g es slots first second third is =
    by_second ws bound es slots (is ∙ ap slots_of (sym (near_both 1 bound ws f g es first second)))
    (alike _ _ _ _ (near_both 1 bound ws f g es first second) (near_one 2 bound ws f es first third) (narrower (λ e. has 0 f e.1) (λ e. has 1 g e.1) es))

-- the slots of a first and third field are near where the second want is not fixed
pub third_near : (ws : List Want) (bound : List Field) (f h : Field) (es : List (ℕ × Tuple)) (slots : List ℕ) → fixed_at bound ws 0 ≡ Some f → fixed_at bound ws 1 ≡ None →
    fixed_at bound ws 2 ≡ Some h → slots ≡ slots_of (filter (λ e. has 0 f e.1 && has 2 h e.1) es) → AreNear bound ws es slots
third_near ws bound f h es slots first second third is =
    by_third ws bound es slots (is ∙ ap slots_of (sym (near_both 2 bound ws f h es first third)))
    (alike _ _ _ _ (near_both 2 bound ws f h es first third) (near_one 1 bound ws f es first second) (narrower (λ e. has 0 f e.1) (λ e. has 2 h e.1) es))

shorter : (n m : ℕ) → nat_lt n m ≡ true → n ≤ m
shorter n m h = grind (arith, nat_tests)

no_shorter : (n m : ℕ) → nat_lt n m ≡ false → m ≤ n
no_shorter n m h = grind (arith, nat_tests)

chosen : (ws : List Want) (bound : List Field) (es ones twos : List (ℕ × Tuple)) (slots : List ℕ) → near_entries 1 bound ws es ≡ ones → near_entries 2 bound ws es ≡ twos →
    slots ≡ fewer (slots_of ones) (slots_of twos) → AreNear bound ws es slots
chosen ws bound es ones twos slots one two is = at (nat_lt (length (slots_of twos)) (length (slots_of ones))) refl
  where
    at : (b : Bool) → nat_lt (length (slots_of twos)) (length (slots_of ones)) ≡ b → AreNear bound ws es slots
    at true h =
        let le : length (slots_of twos) ≤ length (slots_of ones) = shorter _ _ h in
        by_third ws bound es slots (is ∙ ap (λ b. cond b (slots_of twos) (slots_of ones)) h ∙ ap slots_of (sym two))
        (alike _ _ twos ones two one (omega (arith, le, slot_count (slots_of twos) twos refl, slot_count (slots_of ones) ones refl)))
    at false h =
        let le : length (slots_of ones) ≤ length (slots_of twos) = no_shorter _ _ h in
        by_second ws bound es slots (is ∙ ap (λ b. cond b (slots_of twos) (slots_of ones)) h ∙ ap slots_of (sym one))
        (alike _ _ ones twos one two (omega (arith, le, slot_count (slots_of twos) twos refl, slot_count (slots_of ones) ones refl)))

-- the slots of a first and second field or of a first and third one, whichever are fewer, are near where both are fixed
pub fewer_near : (ws : List Want) (bound : List Field) (f g h : Field) (es : List (ℕ × Tuple)) (slots : List ℕ) → fixed_at bound ws 0 ≡ Some f → fixed_at bound ws 1 ≡ Some g →
    fixed_at bound ws 2 ≡ Some h → slots ≡ fewer (slots_of (filter (λ e. has 0 f e.1 && has 1 g e.1) es)) (slots_of (filter (λ e. has 0 f e.1 && has 2 h e.1) es)) →
    AreNear bound ws es slots
fewer_near ws bound f g h es slots first second third is =
    chosen ws bound es _ _ slots (near_both 1 bound ws f g es first second) (near_both 2 bound ws f h es first third) is

-- the later of two lists is the one of fewer where it is shorter
pub later_fewer : (a b s t slots : List ℕ) (n m : ℕ) → a ≡ s → b ≡ t → n ≡ length b → m ≡ length a → n < m → slots ≡ b → slots ≡ fewer s t
later_fewer a b s t slots n m p q j k h is =
    let less : nat_lt (length b) (length a) ≡ true = grind (arith, nat_tests) in
    is ∙ sym (ap (λ x. cond x b a) less) ∙ ap (λ x. fewer x b) p ∙ ap (fewer s) q

-- and the first where it is not
pub front_fewer : (a b s t slots : List ℕ) (n m : ℕ) → a ≡ s → b ≡ t → n ≡ length b → m ≡ length a → m ≤ n → slots ≡ a → slots ≡ fewer s t
front_fewer a b s t slots n m p q j k h is =
    let less : nat_lt (length b) (length a) ≡ false = grind (arith, nat_tests) in
    is ∙ sym (ap (λ x. cond x b a) less) ∙ ap (λ x. fewer x b) p ∙ ap (fewer s) q

use Rattle.std.proofs.Common.{◌≡◌, ℕ, ◌<◌, ◌≤◌, List, [], ◌∷◌, Bool, true, false, refl, ap, ◌∙◌, sym, arith, cond, ◌&&◌, ◌==◌, Option, Some, None, length}
use Rattle.std.specs.Prelude.{nat_lt, not}
use Rattle.std.proofs.lemmas.Bool.Decides.{nat_tests}
use Rattle.std.specs.BTreeSet.{BTreeSet, contains, contains_by}
use Rattle.std.specs.List.{filter}
use Rattle.std.specs.Ordering.{is_eq, is_gt, nat_cmp, ordering_then}
use Rattle.std.specs.declared.cmp.Ordering.{Ordering}
use Rattle.std.specs.declared.cmp.Ordering.TheVariants.{Less, Equal, Greater}
use Rattle.scfs_tuples.specs.After.{is_live}
use Rattle.scfs_tuples.specs.Filed.{Apart, IsEnded, IsFree, end_cmp, ends_in, has_both, is_end, is_slot, live_entries, slots_of, tuple_at, without}
use Rattle.scfs_tuples.specs.Near.{has}
use Rattle.scfs_tuples.specs.declared.types.Field.{Field}
use Rattle.scfs_tuples.specs.declared.types.Tuple.{Tuple}
use Rattle.scfs_tuples.proofs.EndsLemmas.{tuple_free}
use Rattle.scfs_tuples.proofs.EntriesLemmas.{free_same, unseen}
use Rattle.scfs_tuples.proofs.OrderLemmas.{slot_exact, slot_same, slot_test}

seen_later : (e : ℕ × Tuple) (es : List (ℕ × Tuple)) (s : ℕ) (t : Tuple) (b : Bool) → is_eq (nat_cmp s e.0) ≡ b → IsFree e.0 es → tuple_at es s ≡ Some t → tuple_at (e ∷ es) s ≡ Some t
seen_later e es s t true h free at =
    let none : tuple_at es s ≡ None = tuple_free s es (free_same e.0 s es (sym (slot_exact s e.0 h)) free) in
    absurd (cc (sym none ∙ at))
seen_later e es s t false h free at = rw h at

-- where each tuple is live, nothing goes
pub all_live : (now : ℕ) (es : List (ℕ × Tuple)) → Apart es → ((s : ℕ) (t : Tuple) → tuple_at es s ≡ Some t → is_live now t.until ≡ true) → live_entries now es ≡ es
all_live now [] apart lives = refl
all_live now (e ∷ es) apart lives =
    let first : is_live now e.1.until ≡ true = lives e.0 e.1 (ap (λ b. cond b (Some e.1) (tuple_at es e.0)) (slot_same e.0)) in
    rw first (ap (λ more. e ∷ more) (all_live now es apart.1 (λ s t at. lives s t (seen_later e es s t (is_eq (nat_cmp s e.0)) refl apart.0 at))))

live_at : (now : ℕ) (ends : BTreeSet (ℕ × ℕ)) (es : List (ℕ × Tuple)) (s : ℕ) (t : Tuple) (until : Option ℕ) → t.until ≡ until → tuple_at es s ≡ Some t →
    ((u s : ℕ) → contains end_cmp ends (u, s) ≡ ends_in u (tuple_at es s)) → ((u s : ℕ) → contains end_cmp ends (u, s) ≡ true → nat_lt now u ≡ true) → is_live now t.until ≡ true
live_at now ends es s t None is at filed later = ap (is_live now) is
live_at now ends es s t (Some u) is at filed later =
    ap (is_live now) is ∙ later u s (filed u s ∙ ap (ends_in u) at ∙ ap (is_end u) is ∙ (sym (slot_test u u) ∙ slot_same u))

-- where each end is later than now, every tuple is live
pub none_ended : (now : ℕ) (ends : BTreeSet (ℕ × ℕ)) (es : List (ℕ × Tuple)) → Apart es → ((u s : ℕ) → contains end_cmp ends (u, s) ≡ ends_in u (tuple_at es s)) →
    ((u s : ℕ) → contains end_cmp ends (u, s) ≡ true → nat_lt now u ≡ true) → live_entries now es ≡ es
none_ended now ends es apart filed later = all_live now es apart (λ s t at. live_at now ends es s t t.until refl at filed later)

le_at : (a b : ℕ) (o r : Ordering) → nat_cmp a b ≡ o → is_gt (ordering_then o r) ≡ false → a ≤ b
le_at a b Less r is h = grind (arith, nat_tests)
le_at a b Equal r is h = grind (arith, nat_tests)
le_at a b Greater r is h = absurd cc

later_than : (now until u : ℕ) → now < until → until ≤ u → nat_lt now u ≡ true
later_than now until u h k = grind (arith, nat_tests)

-- where the least end is later than now, each is
pub later_ends : (now until slot u s : ℕ) → now < until → is_gt (end_cmp (until, slot) (u, s)) ≡ false → nat_lt now u ≡ true
later_ends now until slot u s h least = later_than now until u h (le_at until u (nat_cmp until u) (nat_cmp slot s) refl least)

-- an empty set has no end
pub no_ends : (ends : BTreeSet (ℕ × ℕ)) (k : ℕ × ℕ) → ends.keys ≡ [] → contains end_cmp ends k ≡ false
no_ends ends k none = ap (λ ks. contains_by (end_cmp k) (record { keys = ks })) none

-- a filter is no longer
pub kept_length : (p : ℕ × Tuple → Bool) (es : List (ℕ × Tuple)) → length (filter p es) ≤ length es
kept_length p [] = omega arith
kept_length p (e ∷ es) = at (p e) (kept_length p es)
  where
    at : (b : Bool) → length (filter p es) ≤ length es → length (cond b (e ∷ filter p es) (filter p es)) ≤ length (e ∷ es)
    at true h = omega (arith, h)
    at false h = omega (arith, h)

emptied_at : (slot : ℕ) (t : Tuple) (e : ℕ × Tuple) (es : List (ℕ × Tuple)) (b : Bool) → is_eq (nat_cmp slot e.0) ≡ b → tuple_at (e ∷ es) slot ≡ Some t →
    (tuple_at es slot ≡ Some t → length (without slot es) < length es) → length (without slot (e ∷ es)) < length (e ∷ es)
emptied_at slot t e es true h at rest = rw h (omega (arith, kept_length (λ d. not (is_slot slot d)) es))
emptied_at slot t e es false h at rest =
    let less : length (without slot es) < length es = rest (sym (ap (λ b. cond b (Some e.1) (tuple_at es slot)) h) ∙ at) in
    rw h (omega (arith, less))

-- a slot that is not empty can be emptied
pub emptied : (slot : ℕ) (t : Tuple) (es : List (ℕ × Tuple)) → tuple_at es slot ≡ Some t → length (without slot es) < length es
emptied slot t [] at = absurd cc
emptied slot t (e ∷ es) at = emptied_at slot t e es (is_eq (nat_cmp slot e.0)) refl at (λ later. emptied slot t es later)

ended_at : (now until slot : ℕ) (es : List (ℕ × Tuple)) (held : Option Tuple) → tuple_at es slot ≡ held → ends_in until held ≡ true → until ≤ now → Apart es → IsEnded now slot es
ended_at now until slot es None at ends h apart = absurd cc
ended_at now until slot es (Some t) at ends h apart = over t.until refl
  where
    over : (end : Option ℕ) → t.until ≡ end → IsEnded now slot es
    over None is = absurd (cc (sym (ap (is_end until) is) ∙ ends))
    over (Some end) is =
        let same : (until == end) ≡ true = sym (ap (is_end until) is) ∙ ends in
        let past : nat_lt now end ≡ false = grind (arith, nat_tests, same) in
        record {
          same = unseen (λ t. is_live now t.until) slot t es (ap (is_live now) is ∙ past) at apart;
          fewer = emptied slot t es at;
        }

-- a slot under an end that is not later than now
pub is_ended : (now until slot : ℕ) (ends : BTreeSet (ℕ × ℕ)) (es : List (ℕ × Tuple)) → Apart es → ((u s : ℕ) → contains end_cmp ends (u, s) ≡ ends_in u (tuple_at es s)) →
    contains end_cmp ends (until, slot) ≡ true → until ≤ now → IsEnded now slot es
is_ended now until slot ends es apart filed is h = ended_at now until slot es (tuple_at es slot) refl (sym (filed until slot) ∙ is) h apart

-- the slots under a key of two fields, over an equal key and equal entries
pub pair_slots : (n : ℕ) (slots : List ℕ) (key : Field × Field) (first second : Field) (es others : List (ℕ × Tuple)) →
    slots ≡ slots_of (filter (λ e. has_both n key e.1) es) → key ≡ (first, second) → es ≡ others →
    slots ≡ slots_of (filter (λ e. has 0 first e.1 && has n second e.1) others)
pair_slots n slots key first second es others h p q =
    h ∙ ap (λ k. slots_of (filter (λ e. has_both n k e.1) es)) p ∙ ap (λ l. slots_of (filter (λ e. has 0 first e.1 && has n second e.1) l)) q

-- a list of no length
pub none_in : {X : Type 0} (ks : List X) → (0 < length ks → ⊥) → ks ≡ []
none_in [] h = refl
none_in (k ∷ ks) h = absurd (h (omega arith))

-- with no end at all, every tuple is live
pub no_end : (now : ℕ) (ends : BTreeSet (ℕ × ℕ)) (es : List (ℕ × Tuple)) → Apart es → ((u s : ℕ) → contains end_cmp ends (u, s) ≡ ends_in u (tuple_at es s)) →
    (0 < length ends.keys → ⊥) → live_entries now es ≡ es
no_end now ends es apart filed none =
    none_ended now ends es apart filed (λ u s h. absurd (cc (sym (no_ends ends (u, s) (none_in ends.keys none)) ∙ h)))

pub untrue : false ≡ true → ⊥
untrue h = absurd (cc h)

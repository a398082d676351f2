use Rattle.std.proofs.Common.{◌≡◌, ℕ, ◌+◌, ◌<◌, List, [], ◌∷◌, ◌++◌, Bool, true, false, refl, ap, ◌∙◌, sym, arith, cond, Some, subst}
use Rattle.std.proofs.lemmas.Bool.Decides.{nat_tests}
use Rattle.std.specs.BTreeMap.{is_at, insert_entry}
use Rattle.std.specs.BTreeSet.{insert_key}
use Rattle.std.specs.List.{filter}
use Rattle.std.specs.Map.{remove_entry}
use Rattle.std.specs.Set.{remove_key}
use Rattle.std.specs.Ordering.{is_eq, nat_cmp}
use Rattle.std.specs.declared.cmp.Ordering.TheVariants.{Greater}
use Rattle.scfs_tuples.specs.Filed.{Apart, Below, IsFree, is_slot, slots_of, tuple_at, without}
use Rattle.scfs_tuples.specs.declared.types.Tuple.{Tuple}
use Rattle.scfs_tuples.proofs.OrderLemmas.{slot_exact}

above : (next n : ℕ) → n < next → nat_cmp next n ≡ Greater
above next n h = grind (arith, nat_tests)

-- a slot above all others goes to the end
pub pushed : (next : ℕ) (t : Tuple) (es : List (ℕ × Tuple)) → Below next es → insert_entry nat_cmp es next t ≡ es ++ (next, t) ∷ []
pushed next t [] b = refl
pushed next t (e ∷ es) b = rw (above next e.0 b.0) (ap (λ more. e ∷ more) (pushed next t es b.1))

pub below_more : (next : ℕ) (t : Tuple) (es : List (ℕ × Tuple)) → Below next es → Below (next + 1) (es ++ (next, t) ∷ [])
below_more next t [] b = (omega arith, tt)
below_more next t (e ∷ es) b = (omega (arith, b.0), below_more next t es b.1)

other : (slot n : ℕ) → n < slot → is_eq (nat_cmp n slot) ≡ false
other slot n h = grind (arith, nat_tests)

other_back : (slot n : ℕ) → n < slot → is_eq (nat_cmp slot n) ≡ false
other_back slot n h = grind (arith, nat_tests)

pub free_above : (next : ℕ) (es : List (ℕ × Tuple)) → Below next es → IsFree next es
free_above next [] b = tt
free_above next (e ∷ es) b = (other_back next e.0 b.0, free_above next es b.1)

free_more : (slot next : ℕ) (t : Tuple) (es : List (ℕ × Tuple)) → slot < next → IsFree slot es → IsFree slot (es ++ (next, t) ∷ [])
free_more slot next t [] h free = (other next slot h, tt)
free_more slot next t (e ∷ es) h free = (free.0, free_more slot next t es h free.1)

pub apart_more : (next : ℕ) (t : Tuple) (es : List (ℕ × Tuple)) → Below next es → Apart es → Apart (es ++ (next, t) ∷ [])
apart_more next t [] b a = (tt, tt)
apart_more next t (e ∷ es) b a = (free_more e.0 next t es b.0 a.0, apart_more next t es b.1 a.1)

-- nothing is taken where the slot is free
pub without_free : (slot : ℕ) (es : List (ℕ × Tuple)) → IsFree slot es → without slot es ≡ es
without_free slot [] free = refl
without_free slot (e ∷ es) free = rw free.0 (ap (λ more. e ∷ more) (without_free slot es free.1))

pub free_same : (a b : ℕ) (es : List (ℕ × Tuple)) → a ≡ b → IsFree a es → IsFree b es
free_same a b es h free = subst (λ s. IsFree s es) h free

removed_at : (slot : ℕ) (e : ℕ × Tuple) (es : List (ℕ × Tuple)) (b : Bool) → is_slot slot e ≡ b → IsFree e.0 es → remove_entry (is_at (nat_cmp slot)) es ≡ without slot es →
    remove_entry (is_at (nat_cmp slot)) (e ∷ es) ≡ without slot (e ∷ es)
removed_at slot e es true h free rest =
    rw h (sym (without_free slot es (free_same e.0 slot es (sym (slot_exact slot e.0 h)) free)))
removed_at slot e es false h free rest = rw h (ap (λ more. e ∷ more) rest)

-- a map without a slot
pub removed : (slot : ℕ) (es : List (ℕ × Tuple)) → Apart es → remove_entry (is_at (nat_cmp slot)) es ≡ without slot es
removed slot [] a = refl
removed slot (e ∷ es) a = removed_at slot e es (is_slot slot e) refl a.0 (removed slot es a.1)

below_kept : (next : ℕ) (e : ℕ × Tuple) (es : List (ℕ × Tuple)) (b : Bool) → e.0 < next → Below next es → Below next (cond b (e ∷ es) es)
below_kept next e es true h rest = (h, rest)
below_kept next e es false h rest = rest

pub below_filter : (next : ℕ) (p : ℕ × Tuple → Bool) (es : List (ℕ × Tuple)) → Below next es → Below next (filter p es)
below_filter next p [] b = tt
below_filter next p (e ∷ es) b = below_kept next e (filter p es) (p e) b.0 (below_filter next p es b.1)

free_kept : (slot : ℕ) (e : ℕ × Tuple) (es : List (ℕ × Tuple)) (b : Bool) → is_slot slot e ≡ false → IsFree slot es → IsFree slot (cond b (e ∷ es) es)
free_kept slot e es true h rest = (h, rest)
free_kept slot e es false h rest = rest

pub free_filter : (slot : ℕ) (p : ℕ × Tuple → Bool) (es : List (ℕ × Tuple)) → IsFree slot es → IsFree slot (filter p es)
free_filter slot p [] free = tt
free_filter slot p (e ∷ es) free = free_kept slot e (filter p es) (p e) free.0 (free_filter slot p es free.1)

apart_kept : (e : ℕ × Tuple) (es : List (ℕ × Tuple)) (b : Bool) → IsFree e.0 es → Apart es → Apart (cond b (e ∷ es) es)
apart_kept e es true free rest = (free, rest)
apart_kept e es false free rest = rest

pub apart_filter : (p : ℕ × Tuple → Bool) (es : List (ℕ × Tuple)) → Apart es → Apart (filter p es)
apart_filter p [] a = tt
apart_filter p (e ∷ es) a = apart_kept e (filter p es) (p e) (free_filter e.0 p es a.0) (apart_filter p es a.1)

swap_at : {X : Type 0} (p q : X → Bool) (x : X) (ps qs both : List X) (a b : Bool) → p x ≡ a → q x ≡ b → filter p qs ≡ both → filter q ps ≡ both →
    filter p (cond b (x ∷ qs) qs) ≡ filter q (cond a (x ∷ ps) ps)
swap_at p q x ps qs both true true h k l r = rw (h, k) (ap (λ more. x ∷ more) (l ∙ sym r))
swap_at p q x ps qs both true false h k l r = rw k (l ∙ sym r)
swap_at p q x ps qs both false true h k l r = rw h (l ∙ sym r)
swap_at p q x ps qs both false false h k l r = l ∙ sym r

-- two filters in either order
pub filter_swap : {X : Type 0} (p q : X → Bool) (xs : List X) → filter p (filter q xs) ≡ filter q (filter p xs)
filter_swap p q [] = refl
filter_swap p q (x ∷ xs) = swap_at p q x (filter p xs) (filter q xs) (filter q (filter p xs)) (p x) (q x) refl refl (filter_swap p q xs) refl

-- a slot above all others goes to the end of the slots
pub slot_added : (next : ℕ) (es : List (ℕ × Tuple)) → Below next es → insert_key nat_cmp (slots_of es) next ≡ slots_of es ++ next ∷ []
slot_added next [] b = refl
slot_added next (e ∷ es) b = rw (above next e.0 b.0) (ap (λ more. e.0 ∷ more) (slot_added next es b.1))

slot_removed_at : (slot : ℕ) (e : ℕ × Tuple) (es : List (ℕ × Tuple)) (b : Bool) → is_slot slot e ≡ b → IsFree e.0 es →
    remove_key (is_at (nat_cmp slot)) (slots_of es) ≡ slots_of (without slot es) → remove_key (is_at (nat_cmp slot)) (slots_of (e ∷ es)) ≡ slots_of (without slot (e ∷ es))
slot_removed_at slot e es true h free rest =
    rw h (ap slots_of (sym (without_free slot es (free_same e.0 slot es (sym (slot_exact slot e.0 h)) free))))
slot_removed_at slot e es false h free rest = rw h (ap (λ more. e.0 ∷ more) rest)

-- the slots but for one
pub slot_removed : (slot : ℕ) (es : List (ℕ × Tuple)) → Apart es → remove_key (is_at (nat_cmp slot)) (slots_of es) ≡ slots_of (without slot es)
slot_removed slot [] a = refl
slot_removed slot (e ∷ es) a = slot_removed_at slot e es (is_slot slot e) refl a.0 (slot_removed slot es a.1)

-- an entry of another slot
tuple_later : (slot : ℕ) (e : ℕ × Tuple) (es : List (ℕ × Tuple)) (t : Tuple) → is_slot slot e ≡ false → tuple_at (e ∷ es) slot ≡ Some t → tuple_at es slot ≡ Some t
tuple_later slot e es t h at = sym (ap (λ b. cond b (Some e.1) (tuple_at es slot)) h) ∙ at

unseen_at : (p : Tuple → Bool) (slot : ℕ) (t : Tuple) (e : ℕ × Tuple) (es : List (ℕ × Tuple)) (b : Bool) → is_slot slot e ≡ b → p t ≡ false → IsFree e.0 es →
    tuple_at (e ∷ es) slot ≡ Some t → (tuple_at es slot ≡ Some t → filter (λ e. p e.1) (without slot es) ≡ filter (λ e. p e.1) es) →
    filter (λ e. p e.1) (without slot (e ∷ es)) ≡ filter (λ e. p e.1) (e ∷ es)
unseen_at p slot t e es true h missed free at rest =
    let found : Some e.1 ≡ Some t = sym (ap (λ b. cond b (Some e.1) (tuple_at es slot)) h) ∙ at in
    let same : e.1 ≡ t = cc in
    let fails : p e.1 ≡ false = ap p same ∙ missed in
    rw (h, fails) (ap (filter (λ e. p e.1)) (without_free slot es (free_same e.0 slot es (sym (slot_exact slot e.0 h)) free)))
unseen_at p slot t e es false h missed free at rest =
    rw h (ap (λ l. cond (p e.1) (e ∷ l) l) (rest (tuple_later slot e es t h at)))

-- a test that the tuple in a slot fails does not see that it goes
pub unseen : (p : Tuple → Bool) (slot : ℕ) (t : Tuple) (es : List (ℕ × Tuple)) → p t ≡ false → tuple_at es slot ≡ Some t → Apart es →
    filter (λ e. p e.1) (without slot es) ≡ filter (λ e. p e.1) es
unseen p slot t [] missed at a = refl
unseen p slot t (e ∷ es) missed at a = unseen_at p slot t e es (is_slot slot e) refl missed a.0 at (λ later. unseen p slot t es missed later a.1)

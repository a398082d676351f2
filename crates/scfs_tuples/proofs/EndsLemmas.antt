use Rattle.std.proofs.Common.{◌≡◌, ℕ, ◌<◌, List, [], ◌∷◌, ◌++◌, Bool, true, false, refl, ap, ◌∙◌, sym, arith, cond, ◌&&◌, ◌==◌, Option, Some, None}
use Rattle.std.proofs.lemmas.Bool.Decides.{nat_tests}
use Rattle.std.specs.BTreeSet.{BTreeSet, contains}
use Rattle.std.specs.Ordering.{is_eq, nat_cmp}
use Rattle.scfs_tuples.specs.Filed.{Apart, Below, IsFree, SetsEnd, end_cmp, ends_in, is_end, tuple_at, without}
use Rattle.scfs_tuples.specs.declared.types.Tuple.{Tuple}
use Rattle.scfs_tuples.proofs.EntriesLemmas.{free_above, free_same}
use Rattle.scfs_tuples.proofs.OrderLemmas.{is_eq_then, slot_exact, slot_test}

below_differs : (s slot : ℕ) → s < slot → is_eq (nat_cmp s slot) ≡ false
below_differs s slot h = grind (arith, nat_tests)

pushed_at : (es : List (ℕ × Tuple)) (e : ℕ × Tuple) (slot : ℕ) (t : Tuple) (s : ℕ) (b : Bool) → is_eq (nat_cmp s e.0) ≡ b → e.0 < slot →
    tuple_at (es ++ (slot, t) ∷ []) s ≡ cond (is_eq (nat_cmp s slot)) (Some t) (tuple_at es s) →
    tuple_at ((e ∷ es) ++ (slot, t) ∷ []) s ≡ cond (is_eq (nat_cmp s slot)) (Some t) (tuple_at (e ∷ es) s)
pushed_at es e slot t s true h below rest =
    let lower : s < slot = omega (arith, slot_exact s e.0 h, below) in
    rw (h, below_differs s slot lower) refl
pushed_at es e slot t s false h below rest = rw h rest

-- a pushed tuple is in its slot
pub tuple_pushed : (es : List (ℕ × Tuple)) (slot : ℕ) (t : Tuple) (s : ℕ) → Below slot es →
    tuple_at (es ++ (slot, t) ∷ []) s ≡ cond (is_eq (nat_cmp s slot)) (Some t) (tuple_at es s)
tuple_pushed [] slot t s below = refl
tuple_pushed (e ∷ es) slot t s below = pushed_at es e slot t s (is_eq (nat_cmp s e.0)) refl below.0 (tuple_pushed es slot t s below.1)

-- no tuple is in a free slot
pub tuple_free : (slot : ℕ) (es : List (ℕ × Tuple)) → IsFree slot es → tuple_at es slot ≡ None
tuple_free slot [] free = refl
tuple_free slot (e ∷ es) free = rw free.0 (tuple_free slot es free.1)

removed_at : (es : List (ℕ × Tuple)) (e : ℕ × Tuple) (slot s : ℕ) (a b : Bool) → is_eq (nat_cmp slot e.0) ≡ a → is_eq (nat_cmp s e.0) ≡ b → IsFree e.0 es →
    tuple_at (without slot es) s ≡ cond (is_eq (nat_cmp s slot)) None (tuple_at es s) →
    tuple_at (without slot (e ∷ es)) s ≡ cond (is_eq (nat_cmp s slot)) None (tuple_at (e ∷ es) s)
removed_at es e slot s true true h k free rest =
    let same : slot ≡ e.0 = slot_exact slot e.0 h in
    let same_s : s ≡ e.0 = slot_exact s e.0 k in
    let hit : is_eq (nat_cmp s slot) ≡ true = grind (arith, nat_tests, same, same_s) in
    rw h (rest ∙ ap (λ b. cond b None (tuple_at es s)) hit ∙ sym (ap (λ b. cond b None (tuple_at (e ∷ es) s)) hit))
removed_at es e slot s true false h k free rest = rw (h, k) rest
removed_at es e slot s false true h k free rest =
    let same_s : s ≡ e.0 = slot_exact s e.0 k in
    let missed : is_eq (nat_cmp s slot) ≡ false = grind (arith, nat_tests, h, same_s) in
    rw (h, k, missed) refl
removed_at es e slot s false false h k free rest = rw (h, k) rest

-- an emptied slot is empty, and the others are as before
pub tuple_removed : (es : List (ℕ × Tuple)) (slot s : ℕ) → Apart es → tuple_at (without slot es) s ≡ cond (is_eq (nat_cmp s slot)) None (tuple_at es s)
tuple_removed [] slot s apart = at (is_eq (nat_cmp s slot))
  where
    at : (b : Bool) → ◌≡◌ {A = Option Tuple} None (cond b None None)
    at true = refl
    at false = refl
tuple_removed (e ∷ es) slot s apart =
    removed_at es e slot s (is_eq (nat_cmp slot e.0)) (is_eq (nat_cmp s e.0)) refl refl apart.0 (tuple_removed es slot s apart.1)

slot_sym : (a b : ℕ) → is_eq (nat_cmp a b) ≡ is_eq (nat_cmp b a)
slot_sym a b = grind (arith, nat_tests)

-- whether the set of ends has an end after a change
pub set_at : (there : Bool) (until : Option ℕ) (slot : ℕ) (old new : BTreeSet (ℕ × ℕ)) (u s : ℕ) → SetsEnd there until slot old new →
    contains end_cmp new (u, s) ≡ cond (is_eq (nat_cmp s slot) && is_end u until) there (contains end_cmp old (u, s))
set_at there None slot old new u s sets = sets (u, s) ∙ at (is_eq (nat_cmp s slot))
  where
    at : (b : Bool) → contains end_cmp old (u, s) ≡ cond (b && false) there (contains end_cmp old (u, s))
    at true = refl
    at false = refl
set_at there (Some end) slot old new u s sets =
    sets (u, s)
    ∙ ap (λ b. cond b there (contains end_cmp old (u, s)))
    (is_eq_then (nat_cmp end u) (nat_cmp slot s) ∙ ap (λ b. b && is_eq (nat_cmp slot s)) (slot_sym end u ∙ slot_test u end) ∙ ap (λ b. (u == end) && b) (slot_sym slot s)
    ∙ turned (u == end) (is_eq (nat_cmp s slot)))
  where
    turned : (a b : Bool) → (a && b) ≡ (b && a)
    turned true true = refl
    turned true false = refl
    turned false true = refl
    turned false false = refl

pushed_end : (u : ℕ) (t : Tuple) (held : Option Tuple) (hit old : Bool) → (hit ≡ true → held ≡ None) → old ≡ ends_in u held →
    cond (hit && is_end u t.until) true old ≡ ends_in u (cond hit (Some t) held)
pushed_end u t held true old free is = end (is_end u t.until) (is ∙ ap (ends_in u) (free refl))
  where
    end : (b : Bool) → old ≡ false → cond b true old ≡ b
    end true h = refl
    end false h = h
pushed_end u t held false old free is = is

-- the ends are kept by a push
pub ends_pushed : (es : List (ℕ × Tuple)) (slot : ℕ) (t : Tuple) (old new : BTreeSet (ℕ × ℕ)) → Below slot es →
    ((u s : ℕ) → contains end_cmp old (u, s) ≡ ends_in u (tuple_at es s)) → SetsEnd true t.until slot old new →
    (u s : ℕ) → contains end_cmp new (u, s) ≡ ends_in u (tuple_at (es ++ (slot, t) ∷ []) s)
ends_pushed es slot t old new below ends sets u s =
    set_at true t.until slot old new u s sets
    ∙ pushed_end u t (tuple_at es s) (is_eq (nat_cmp s slot)) (contains end_cmp old (u, s))
    (λ hit. tuple_free s es (free_same slot s es (sym (slot_exact s slot hit)) (free_above slot es below))) (ends u s)
    ∙ ap (ends_in u) (sym (tuple_pushed es slot t s below))

removed_end : (u : ℕ) (t : Tuple) (held : Option Tuple) (hit old : Bool) → (hit ≡ true → held ≡ Some t) → old ≡ ends_in u held →
    cond (hit && is_end u t.until) false old ≡ ends_in u (cond hit None held)
removed_end u t held true old found is = end (is_end u t.until) (is ∙ ap (ends_in u) (found refl))
  where
    end : (b : Bool) → old ≡ b → cond b false old ≡ false
    end true h = refl
    end false h = h
removed_end u t held false old found is = is

-- the ends are kept when a slot is emptied
pub ends_removed : (es : List (ℕ × Tuple)) (slot : ℕ) (t : Tuple) (old new : BTreeSet (ℕ × ℕ)) → Apart es → tuple_at es slot ≡ Some t →
    ((u s : ℕ) → contains end_cmp old (u, s) ≡ ends_in u (tuple_at es s)) → SetsEnd false t.until slot old new →
    (u s : ℕ) → contains end_cmp new (u, s) ≡ ends_in u (tuple_at (without slot es) s)
ends_removed es slot t old new apart found ends sets u s =
    set_at false t.until slot old new u s sets
    ∙ removed_end u t (tuple_at es s) (is_eq (nat_cmp s slot)) (contains end_cmp old (u, s))
    (λ hit. ap (tuple_at es) (slot_exact s slot hit) ∙ found) (ends u s)
    ∙ ap (ends_in u) (sym (tuple_removed es slot s apart))

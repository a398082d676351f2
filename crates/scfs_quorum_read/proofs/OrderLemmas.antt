-- The clouds that were asked are the first ones of the order.
use Rattle.std.proofs.Common.{◌≡◌, ◌≢◌, ℕ, zero, suc, ◌+◌, ◌<◌, List, [], ◌∷◌, ◌++◌, length, take, drop, get_or, Bool, true, false, Some, None, refl, sym, ap, ◌∙◌, arith, drop-cons}
use Rattle.std.specs.Prelude.{not, ◌==◌}
use Rattle.std.specs.Option.{option_to_list}
use Rattle.std.specs.List.{All, find, list_any}
use Rattle.std.proofs.lemmas.Bool.{ne_eqb, eq-eqb}
use Rattle.std.proofs.lemmas.List.{take_more, take_all, get_or-take, length-take, take-append-drop, append-nil}
use Rattle.std.proofs.lemmas.List.Folds.{list_any_none, list_any_at}
use Rattle.scfs_gf256.specs.Polynomials.{AreDistinct}
use Rattle.scfs_quorum_read.specs.Reading.{first_unasked}

-- nothing is found where all fail the test
find_none : (test : ℕ → Bool) (xs : List ℕ) → ((k : ℕ) → k < length xs → test (get_or xs k 0) ≡ false) → find test xs ≡ None
find_none test [] fails = refl
find_none test (x ∷ xs) fails =
    rw (fails 0 (omega arith)) (find_none test xs (λ k l. fails (suc k) (omega arith)))

-- what is behind such a front is found
find_behind : (test : ℕ → Bool) (xs ys : List ℕ) (y : ℕ) → ((k : ℕ) → k < length xs → test (get_or xs k 0) ≡ false)
    → test y ≡ true → find test (xs ++ y ∷ ys) ≡ Some y
find_behind test [] ys y fails passes = rw passes refl
find_behind test (x ∷ xs) ys y fails passes =
    rw (fails 0 (omega arith)) (find_behind test xs ys y (λ k l. fails (suc k) (omega arith)) passes)

-- the test of a cloud by those that were asked
abbrev is_unasked : List ℕ → ℕ → Bool
is_unasked asked cloud = not (list_any (λ other. other == cloud) asked)

asked_fails : (asked : List ℕ) (k : ℕ) → k < length asked → is_unasked asked (get_or asked k 0) ≡ false
asked_fails asked k l =
    ap not (list_any_at (λ other. other == get_or asked k 0) asked k 0 l (eq-eqb (get_or asked k 0) (get_or asked k 0) refl))

unasked_passes : (asked : List ℕ) (cloud : ℕ) → All (λ other. other ≢ cloud) asked → is_unasked asked cloud ≡ true
unasked_passes asked cloud others =
    ap not (list_any_none (λ other. other == cloud) asked (λ k d l. ne_eqb (get_or asked k d) cloud (others k d l)))

pub get_or-default : (xs : List ℕ) (k d : ℕ) → k < length xs → get_or xs k 0 ≡ get_or xs k d
get_or-default [] k d l = absurd (omega arith)
get_or-default (x ∷ xs) zero d l = refl
get_or-default (x ∷ xs) (suc k) d l = get_or-default xs k d (omega arith)

-- after the first `count` clouds of an order the next one is the first that was not asked
pub first_unasked-take : (order : List ℕ) (count : ℕ) → AreDistinct order → count < length order
    → first_unasked order (take count order) ≡ Some (get_or order count 0)
first_unasked-take order count different within =
    let front = take count order in
    let next = get_or order count 0 in
    let long : length front ≡ count = omega (arith, length-take count order) in
    let others : All (λ other. other ≢ next) front = λ k d l e.
    let before : k < count = omega (arith, long) in
    different k count 0 before within (sym (get_or-take count order k 0 before) ∙ get_or-default front k d l ∙ e) in
    let whole : order ≡ front ++ next ∷ drop (suc count) order =
    sym (take-append-drop count order) ∙ ap (λ rest. front ++ rest) (drop-cons order count 0 within) in
    ap (find (is_unasked front)) whole
    ∙ find_behind (is_unasked front) front (drop (suc count) order) next (asked_fails front) (unasked_passes front next others)

-- after all of them there is none
pub first_unasked-all : (order : List ℕ) (count : ℕ) → count ≡ length order → first_unasked order (take count order) ≡ None
first_unasked-all order count all =
    ap (first_unasked order) (take_all count order (omega arith))
    ∙ find_none (is_unasked order) order (asked_fails order)

-- the clouds that were asked, with the next one
pub asked_more : (order : List ℕ) (count : ℕ) → AreDistinct order → count < length order
    → take (count + 1) order ≡ take count order ++ option_to_list (first_unasked order (take count order))
asked_more order count different within =
    take_more order count 0 within
    ∙ ap (λ next. take count order ++ option_to_list next) (sym (first_unasked-take order count different within))

pub asked_all : (order : List ℕ) (count : ℕ) → count ≡ length order
    → take count order ≡ take count order ++ option_to_list (first_unasked order (take count order))
asked_all order count all =
    sym (append-nil (take count order))
    ∙ ap (λ next. take count order ++ option_to_list next) (sym (first_unasked-all order count all))

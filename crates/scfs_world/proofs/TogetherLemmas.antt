-- Two lists, item by item.
use Rattle.std.proofs.Common.{◌≡◌, ℕ, zero, suc, ◌+◌, List, [], ◌∷◌, ◌++◌, length, refl, ap, subst, Some, arith}
use Rattle.std.specs.Prelude.{slice_get, slice_set}
use Rattle.scfs_anchor.specs.Tree.{Each}
use Rattle.scfs_world.specs.Shows.{Together}

-- what stands at a place of the second list, if something stands there in the first
pub record IsThere {A B : Type 0} (R : ℕ → A → B → Type 0) (a k : ℕ) (x : A) (ys : List B) : Type 0 where
  pub other : B
  pub there : slice_get ys k ≡ Some other
  pub holds : R a x other

pub at_place : {A B : Type 0} (R : ℕ → A → B → Type 0) (first k a : ℕ) (xs : List A) (ys : List B) (x : A) → first + k ≡ a
    → slice_get xs k ≡ Some x → Together R first xs ys → IsThere R a k x ys
at_place R first k a [] ys x e there t = cc
at_place R first k a (z ∷ xs) [] x e there t = absurd t
at_place R first zero a (z ∷ xs) (y ∷ ys) x e there t =
    let here : first ≡ a = omega arith in
    let same : z ≡ x = cc in
    record { other = y; there = refl; holds = subst (λ n. R n x y) here (subst (λ w. R first w y) same t.0) }
at_place R first (suc k) a (z ∷ xs) (y ∷ ys) x e there t =
    let it = at_place R (first + 1) k a xs ys x (omega arith) there t.1 in record { other = it.other; there = it.there; holds = it.holds }

pub same_length : {A B : Type 0} (R : ℕ → A → B → Type 0) (first : ℕ) (xs : List A) (ys : List B) → Together R first xs ys → length xs ≡ length ys
same_length R first [] [] t = refl
same_length R first [] (y ∷ ys) t = absurd t
same_length R first (x ∷ xs) [] t = absurd t
same_length R first (x ∷ xs) (y ∷ ys) t = ap suc (same_length R (first + 1) xs ys t.1)

-- others stand at one place
pub set_both : {A B : Type 0} (R : ℕ → A → B → Type 0) (first k a : ℕ) (xs : List A) (ys : List B) (x : A) (y : B) → first + k ≡ a
    → R a x y → Together R first xs ys → Together R first (slice_set xs k x) (slice_set ys k y)
set_both R first k a [] [] x y e here t = tt
set_both R first k a [] (w ∷ ys) x y e here t = absurd t
set_both R first k a (z ∷ xs) [] x y e here t = absurd t
set_both R first zero a (z ∷ xs) (w ∷ ys) x y e here t = let same : a ≡ first = omega arith in (subst (λ n. R n x y) same here, t.1)
set_both R first (suc k) a (z ∷ xs) (w ∷ ys) x y e here t = (t.0, set_both R (first + 1) k a xs ys x y (omega arith) here t.1)

-- one more at the end
pub one_behind : {A B : Type 0} (R : A → B → Type 0) (first : ℕ) (xs : List A) (ys : List B) (x : A) (y : B)
    → Together (λ n. R) first xs ys → R x y → Together (λ n. R) first (xs ++ x ∷ []) (ys ++ y ∷ [])
one_behind R first [] [] x y t h = (h, tt)
one_behind R first [] (z ∷ ys) x y t h = absurd t
one_behind R first (z ∷ xs) [] x y t h = absurd t
one_behind R first (z ∷ xs) (w ∷ ys) x y t h = (t.0, one_behind R (first + 1) xs ys x y t.1 h)

-- a relation that does not rest on the place
pub from_any : {A B : Type 0} (R : A → B → Type 0) (first next : ℕ) (xs : List A) (ys : List B) → Together (λ n. R) first xs ys
    → Together (λ n. R) next xs ys
from_any R first next [] [] t = tt
from_any R first next [] (y ∷ ys) t = absurd t
from_any R first next (x ∷ xs) [] t = absurd t
from_any R first next (x ∷ xs) (y ∷ ys) t = (t.0, from_any R (first + 1) (next + 1) xs ys t.1)

pub each_there : {A : Type 0} (P : A → Type 0) (xs : List A) (k : ℕ) (x : A) → slice_get xs k ≡ Some x → Each P xs → P x
each_there P [] k x there all = cc
each_there P (z ∷ xs) zero x there all = let same : z ≡ x = cc in subst P same all.0
each_there P (z ∷ xs) (suc k) x there all = each_there P xs k x there all.1

use Rattle.std.proofs.Common.{◌≡◌, ◌≤◌, List, [], ◌∷◌, ◌++◌, length, map, Bool, true, false, ◌||◌, ◌&&◌, arith, Some, None, refl, ap, ◌∙◌, sym, subst}
use Rattle.std.specs.Prelude.{filter, not}
use Rattle.std.specs.List.{find, list_any}
use Rattle.std.proofs.lemmas.List.Filters.{length-filter_both}
use Rattle.scfs_anchor.specs.Tree.{Each, Apart}
use Rattle.scfs_model.specs.Lists.{without_first}

-- Lists whose items hold something each, or of which no two go together: parts of them, and items behind them.

pub head_false : (t u : Bool) → t || u ≡ false → t ≡ false
head_false true u h = cc
head_false false u h = refl

pub tail_false : (t u : Bool) → t || u ≡ false → u ≡ false
tail_false true u h = cc
tail_false false u h = h

pub both_true : (t u : Bool) → t && u ≡ true → (t ≡ true) × (u ≡ true)
both_true true u h = (refl, h)
both_true false u h = cc

-- a filter is no longer, nor is what is left without the first that passes
pub short_filter : {X : Type 0} (p : X → Bool) (xs : List X) → length (filter p xs) ≤ length xs
short_filter p xs = let both = length-filter_both p (λ x. not (p x)) (λ x. refl) xs in omega arith

pub short_without : {X : Type 0} (p : X → Bool) (xs : List X) → length (without_first p xs) ≤ length xs
short_without p [] = omega arith
short_without p (x ∷ xs) = here (p x) refl (short_without p xs) where
  here : (t : Bool) → p x ≡ t → length (without_first p xs) ≤ length xs → length (without_first p (x ∷ xs)) ≤ length (x ∷ xs)
  here true e rest = rw e (omega arith)
  here false e rest = rw e (omega arith)

pub each_map : {X Y : Type 0} (f : X → Y) (P : Y → Type 0) (xs : List X) → Each (λ x. P (f x)) xs → Each P (map f xs)
each_map f P [] h = tt
each_map f P (x ∷ xs) h = (h.0, each_map f P xs h.1)

pub each_unmap : {X Y : Type 0} (f : X → Y) (P : Y → Type 0) (xs : List X) → Each P (map f xs) → Each (λ x. P (f x)) xs
each_unmap f P [] h = tt
each_unmap f P (x ∷ xs) h = (h.0, each_unmap f P xs h.1)

pub each_also : {X : Type 0} (P Q : X → Type 0) → ((x : X) → P x → Q x) → (xs : List X) → Each P xs → Each Q xs
each_also P Q f [] h = tt
each_also P Q f (x ∷ xs) h = (f x h.0, each_also P Q f xs h.1)

pub each_append : {X : Type 0} (P : X → Type 0) (xs ys : List X) → Each P xs → Each P ys → Each P (xs ++ ys)
each_append P [] ys h more = more
each_append P (x ∷ xs) ys h more = (h.0, each_append P xs ys h.1 more)

pub each_filter : {X : Type 0} (P : X → Type 0) (p : X → Bool) (xs : List X) → Each P xs → Each P (filter p xs)
each_filter P p [] h = tt
each_filter P p (x ∷ xs) h = here (p x) refl (each_filter P p xs h.1) where
  here : (t : Bool) → p x ≡ t → Each P (filter p xs) → Each P (filter p (x ∷ xs))
  here true e rest = rw e (h.0, rest)
  here false e rest = rw e rest

pub each_without : {X : Type 0} (P : X → Type 0) (p : X → Bool) (xs : List X) → Each P xs → Each P (without_first p xs)
each_without P p [] h = tt
each_without P p (x ∷ xs) h = here (p x) refl (each_without P p xs h.1) where
  here : (t : Bool) → p x ≡ t → Each P (without_first p xs) → Each P (without_first p (x ∷ xs))
  here true e rest = rw e h.1
  here false e rest = rw e (h.0, rest)

-- what holds of each holds of the first that passes
pub each_found : {X : Type 0} (P : X → Type 0) (p : X → Bool) (xs : List X) → Each P xs → (n : X) → find p xs ≡ Some n → P n
each_found P p [] h n e = absurd cc
each_found P p (x ∷ xs) h n e = here (λ rest. each_found P p xs h.1 n rest) (p x) refl where
  here : (find p xs ≡ Some n → P n) → (t : Bool) → p x ≡ t → P n
  here later true f =
      let same : Some x ≡ Some n = rw f at e in
      let one : x ≡ n = cc in
      subst P one h.0
  here later false f = later (rw f at e)

pub found_passes : {X : Type 0} (p : X → Bool) (xs : List X) (n : X) → find p xs ≡ Some n → p n ≡ true
found_passes p [] n e = absurd cc
found_passes p (x ∷ xs) n e = here (λ rest. found_passes p xs n rest) (p x) refl where
  here : (find p xs ≡ Some n → p n ≡ true) → (t : Bool) → p x ≡ t → p n ≡ true
  here later true f =
      let same : Some x ≡ Some n = rw f at e in
      let one : x ≡ n = cc in
      ap p (sym one) ∙ f
  here later false f = later (rw f at e)

-- no item passes: one by one
pub each_other : {X : Type 0} (g : X → Bool) (xs : List X) → list_any g xs ≡ false → Each (λ x. g x ≡ false) xs
each_other g [] h = tt
each_other g (x ∷ xs) h = (head_false (g x) _ h, each_other g xs (tail_false (g x) _ h))

pub any_other : {X : Type 0} (g : X → Bool) (xs : List X) → Each (λ x. g x ≡ false) xs → list_any g xs ≡ false
any_other g [] h = refl
any_other g (x ∷ xs) h = rw h.0 (any_other g xs h.1)

pub find_none : {X : Type 0} (q : X → Bool) (xs : List X) → Each (λ x. q x ≡ false) xs → find q xs ≡ None
find_none q [] h = refl
find_none q (x ∷ xs) h = rw h.0 (find_none q xs h.1)

pub none_found : {X : Type 0} (q : X → Bool) (xs : List X) → find q xs ≡ None → Each (λ x. q x ≡ false) xs
none_found q [] h = tt
none_found q (x ∷ xs) h = here (λ rest. none_found q xs rest) (q x) refl where
  here : (find q xs ≡ None → Each (λ x. q x ≡ false) xs) → (t : Bool) → q x ≡ t → Each (λ x. q x ≡ false) (x ∷ xs)
  here later true e = absurd (let clash : Some x ≡ None = rw e at h in cc)
  here later false e = (e, later (rw e at h))

pub apart_map : {X Y : Type 0} (f : X → Y) (R : Y → Y → Bool) (xs : List X) → Apart (λ a b. R (f a) (f b)) xs → Apart R (map f xs)
apart_map f R [] h = tt
apart_map f R (x ∷ xs) h =
    (any_other (R (f x)) (map f xs) (each_map f (λ y. R (f x) y ≡ false) xs (each_other (λ y. R (f x) (f y)) xs h.0)), apart_map f R xs h.1)

pub apart_unmap : {X Y : Type 0} (f : X → Y) (R : Y → Y → Bool) (xs : List X) → Apart R (map f xs) → Apart (λ a b. R (f a) (f b)) xs
apart_unmap f R [] h = tt
apart_unmap f R (x ∷ xs) h =
    (any_other (λ y. R (f x) (f y)) xs (each_unmap f (λ y. R (f x) y ≡ false) xs (each_other (R (f x)) (map f xs) h.0)), apart_unmap f R xs h.1)

pub apart_filter : {X : Type 0} (R : X → X → Bool) (p : X → Bool) (xs : List X) → Apart R xs → Apart R (filter p xs)
apart_filter R p [] h = tt
apart_filter R p (x ∷ xs) h = here (p x) refl (apart_filter R p xs h.1) where
  here : (t : Bool) → p x ≡ t → Apart R (filter p xs) → Apart R (filter p (x ∷ xs))
  here true e rest = rw e (any_other (R x) (filter p xs) (each_filter (λ y. R x y ≡ false) p xs (each_other (R x) xs h.0)), rest)
  here false e rest = rw e rest

pub apart_without : {X : Type 0} (R : X → X → Bool) (p : X → Bool) (xs : List X) → Apart R xs → Apart R (without_first p xs)
apart_without R p [] h = tt
apart_without R p (x ∷ xs) h = here (p x) refl (apart_without R p xs h.1) where
  here : (t : Bool) → p x ≡ t → Apart R (without_first p xs) → Apart R (without_first p (x ∷ xs))
  here true e rest = rw e h.1
  here false e rest = rw e (any_other (R x) (without_first p xs) (each_without (λ y. R x y ≡ false) p xs (each_other (R x) xs h.0)), rest)

-- one more item, with which none goes
pub apart_append : {X : Type 0} (R : X → X → Bool) (xs : List X) (y : X) → Apart R xs → Each (λ x. R x y ≡ false) xs → Apart R (xs ++ y ∷ [])
apart_append R [] y h other = (refl, tt)
apart_append R (x ∷ xs) y h other = (
  any_other (R x) (xs ++ y ∷ []) (each_append (λ z. R x z ≡ false) xs (y ∷ []) (each_other (R x) xs h.0) (other.0, tt)),
  apart_append R xs y h.1 other.1,
)

-- none of the others goes with the first that passes
pub each_apart : {X : Type 0} (R : X → X → Bool) → ((a b : X) → R a b ≡ R b a) → (p : X → Bool) (xs : List X) → Apart R xs → (n : X)
    → find p xs ≡ Some n → Each (λ x. R x n ≡ false) (without_first p xs)
each_apart R swap p [] h n e = tt
each_apart {X = X} R swap p (x ∷ xs) h n e = here (λ rest. each_apart R swap p xs h.1 n rest) (p x) refl where
  here : (find p xs ≡ Some n → Each (λ x. R x n ≡ false) (without_first p xs)) → (t : Bool) → p x ≡ t
      → Each (λ x. R x n ≡ false) (without_first p (x ∷ xs))
  here later true f =
      let same : Some x ≡ Some n = rw f at e in
      let one : x ≡ n = cc in
      rw f (subst (λ (m : X). Each (λ y. R y m ≡ false) xs) one
      (each_also (λ y. R x y ≡ false) (λ y. R y x ≡ false) (λ y k. swap y x ∙ k) xs (each_other (R x) xs h.0)))
  here later false f =
      let found : find p xs ≡ Some n = rw f at e in
      rw f (each_found (λ y. R x y ≡ false) p xs (each_other (R x) xs h.0) n found, later found)

-- another test finds the same without it
pub find_without : {X : Type 0} (p q : X → Bool) (xs : List X) (n : X) → find p xs ≡ Some n → q n ≡ false → find q (without_first p xs) ≡ find q xs
find_without p q [] n e k = refl
find_without p q (x ∷ xs) n e k = here (λ rest. find_without p q xs n rest k) (p x) refl where
  here : (find p xs ≡ Some n → find q (without_first p xs) ≡ find q xs) → (t : Bool) → p x ≡ t → find q (without_first p (x ∷ xs)) ≡ find q (x ∷ xs)
  here later true f =
      let same : Some x ≡ Some n = rw f at e in
      let one : x ≡ n = cc in
      let fails : q x ≡ false = ap q one ∙ k in
      rw (f, fails) refl
  here later false f = rw f (by (q x) refl (later (rw f at e))) where
    by : (u : Bool) → q x ≡ u → find q (without_first p xs) ≡ find q xs → find q (x ∷ without_first p xs) ≡ find q (x ∷ xs)
    by true g rest = rw g refl
    by false g rest = rw g rest

-- a look-up in a list with one more item
pub find_last : {X : Type 0} (q : X → Bool) (xs : List X) (y : X) → find q xs ≡ None → q y ≡ true → find q (xs ++ y ∷ []) ≡ Some y
find_last q [] y h k = rw k refl
find_last q (x ∷ xs) y h k = here (λ rest. find_last q xs y rest k) (q x) refl where
  here : (find q xs ≡ None → find q (xs ++ y ∷ []) ≡ Some y) → (t : Bool) → q x ≡ t → find q (x ∷ xs ++ y ∷ []) ≡ Some y
  here later true e = absurd (let clash : Some x ≡ None = rw e at h in cc)
  here later false e = rw e (later (rw e at h))

pub find_still : {X : Type 0} (q : X → Bool) (xs : List X) (y x : X) → find q xs ≡ Some x → find q (xs ++ y ∷ []) ≡ Some x
find_still q [] y x h = absurd cc
find_still q (z ∷ xs) y x h = here (λ rest. find_still q xs y x rest) (q z) refl where
  here : (find q xs ≡ Some x → find q (xs ++ y ∷ []) ≡ Some x) → (t : Bool) → q z ≡ t → find q (z ∷ xs ++ y ∷ []) ≡ Some x
  here later true e = rw e (rw e at h)
  here later false e = rw e (later (rw e at h))

pub find_past : {X : Type 0} (q : X → Bool) (xs : List X) (y : X) → q y ≡ false → find q (xs ++ y ∷ []) ≡ find q xs
find_past q [] y k = rw k refl
find_past q (x ∷ xs) y k = here (q x) refl (find_past q xs y k) where
  here : (t : Bool) → q x ≡ t → find q (xs ++ y ∷ []) ≡ find q xs → find q (x ∷ xs ++ y ∷ []) ≡ find q (x ∷ xs)
  here true e rest = rw e refl
  here false e rest = rw e rest

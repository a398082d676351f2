-- Lists, and what may be refused, through a function.
use Rattle.std.proofs.Common.{◌≡◌, ℕ, zero, suc, List, [], ◌∷◌, ◌++◌, length, map, Bool, true, false, Option, Some, refl, ap, ◌∙◌}
use Rattle.std.specs.Prelude.{◌||◌, if◌then◌else◌, find, slice_get, slice_set, replicate, Ok, Err}
use Rattle.std.specs.List.{list_any}
use Rattle.scfs_model.specs.Lists.{without_first, moved_back}
use Rattle.scfs_model.specs.Walks.{OrRefusal, on_ok}
use Rattle.scfs_laws.specs.Mapped as to

module _ {X Y : Type 0} (f : X → Y) where
  pub map_append : (xs ys : List X) → map f xs ++ map f ys ≡ map f (xs ++ ys)
  map_append [] ys = refl
  map_append (x ∷ xs) ys = ap (λ rest. f x ∷ rest) (map_append xs ys)

  some_if : (b : Bool) (x : X) (rest : Option X) → (if b then Some (f x) else to.some f rest) ≡ to.some f (if b then Some x else rest)
  some_if true x rest = refl
  some_if false x rest = refl

  -- the first item that passes a test
  pub find_map : (p : Y → Bool) (xs : List X) → find p (map f xs) ≡ to.some f (find (λ x. p (f x)) xs)
  find_map p [] = refl
  find_map p (x ∷ xs) = ap (λ rest. if p (f x) then Some (f x) else rest) (find_map p xs) ∙ some_if (p (f x)) x (find (λ y. p (f y)) xs)

  without_if : (b : Bool) (x : X) (xs rest : List X) → (if b then map f xs else f x ∷ map f rest) ≡ map f (if b then xs else x ∷ rest)
  without_if true x xs rest = refl
  without_if false x xs rest = refl

  pub without_map : (p : Y → Bool) (xs : List X) → without_first p (map f xs) ≡ map f (without_first (λ x. p (f x)) xs)
  without_map p [] = refl
  without_map p (x ∷ xs) =
      ap (λ rest. if p (f x) then map f xs else f x ∷ rest) (without_map p xs) ∙ without_if (p (f x)) x xs (without_first (λ y. p (f y)) xs)

  pub any_map : (p : Y → Bool) (q : X → Bool) → ((x : X) → p (f x) ≡ q x) → (xs : List X) → list_any p (map f xs) ≡ list_any q xs
  any_map p q same [] = refl
  any_map p q same (x ∷ xs) = ap (λ b. b || list_any p (map f xs)) (same x) ∙ ap (λ rest. q x || rest) (any_map p q same xs)

  pub length_map : (xs : List X) → length (map f xs) ≡ length xs
  length_map [] = refl
  length_map (x ∷ xs) = ap (λ n. suc n) (length_map xs)

  pub get_map : (xs : List X) (i : ℕ) → slice_get (map f xs) i ≡ to.some f (slice_get xs i)
  get_map [] i = refl
  get_map (x ∷ xs) zero = refl
  get_map (x ∷ xs) (suc i) = get_map xs i

  pub set_map : (xs : List X) (i : ℕ) (x : X) → slice_set (map f xs) i (f x) ≡ map f (slice_set xs i x)
  set_map [] i x = refl
  set_map (y ∷ xs) zero x = refl
  set_map (y ∷ xs) (suc i) x = ap (λ rest. f y ∷ rest) (set_map xs i x)

  pub moved_map : (xs : List X) → moved_back (map f xs) ≡ map f (moved_back xs)
  moved_map [] = refl
  moved_map (x ∷ xs) = map_append xs (x ∷ [])

  pub replicate_map : (n : ℕ) (x : X) → map f (replicate n x) ≡ replicate n (f x)
  replicate_map zero x = refl
  replicate_map (suc n) x = ap (λ rest. f x ∷ rest) (replicate_map n x)

pub on_ok_then : {X Y Z : Type 0} (f : Y → Z) (on : X → Z) (off : X → Y) → ((x : X) → on x ≡ f (off x)) → (r : OrRefusal X)
    → on_ok on r ≡ on_ok f (on_ok off r)
on_ok_then f on off same (Ok x) = ap (λ z. Ok z) (same x)
on_ok_then f on off same (Err why) = refl

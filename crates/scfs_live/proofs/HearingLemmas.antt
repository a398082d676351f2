-- One of the real clouds is asked; and what waits at a cloud that is asked.
use Rattle.std.proofs.Common.{◌≡◌, ◌≢◌, ℕ, zero, suc, List, [], ◌∷◌, Some, refl, ap, subst, length, get_or}
use Rattle.std.specs.Prelude.{map, slice_get}
use Rattle.std.proofs.Math.ListN.{set}
use Rattle.scfs_base.specs.Limits.{names_limit}
use Rattle.scfs_base.specs.declared.cloud.CloudAnswer.{CloudAnswer}
use Rattle.scfs_base.specs.declared.cloud.CloudAnswer.TheVariants as answers
use Rattle.scfs_base.specs.declared.cloud.CloudRequest.{CloudRequest}
use Rattle.scfs_base.specs.declared.cloud.CloudRequest.TheVariants as requests
use Rattle.scfs_cloud.specs.Cutting.{IsKept}
use Rattle.scfs_schedule.specs.Grammar.{HasNames}
use Rattle.scfs_live.specs.Asked.{Told}
use Rattle.scfs_live.specs.Hearing.{AtOne}

pub has_names : (request : CloudRequest) (answer : CloudAnswer) → IsKept request answer → HasNames answer names_limit
has_names request answers.Ack kept = tt
has_names request answers.Absent kept = tt
has_names request (answers.Bytes bytes) kept = tt
has_names (requests.List prefix) (answers.Names names) kept = kept.few
has_names (requests.Put name body) (answers.Names names) kept = absurd kept
has_names (requests.Get name limit) (answers.Names names) kept = absurd kept
has_names (requests.Delete name) (answers.Names names) kept = absurd kept
has_names request answers.Fail kept = tt

map_length : {X Y : Type 0} (f : X → Y) (xs : List X) → length (map f xs) ≡ length xs
map_length f [] = refl
map_length f (x ∷ xs) = ap suc (map_length f xs)

set_length : {X Y : Type 0} (f : X → Y) (xs : List X) (d : ℕ) (y : X) → length (map f (set xs d y)) ≡ length (map f xs)
set_length f [] d y = refl
set_length f (x ∷ xs) zero y = refl
set_length f (x ∷ xs) (suc d) y = ap suc (set_length f xs d y)

set_elsewhere : {X Y : Type 0} (f : X → Y) (xs : List X) (d c : ℕ) (y : X) → c ≢ d → slice_get (map f (set xs d y)) c ≡ slice_get (map f xs) c
set_elsewhere f [] d c y other = refl
set_elsewhere f (x ∷ xs) zero zero y other = absurd (other refl)
set_elsewhere f (x ∷ xs) zero (suc c) y other = refl
set_elsewhere f (x ∷ xs) (suc d) zero y other = refl
set_elsewhere f (x ∷ xs) (suc d) (suc c) y other = set_elsewhere f xs d c y (λ same. other (ap suc same))

-- what stood there, and what stands there
set_there : {X : Type 0} (f : X → Told) (xs : List X) (d : ℕ) (z y : X) (IsSo : Told → Told → Type 0) → IsSo (f (get_or xs d z)) (f y)
    → (was is : Told) → slice_get (map f xs) d ≡ Some was → slice_get (map f (set xs d y)) d ≡ Some is → IsSo was is
set_there f [] d z y IsSo so was is left right = cc
set_there f (x ∷ xs) zero z y IsSo so was is left right =
    let old : f x ≡ was = (let e : Some (f x) ≡ Some was = left in cc) in
    let new : f y ≡ is = (let e : Some (f y) ≡ Some is = right in cc) in
    subst (λ (t : Told). IsSo was t) new (subst (λ (t : Told). IsSo t (f y)) old so)
set_there f (x ∷ xs) (suc d) z y IsSo so was is left right = set_there f xs d z y IsSo so was is left right

pub at_one_set : {X : Type 0} (f : X → Told) (xs : List X) (c d : ℕ) (z y : X) (IsSo : Told → Told → Type 0) → d ≡ c → IsSo (f (get_or xs d z)) (f y)
    → AtOne c IsSo (map f xs) (map f (set xs d y))
at_one_set f xs c d z y IsSo same so =
    subst (λ k. AtOne k IsSo (map f xs) (map f (set xs d y))) same
    (record {
      same = set_length f xs d y;
      there = set_there f xs d z y IsSo so;
      others = λ c other. set_elsewhere f xs d c y other;
    })

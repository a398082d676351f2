-- Lists that a loop fills from the front.
use Rattle.std.proofs.Common.{◌≡◌, ℕ, ◌+◌, ◌-◌, ◌<◌, ◌≤◌, List, [], ◌∷◌, ◌++◌, length, map, take, get_or, sym}
use Rattle.std.proofs.Common.{ap, ap₂, ◌∙◌, arith}
use Rattle.std.specs.Prelude.{slice_set}
use Rattle.std.specs.List.{range_with_len}
use Rattle.std.proofs.lemmas.List.{take_more, take_more_set}
use Rattle.std.proofs.lemmas.List.FromFn.{map-range_with_len_more}

-- one element more that is equal
pub one_more : (xs ys : List ℕ) (i y : ℕ) → i < length xs → i < length ys → take i xs ≡ take i ys → y ≡ get_or ys i 0
    → take (i + 1) (slice_set xs i y) ≡ take (i + 1) ys
one_more xs ys i y inside within same is =
    take_more_set xs i y inside ∙ ap₂ (λ front (last : ℕ). front ++ last ∷ []) same is ∙ sym (take_more ys i 0 within)

-- one item more, pushed
pub pushed_more : {X : Type 0} (f : ℕ → X) (items : List X) (i : ℕ) → 1 ≤ i → items ≡ map f (range_with_len 1 (i - 1))
    → items ++ f i ∷ [] ≡ map f (range_with_len 1 (i + 1 - 1))
pushed_more f items i above same =
    let again : i + 1 - 1 ≡ (i - 1) + 1 = omega arith in
    ap (λ front. front ++ f i ∷ []) same
    ∙ sym (map-range_with_len_more f 1 (i - 1) i (omega arith))
    ∙ ap (λ n. map f (range_with_len 1 n)) (sym again)

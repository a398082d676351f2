use Rattle.std.proofs.Common.{◌≡◌, ℕ, ◌-◌, List, ◌∷◌, drop, Bool, true, cond, refl, ap, ◌∙◌, suc, zero, sub-one}
use Rattle.std.specs.Prelude.{filter}

drop_one_less : {X : Type 0} (spare : ℕ) (x : X) (xs : List X) → (spare ≡ 0 → ⊥) → drop spare (x ∷ xs) ≡ drop (spare - 1) xs
drop_one_less zero x xs more = absurd (more refl)
drop_one_less (suc spare) x xs more = rw sub-one

-- one more that passes, while some are spare
pub drop_filter_more : {X : Type 0} (p : X → Bool) (spare : ℕ) (x : X) (all rest : List X)
    → all ≡ x ∷ rest → p x ≡ true → (spare ≡ 0 → ⊥) → drop spare (filter p all) ≡ drop (spare - 1) (filter p rest)
drop_filter_more p spare x all rest is passes more =
    ap (λ xs. drop spare (filter p xs)) is
    ∙ ap (λ b. drop spare (cond b (x ∷ filter p rest) (filter p rest))) passes
    ∙ drop_one_less spare x (filter p rest) more

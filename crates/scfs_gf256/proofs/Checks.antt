-- A test of every number below a bound, which the checker computes, and the fact that it stands for.
use Rattle.std.proofs.Common.{◌≡◌, ℕ, zero, suc, ◌<◌, inl, inr, Bool, true, false, ◌&&◌, refl, ap, ◌∙◌, arith}
use Rattle.std.proofs.lemmas.Bool.{cases_lt}

-- p passes at each number below n
unfoldable pub all_below : ℕ → (ℕ → Bool) → Bool
all_below zero p = true
all_below (suc n) p = p n && all_below n p

both : (a b : Bool) → (a && b) ≡ true → (a ≡ true) × (b ≡ true)
both true b h = (refl, h)
both false b h = (h, cc)

pub all_below-at : (n : ℕ) (p : ℕ → Bool) → all_below n p ≡ true → (i : ℕ) → i < n → p i ≡ true
unfolding all_below
all_below-at zero p h i l = absurd (omega arith)
all_below-at (suc n) p h i l =
    let parts = both (p n) (all_below n p) h in
    elim (cases_lt i n) [
      | inl below ↦ all_below-at n p parts.1 i below
      | inr above ↦ let e : i ≡ n = omega arith in ap p e ∙ parts.0
    ]

-- the same over two and over three numbers
pub all_below-at_two : (n : ℕ) (p : ℕ → ℕ → Bool) → all_below n (λ i. all_below n (p i)) ≡ true → (i j : ℕ) → i < n
    → j < n → p i j ≡ true
all_below-at_two n p h i j l m = all_below-at n (p i) (all_below-at n (λ i. all_below n (p i)) h i l) j m

pub all_below-at_three : (n : ℕ) (p : ℕ → ℕ → ℕ → Bool)
    → all_below n (λ i. all_below n (λ j. all_below n (p i j))) ≡ true → (i j k : ℕ) → i < n → j < n → k < n
    → p i j k ≡ true
all_below-at_three n p h i j k l m o =
    all_below-at_two n (p i) (all_below-at n (λ i. all_below n (λ j. all_below n (p i j))) h i l) j k m o

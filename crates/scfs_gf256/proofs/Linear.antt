-- Additive functions, which are known on bytes by their values at the eight powers of two.
use Rattle.std.proofs.Common.{◌≡◌, ℕ, zero, suc, ◌+◌, ◌-◌, ◌*◌, ◌^◌, ◌<◌, ◌⊎◌, inl, inr, sym, ap, ◌∙◌, arith}
use Rattle.std.proofs.Math.Nat.{pow-suc}
use Rattle.std.proofs.lemmas.Bool.{cases_lt}
use Rattle.std.specs.Int.Bits.{bit_xor, xor_comm, xor_assoc, xor_self, xor_lt, xor_zero_r, xor_shifted}

-- F of a sum is the sum of its values
abbrev pub IsAdditive : (ℕ → ℕ) → Type 0
IsAdditive F = (a b : ℕ) → F (bit_xor a b) ≡ bit_xor (F a) (F b)

-- adding twice changes nothing
pub xor_again : (a b : ℕ) → bit_xor a (bit_xor a b) ≡ b
xor_again a b = sym (xor_assoc a a b) ∙ ap (λ x. bit_xor x b) (xor_self a)

-- a sum is 0 only of equal numbers
pub same_from_xor : (a b : ℕ) → bit_xor a b ≡ 0 → a ≡ b
same_from_xor a b h = sym (xor_zero_r a) ∙ ap (bit_xor a) (sym h) ∙ xor_again a b

-- (a + b) + (c + d) = (a + c) + (b + d)
pub xor_swap : (a b c d : ℕ) → bit_xor (bit_xor a b) (bit_xor c d) ≡ bit_xor (bit_xor a c) (bit_xor b d)
xor_swap a b c d =
    xor_assoc a b (bit_xor c d)
    ∙ ap (bit_xor a) (sym (xor_assoc b c d) ∙ ap (λ x. bit_xor x d) (xor_comm b c) ∙ xor_assoc c b d)
    ∙ sym (xor_assoc a c (bit_xor b d))

pub additive-zero : (F : ℕ → ℕ) → IsAdditive F → F 0 ≡ 0
additive-zero F add = ap F (sym (xor_self 0)) ∙ add 0 0 ∙ xor_self (F 0)

-- a number below 2 ^ (n + 1) is its lower part or that with 2 ^ n
pub top_bit : (n a : ℕ) → a < 2 ^ suc n → (a < 2 ^ n) ⊎ ((b : ℕ) × (b < 2 ^ n) × (a ≡ bit_xor (2 ^ n) b))
top_bit n a h =
    elim (cases_lt a (2 ^ n)) [
      | inl l ↦ inl l
      | inr m ↦
          let double : 2 ^ suc n ≡ 2 ^ n + 2 ^ n = omega (arith, pow-suc 2 n) in
          let below : a - 2 ^ n < 2 ^ n = omega arith in
          let whole : a ≡ 1 * 2 ^ n + (a - 2 ^ n) = omega arith in
          let one : 1 * 2 ^ n ≡ 2 ^ n = omega arith in
          inr (a - 2 ^ n, below, whole ∙ sym (xor_shifted 1 n (a - 2 ^ n) below) ∙ ap (λ x. bit_xor x (a - 2 ^ n)) one)
    ]

-- additive functions that agree at the powers of two below 2 ^ n agree below 2 ^ n
pub same_below : (F G : ℕ → ℕ) → IsAdditive F → IsAdditive G → (n : ℕ) → ((i : ℕ) → i < n → F (2 ^ i) ≡ G (2 ^ i))
    → (a : ℕ) → a < 2 ^ n → F a ≡ G a
same_below F G f g zero basis a h = let e : a ≡ 0 = omega arith in ap F e ∙ additive-zero F f
    ∙ sym (additive-zero G g) ∙ ap G (sym e)
same_below F G f g (suc n) basis a h =
    let lower = same_below F G f g n (λ (i : ℕ) (l : i < n). basis i (omega arith)) in
    elim (top_bit n a h) [
      | inl l ↦ lower a l
      | inr (b, l, e) ↦ ap F e ∙ f (2 ^ n) b ∙ ap (bit_xor (F (2 ^ n))) (lower b l)
          ∙ ap (λ x. bit_xor x (G b)) (basis n (omega arith)) ∙ sym (g (2 ^ n) b) ∙ ap G (sym e)
    ]

-- an additive function whose values at the powers of two below 2 ^ n are bytes gives bytes below 2 ^ n
pub below_from_basis : (F : ℕ → ℕ) → IsAdditive F → (n : ℕ) → ((i : ℕ) → i < n → F (2 ^ i) < 256) → (a : ℕ)
    → a < 2 ^ n → F a < 256
below_from_basis F f zero basis a h =
    let e : a ≡ 0 = omega arith in
    let z : F a ≡ 0 = ap F e ∙ additive-zero F f in
    omega arith
below_from_basis F f (suc n) basis a h =
    let lower = below_from_basis F f n (λ (i : ℕ) (l : i < n). basis i (omega arith)) in
    elim (top_bit n a h) [
      | inl l ↦ lower a l
      | inr (b, l, e) ↦
          let s : F a ≡ bit_xor (F (2 ^ n)) (F b) = ap F e ∙ f (2 ^ n) b in
          let below : bit_xor (F (2 ^ n)) (F b) < 2 ^ 8 = xor_lt 8 (F (2 ^ n)) (F b) (basis n (omega arith)) (lower b l) in
          omega arith
    ]

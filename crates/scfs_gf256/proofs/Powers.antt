-- Powers and the inverse, which the product of a^2, a^4, .. and a^128 gives.
use Rattle.std.proofs.Common.{◌≡◌, ◌⊎◌, inl, inr, ℕ, zero, suc, ◌+◌, ◌-◌, ◌<◌, ◌≤◌, ◌≢◌, eqb, Bool, true, refl, sym}
use Rattle.std.proofs.Common.{ap, ap₂, ◌∙◌, arith}
use Rattle.std.proofs.lemmas.Bool.{eqb-true}
use Rattle.scfs_gf256.specs.Field.{product_of, remainder_of, times, power, inverse_of}
use Rattle.scfs_gf256.proofs.Checks.{all_below, all_below-at}
use Rattle.scfs_gf256.proofs.Times.{times_comm, times_assoc, times-lt, one-times, times-one, times-zero}

-- a (b c) = b (a c)
pub times_swap : (a b c : ℕ) → times a (times b c) ≡ times b (times a c)
times_swap a b c = sym (times_assoc a b c) ∙ ap (λ x. times x c) (times_comm a b) ∙ times_assoc b a c

pub power-lt : (a n : ℕ) → power a n < 256
unfolding power
power-lt a zero = omega arith
power-lt a (suc n) = times-lt a (power a n)

pub power-one : (a : ℕ) → a < 256 → power a 1 ≡ a
unfolding power
power-one a l = times-one a l

pub power-add : (a m n : ℕ) → times (power a m) (power a n) ≡ power a (m + n)
unfolding power
power-add a zero n = one-times (power a n) (power-lt a n) ∙ ap (power a) (plus_right n)
  where
    plus_right : (n : ℕ) → n ≡ 0 + n
    plus_right n = omega arith
power-add a (suc m) n =
    times_assoc a (power a m) (power a n) ∙ ap (times a) (power-add a m n) ∙ ap (power a) (plus_left m n)
  where
    plus_left : (m n : ℕ) → suc (m + n) ≡ suc m + n
    plus_left m n = omega arith

-- the product so far times the next n squares, one after the other
unfoldable pub squares : ℕ → ℕ → ℕ → ℕ
squares zero square product = product
squares (suc n) square product = squares n (times square square) (times product (times square square))

exponent : ℕ → ℕ → ℕ → ℕ
exponent zero m k = k
exponent (suc n) m k = exponent n (m + m) (k + (m + m))

squares-power : (a n m k : ℕ) → squares n (power a m) (power a k) ≡ power a (exponent n m k)
unfolding squares exponent
squares-power a zero m k = refl
squares-power a (suc n) m k =
    ap₂ (squares n) (power-add a m m) (ap (times (power a k)) (power-add a m m) ∙ power-add a k (m + m))
    ∙ squares-power a n (m + m) (k + (m + m))

pub inverse_of-squares : (a : ℕ) → a < 256 → squares 7 a 1 ≡ inverse_of a
unfolding inverse_of exponent power
inverse_of-squares a l = ap (λ x. squares 7 x 1) (sym (power-one a l)) ∙ squares-power a 7 1 0

-- computed for each byte but 0
inverts_at : ℕ → Bool
inverts_at i = eqb (times (suc i) (squares 7 (suc i) 1)) 1

inverts_check : all_below 255 inverts_at ≡ true
unfolding all_below inverts_at squares times product_of remainder_of
inverts_check = refl

pub times-inverse_of : (a : ℕ) → a < 256 → a ≢ 0 → times a (inverse_of a) ≡ 1
unfolding inverts_at
times-inverse_of zero l h = absurd (h refl)
times-inverse_of (suc i) l h =
    ap (times (suc i)) (sym (inverse_of-squares (suc i) l))
    ∙ eqb-true (times (suc i) (squares 7 (suc i) 1)) 1 (all_below-at 255 inverts_at inverts_check i (omega arith))

pub inverse_of-lt : (a : ℕ) → inverse_of a < 256
unfolding inverse_of
inverse_of-lt a = power-lt a 254

-- what is divided out again
pub inverse_of-times : (a b : ℕ) → a < 256 → a ≢ 0 → b < 256 → times (inverse_of a) (times a b) ≡ b
inverse_of-times a b l h m =
    sym (times_assoc (inverse_of a) a b)
    ∙ ap (λ x. times x b) (times_comm (inverse_of a) a ∙ times-inverse_of a l h)
    ∙ one-times b m

-- a factor other than 0 cancels
pub times_cancel : (a b c : ℕ) → a < 256 → a ≢ 0 → b < 256 → c < 256 → times a b ≡ times a c → b ≡ c
times_cancel a b c l h m n e =
    sym (inverse_of-times a b l h m) ∙ ap (times (inverse_of a)) e ∙ inverse_of-times a c l h n

-- there are no zero divisors
pub times-not-zero : (a b : ℕ) → a < 256 → b < 256 → a ≢ 0 → b ≢ 0 → times a b ≢ 0
times-not-zero a b l m h k e = k (times_cancel a b 0 l h m (omega arith) (e ∙ sym (times-zero a)))

-- one turn more
pub squares-turn : (n i square product : ℕ) → i < n
    → squares (n - i) square product ≡ squares (n - (i + 1)) (times square square) (times product (times square square))
unfolding squares
squares-turn n i square product l = ap (λ k. squares k square product) (one_less n i l)
  where
    one_less : (n i : ℕ) → i < n → n - i ≡ suc (n - (i + 1))
    one_less n i l = omega arith

pub squares-end : (n i square product : ℕ) → n ≤ i → squares (n - i) square product ≡ product
unfolding squares
squares-end n i square product l = ap (λ k. squares k square product) (none n i l)
  where
    none : (n i : ℕ) → n ≤ i → n - i ≡ 0
    none n i l = omega arith

pub zero_divisor : (a b : ℕ) → a < 256 → b < 256 → times a b ≡ 0 → (a ≡ 0) ⊎ (b ≡ 0)
zero_divisor zero b l m e = inl refl
zero_divisor (suc a) b l m e =
    inr (times_cancel (suc a) b 0 l (λ z. absurd (omega (arith, z))) m (omega arith) (e ∙ sym (times-zero (suc a))))

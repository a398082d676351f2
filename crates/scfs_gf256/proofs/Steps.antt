-- The steps of the program's loops.
use Rattle.std.proofs.Common.{◌≡◌, ℕ, zero, suc, ◌+◌, ◌*◌, ◌/◌, ◌%◌, ◌^◌, ◌<◌, eqb, Bool, true, List, [], ◌∷◌}
use Rattle.std.proofs.Common.{get_or, refl, sym, ap, ap₂, ◌∙◌, arith}
use Rattle.std.specs.Prelude.{reverse, bit_and}
use Rattle.std.specs.Int.{bit_at}
use Rattle.std.specs.Int.Bits.{bit_xor, xor_comm, xor_shifted}
use Rattle.std.proofs.lemmas.Bool.{eqb-true}
use Rattle.std.proofs.lemmas.Nat.{mod-pow-add, mod_below, pow_pos, and_mask}
use Rattle.std.proofs.lemmas.Nat.Bits.{bit_at-lt, shr_and_one}
use Rattle.std.specs.Prelude.{fold}
use Rattle.std.proofs.lemmas.List.{reverse-append}
use Rattle.std.proofs.lemmas.List.Sums.{fold-append}
use Rattle.scfs_gf256.specs.Polynomials.{value_of}
use Rattle.scfs_gf256.proofs.Bytes.{Bytes}
use Rattle.scfs_gf256.proofs.Values.{value_of-nil, value_of-cons}
use Rattle.scfs_gf256.specs.Field.{product_of, remainder_of, times, power}
use Rattle.scfs_gf256.proofs.Checks.{all_below, all_below-at}
use Rattle.scfs_gf256.proofs.Times.{times_assoc, times_comm, times-right, times-zero, times-one, times-lt}
use Rattle.scfs_gf256.specs.Interpolation.{from_roots}
use Rattle.scfs_gf256.proofs.Lagrange.{value_of-from_roots-nil, value_of-from_roots-cons}

-- ---- multiplication by x

doubles_at : ℕ → Bool
doubles_at a = eqb (bit_xor (a * 2 % 256) (a / 128 * 27)) (times a 2)

doubles_check : all_below 256 doubles_at ≡ true
unfolding all_below doubles_at times product_of remainder_of
doubles_check = refl

pub doubled : (a : ℕ) → a < 256 → bit_xor (a * 2 % 256) (a / 128 * 27) ≡ times a 2
unfolding doubles_at
doubled a l =
    eqb-true (bit_xor (a * 2 % 256) (a / 128 * 27)) (times a 2) (all_below-at 256 doubles_at doubles_check a l)

-- ---- multiplication bit by bit

power_of_x_at : ℕ → Bool
power_of_x_at j = eqb (power 2 j) (2 ^ j)

power_of_x_check : all_below 8 power_of_x_at ≡ true
unfolding all_below power_of_x_at power times product_of remainder_of
power_of_x_check = refl

power_of_x : (j : ℕ) → j < 8 → power 2 j ≡ 2 ^ j
unfolding power_of_x_at
power_of_x j l = eqb-true (power 2 j) (2 ^ j) (all_below-at 8 power_of_x_at power_of_x_check j l)

pub times-power_of_x : (a j : ℕ) → times (times a (power 2 j)) 2 ≡ times a (power 2 (j + 1))
unfolding power
times-power_of_x a j =
    times_assoc a (power 2 j) 2 ∙ ap (times a) (times_comm (power 2 j) 2 ∙ ap (power 2) (one_more j))
  where
    one_more : (j : ℕ) → suc j ≡ j + 1
    one_more j = omega arith

-- a bit of a factor picks the multiple
bit_picks : (a n p : ℕ) → p < 2 → times a (p * n) ≡ times a n * p
bit_picks a n zero l = let e : 0 * n ≡ 0 = omega arith in let f : times a n * 0 ≡ 0 = omega arith in ap (times a) e
    ∙ times-zero a ∙ sym f
bit_picks a n (suc zero) l = let e : 1 * n ≡ n = omega arith in let f : times a n * 1 ≡ times a n = omega arith in ap (times a) e
    ∙ sym f
bit_picks a n (suc (suc p)) l = absurd (omega arith)

pub times-next_bit : (a b j : ℕ) → j < 8
    → bit_xor (times a (b % 2 ^ j)) (times a (power 2 j) * bit_and (b / 2 ^ j) 1) ≡ times a (b % 2 ^ (j + 1))
times-next_bit a b j l =
    let low : b % 2 ^ j < 2 ^ j = mod_below b (2 ^ j) (pow_pos j) in
    let parts : b % 2 ^ (1 + j) ≡ b / 2 ^ j % 2 * 2 ^ j + b % 2 ^ j = mod-pow-add b 1 j in
    ap (bit_xor (times a (b % 2 ^ j)))
    (ap₂ (λ x y. times a x * y) (power_of_x j l) (shr_and_one b j) ∙ sym (bit_picks a (2 ^ j) (bit_at b j) (bit_at-lt b j)))
    ∙ sym (times-right a (b % 2 ^ j) (bit_at b j * 2 ^ j))
    ∙ ap (times a) (xor_comm (b % 2 ^ j) (bit_at b j * 2 ^ j) ∙ xor_shifted (bit_at b j) j (b % 2 ^ j) low ∙ sym parts ∙ ap (λ k. b % 2 ^ k) (turned j))
  where
    turned : (j : ℕ) → 1 + j ≡ j + 1
    turned j = omega arith

pub times-no_bits : (a b : ℕ) → 0 ≡ times a (b % 2 ^ 0)
times-no_bits a b = sym (ap (times a) (none b) ∙ times-zero a)
  where
    none : (b : ℕ) → b % 2 ^ 0 ≡ 0
    none b = omega arith

-- ---- Horner's rule from the last coefficient on

pub fold-horner : (x : ℕ) (cs : List ℕ) → Bytes cs
    → fold (λ value coefficient. bit_xor coefficient (times x value)) 0 (reverse cs) ≡ value_of cs x
fold-horner x [] h = sym (value_of-nil x)
fold-horner x (c ∷ cs) h =
    ap (fold (λ value coefficient. bit_xor coefficient (times x value)) 0) (reverse-append (c ∷ []) cs)
    ∙ fold-append (λ value coefficient. bit_xor coefficient (times x value)) 0 (reverse cs) (c ∷ [])
    ∙ ap (λ v. bit_xor c (times x v)) (fold-horner x cs h.1)
    ∙ sym (value_of-cons c cs x h.0)

-- ---- the product by the two halves of a byte

halves_at : ℕ → Bool
halves_at b = eqb (bit_xor (b % 16) (times 16 (b / 16))) b

halves_check : all_below 256 halves_at ≡ true
unfolding all_below halves_at times product_of remainder_of
halves_check = refl

pub times-halves : (f b : ℕ) → b < 256 → bit_xor (times f (b % 16)) (times (times f 16) (b / 16)) ≡ times f b
unfolding halves_at
times-halves f b l =
    ap (bit_xor (times f (b % 16))) (times_assoc f 16 (b / 16))
    ∙ sym (times-right f (b % 16) (times 16 (b / 16)))
    ∙ ap (times f) (eqb-true (bit_xor (b % 16) (times 16 (b / 16))) b (all_below-at 256 halves_at halves_check b l))

-- the same from a table of the products of each half
pub halves_found : (low high : List ℕ) (f sixteen b : ℕ) → b < 256 → sixteen ≡ times f 16
    → ((k : ℕ) → k < 16 → get_or low k 0 ≡ times f k) → ((k : ℕ) → k < 16 → get_or high k 0 ≡ times sixteen k)
    → bit_xor (get_or low (b % 16) 0) (get_or high (b / 16) 0) ≡ times f b
halves_found low high f sixteen b l e lows highs =
    let lower : b % 16 < 16 = omega arith in
    let upper : b / 16 < 16 = omega arith in
    ap₂ bit_xor (lows (b % 16) lower) (highs (b / 16) upper ∙ ap (λ s. times s (b / 16)) e) ∙ times-halves f b l

pub halves_looked_up : (low high : List ℕ) (f sixteen b : ℕ) → b < 256 → sixteen ≡ times f 16
    → ((k : ℕ) → k < 16 → get_or low k 0 ≡ times f k) → ((k : ℕ) → k < 16 → get_or high k 0 ≡ times sixteen k)
    → bit_xor (get_or low (bit_and b 15) 0) (get_or high (b / 16) 0) ≡ times f b
halves_looked_up low high f sixteen b l e lows highs =
    ap (λ j. bit_xor (get_or low j 0) (get_or high (b / 16) 0)) (and_mask b 4) ∙ halves_found low high f sixteen b l e lows highs

-- ---- the product of x - root

pub fold-from_roots : (x product : ℕ) (roots : List ℕ) → product < 256
    → fold (λ product root. times product (bit_xor x root)) product roots ≡ times product (value_of (from_roots roots) x)
fold-from_roots x product [] l = sym (ap (times product) (value_of-from_roots-nil x) ∙ times-one product l)
fold-from_roots x product (root ∷ roots) l =
    fold-from_roots x (times product (bit_xor x root)) roots (times-lt product (bit_xor x root))
    ∙ times_assoc product (bit_xor x root) (value_of (from_roots roots) x)
    ∙ ap (times product) (sym (value_of-from_roots-cons root roots x))

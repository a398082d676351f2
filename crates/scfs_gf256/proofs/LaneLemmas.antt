-- Look-ups in tables of sixteen bytes, 32 at once.
use Rattle.std.proofs.Common.{◌≡◌, ℕ, ◌+◌, ◌*◌, ◌/◌, ◌%◌, ◌^◌, ◌<◌, List, length, get_or, replicate, refl, sym, ap, ap₂}
use Rattle.std.proofs.Common.{◌∙◌, arith, w8, Fits, bit_and}
use Rattle.std.specs.Int.Bits.{bit_xor}
use Rattle.std.specs.Simd.Lanes.{zip2, Each1}
use Rattle.std.proofs.lemmas.Nat.{and_mask}
use Rattle.std.proofs.lemmas.Simd.{length-zip2, get_or-zip2, get_or-replicate, Each1-get_or, Each1-from_get_or}
use Rattle.std.proofs.lemmas.Simd.{swz_l, SwzOk, SwzOk-from_below, length-swz_l, get_or-swz_l_below}

-- js is 32 positions in tables of sixteen
module _ (js : List ℕ) (long : length js ≡ 32) (small : (k : ℕ) → k < 32 → get_or js k 0 < 16) where
  pub may_be_looked_up : SwzOk w8 16 32 0 js
  may_be_looked_up =
      SwzOk-from_below w8 16 2 32 0 js refl (omega arith)
      (Each1-from_get_or (λ j. j < 16) js 0 (λ i l. small i (omega arith)))

  -- what is found there, in a vector that holds the table twice
  pub looked_up_at : (table wide : List ℕ) → ((k : ℕ) → k < 32 → get_or wide k 0 ≡ get_or table (k % 16) 0)
      → (k : ℕ) → k < 32 → get_or (swz_l w8 16 wide 0 js) k 0 ≡ get_or table (get_or js k 0) 0
  looked_up_at table wide copies k l =
      let below = small k l in
      get_or-swz_l_below w8 16 wide 0 js k (omega arith) below
      ∙ copies (16 * ((0 + k) / 16) + get_or js k 0) (omega arith)
      ∙ ap (λ j. get_or table j 0) (omega arith)

abbrev pub lower_halves : List ℕ → List ℕ
lower_halves v = zip2 bit_and v (replicate 32 15)

abbrev pub upper_halves : List ℕ → List ℕ
upper_halves v = zip2 (λ a b. a / 2 ^ b) v (replicate 32 4)

-- v is 32 bytes
module _ (v : List ℕ) (long : length v ≡ 32) (bytes : Each1 (Fits w8) v) where
  lower_at : (k : ℕ) → k < 32 → get_or (lower_halves v) k 0 ≡ get_or v k 0 % 16
  lower_at k l =
      get_or-zip2 bit_and v (replicate 32 15) k 0 0 0 (omega arith) l
      ∙ ap (bit_and (get_or v k 0)) (get_or-replicate 32 k 15 0 l)
      ∙ and_mask (get_or v k 0) 4

  upper_at : (k : ℕ) → k < 32 → get_or (upper_halves v) k 0 ≡ get_or v k 0 / 16
  upper_at k l =
      get_or-zip2 (λ a b. a / 2 ^ b) v (replicate 32 4) k 0 0 0 (omega arith) l
      ∙ ap (λ b. get_or v k 0 / 2 ^ b) (get_or-replicate 32 k 4 0 l)

  length-lower : length (lower_halves v) ≡ 32
  length-lower = length-zip2 bit_and v (replicate 32 15) long ∙ long

  length-upper : length (upper_halves v) ≡ 32
  length-upper = length-zip2 (λ a b. a / 2 ^ b) v (replicate 32 4) long ∙ long

  lower_small : (k : ℕ) → k < 32 → get_or (lower_halves v) k 0 < 16
  lower_small k l = omega (arith, lower_at k l)

  upper_small : (k : ℕ) → k < 32 → get_or (upper_halves v) k 0 < 16
  upper_small k l = omega (arith, upper_at k l, (Each1-get_or (Fits w8) v k 0 (omega arith) bytes).fits)

  pub lower_ok : SwzOk w8 16 32 0 (lower_halves v)
  lower_ok = may_be_looked_up (lower_halves v) length-lower lower_small

  pub upper_ok : SwzOk w8 16 32 0 (upper_halves v)
  upper_ok = may_be_looked_up (upper_halves v) length-upper upper_small

  module _ (low high wide_low wide_high : List ℕ)
      (lows : (k : ℕ) → k < 32 → get_or wide_low k 0 ≡ get_or low (k % 16) 0)
      (highs : (k : ℕ) → k < 32 → get_or wide_high k 0 ≡ get_or high (k % 16) 0) where
    abbrev sums : List ℕ
    sums = zip2 bit_xor (swz_l w8 16 wide_low 0 (lower_halves v)) (swz_l w8 16 wide_high 0 (upper_halves v))

    long_low : length (swz_l w8 16 wide_low 0 (lower_halves v)) ≡ 32
    long_low = length-swz_l w8 16 wide_low 0 (lower_halves v) ∙ length-lower

    long_high : length (swz_l w8 16 wide_high 0 (upper_halves v)) ≡ 32
    long_high = length-swz_l w8 16 wide_high 0 (upper_halves v) ∙ length-upper

    pub length-sums : length sums ≡ 32
    length-sums = length-zip2 bit_xor _ _ (long_low ∙ sym long_high) ∙ long_low

    pub sum_at : (k : ℕ) → k < 32
        → get_or sums k 0 ≡ bit_xor (get_or low (get_or v k 0 % 16) 0) (get_or high (get_or v k 0 / 16) 0)
    sum_at k l =
        get_or-zip2 bit_xor _ _ k 0 0 0 (omega (arith, long_low)) (omega (arith, long_high))
        ∙ ap₂ bit_xor
        (looked_up_at (lower_halves v) length-lower lower_small low wide_low lows k l ∙ ap (λ j. get_or low j 0) (lower_at k l))
        (looked_up_at (upper_halves v) length-upper upper_small high wide_high highs k l ∙ ap (λ j. get_or high j 0) (upper_at k l))

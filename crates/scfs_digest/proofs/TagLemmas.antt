use Rattle.std.proofs.Common.{◌≡◌, ℕ, List, ◌++◌, length, drop, replicate, sym, ap, ◌∙◌, arith}
use Rattle.std.specs.Prelude.{bit_or, bit_xor}
use Rattle.std.specs.Int.Bits.{and_le_l, and_le_r, or_add_and, xor_add_and, xor_self, or_zero_l}
use Rattle.std.proofs.lemmas.List.{drop-replicate}
use Rattle.scfs_digest.specs.Hmac.{key_block}

-- zeros under the front that the key takes
pub key_over_zeros : (key : List ℕ) → key ++ drop (length key) (replicate 64 0) ≡ key_block key
key_over_zeros key = ap (λ zeros. key ++ zeros) (drop-replicate (length key) 64 0)

-- no bit is in either number
pub or_is_zero-left : (a b : ℕ) → bit_or a b ≡ 0 → a ≡ 0
or_is_zero-left a b none = omega (arith, or_add_and a b, and_le_l a b, and_le_r a b)

pub or_is_zero-right : (a b : ℕ) → bit_or a b ≡ 0 → b ≡ 0
or_is_zero-right a b none = omega (arith, or_add_and a b, and_le_l a b, and_le_r a b)

-- numbers that differ in no bit
pub xor_is_zero : (a b : ℕ) → bit_xor a b ≡ 0 → a ≡ b
xor_is_zero a b none = omega (arith, xor_add_and a b, and_le_l a b, and_le_r a b)

-- one more byte compared that is the same
pub nothing_differs : (d a b : ℕ) → d ≡ 0 → a ≡ b → bit_or d (bit_xor a b) ≡ 0
nothing_differs d a b none same =
    ap (λ n. bit_or n (bit_xor a b)) none ∙ or_zero_l (bit_xor a b) ∙ ap (λ n. bit_xor a n) (sym same) ∙ xor_self a

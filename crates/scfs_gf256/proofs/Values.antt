-- Values of polynomials: by Horner's rule, of sums and of multiples.
use Rattle.std.proofs.Common.{◌≡◌, ℕ, zero, suc, ◌<◌, List, [], ◌∷◌, length, replicate, refl, sym, ap, ap₂, ◌∙◌}
use Rattle.std.proofs.Common.{arith}
use Rattle.std.specs.Int.Bits.{bit_xor, xor_zero_r}
use Rattle.scfs_gf256.specs.Field.{times, power}
use Rattle.scfs_gf256.specs.Rows.{row_sum, scaled}
use Rattle.scfs_gf256.specs.Polynomials.{terms_from, value_of}
use Rattle.scfs_gf256.proofs.Linear.{xor_swap}
use Rattle.scfs_gf256.proofs.Times.{times_assoc, times-left, times-right, times-lt, times-one, times-zero, zero-times}
use Rattle.scfs_gf256.proofs.Powers.{times_swap}
use Rattle.scfs_gf256.proofs.Bytes.{xor-byte}

terms_from-suc : (j : ℕ) (c : List ℕ) (x : ℕ) → terms_from (suc j) c x ≡ times x (terms_from j c x)
unfolding terms_from power
terms_from-suc j [] x = sym (times-zero x)
terms_from-suc j (c ∷ cs) x =
    ap₂ bit_xor (times_swap c x (power x j)) (terms_from-suc (suc j) cs x)
    ∙ sym (times-right x (times c (power x j)) (terms_from (suc j) cs x))

terms_from-lt : (j : ℕ) (c : List ℕ) (x : ℕ) → terms_from j c x < 256
unfolding terms_from
terms_from-lt j [] x = omega arith
terms_from-lt j (c ∷ cs) x =
    xor-byte (times c (power x j)) (terms_from (suc j) cs x) (times-lt c (power x j)) (terms_from-lt (suc j) cs x)

pub value_of-lt : (c : List ℕ) (x : ℕ) → value_of c x < 256
unfolding value_of
value_of-lt c x = terms_from-lt 0 c x

pub value_of-nil : (x : ℕ) → value_of [] x ≡ 0
unfolding value_of terms_from
value_of-nil x = refl

-- Horner's rule
pub value_of-cons : (c : ℕ) (cs : List ℕ) (x : ℕ) → c < 256
    → value_of (c ∷ cs) x ≡ bit_xor c (times x (value_of cs x))
unfolding value_of terms_from power
value_of-cons c cs x l = ap₂ bit_xor (times-one c l) (terms_from-suc 0 cs x)

terms_from-row_sum : (j : ℕ) (c d : List ℕ) (x : ℕ) → length c ≡ length d
    → terms_from j (row_sum c d) x ≡ bit_xor (terms_from j c x) (terms_from j d x)
unfolding terms_from
terms_from-row_sum j [] [] x h = refl
terms_from-row_sum j [] (d ∷ ds) x h = cc
terms_from-row_sum j (c ∷ cs) [] x h = cc
terms_from-row_sum j (c ∷ cs) (d ∷ ds) x h =
    ap₂ bit_xor (times-left (power x j) c d) (terms_from-row_sum (suc j) cs ds x (omega arith))
    ∙ xor_swap (times c (power x j)) (times d (power x j)) (terms_from (suc j) cs x) (terms_from (suc j) ds x)

-- the value of a sum is the sum of the values
pub value_of-row_sum : (c d : List ℕ) (x : ℕ) → length c ≡ length d
    → value_of (row_sum c d) x ≡ bit_xor (value_of c x) (value_of d x)
unfolding value_of
value_of-row_sum c d x h = terms_from-row_sum 0 c d x h

terms_from-scaled : (j f : ℕ) (c : List ℕ) (x : ℕ) → terms_from j (scaled f c) x ≡ times f (terms_from j c x)
unfolding terms_from
terms_from-scaled j f [] x = sym (times-zero f)
terms_from-scaled j f (c ∷ cs) x =
    ap₂ bit_xor (times_assoc f c (power x j)) (terms_from-scaled (suc j) f cs x)
    ∙ sym (times-right f (times c (power x j)) (terms_from (suc j) cs x))

-- the value of a multiple is that multiple of the value
pub value_of-scaled : (f : ℕ) (c : List ℕ) (x : ℕ) → value_of (scaled f c) x ≡ times f (value_of c x)
unfolding value_of
value_of-scaled f c x = terms_from-scaled 0 f c x

terms_from-replicate : (j n x : ℕ) → terms_from j (replicate n 0) x ≡ 0
unfolding terms_from
terms_from-replicate j zero x = refl
terms_from-replicate j (suc n) x = ap₂ bit_xor (zero-times (power x j)) (terms_from-replicate (suc j) n x)

pub value_of-replicate : (n x : ℕ) → value_of (replicate n 0) x ≡ 0
unfolding value_of
value_of-replicate n x = terms_from-replicate 0 n x

pub value_of-at_zero : (c : ℕ) (cs : List ℕ) → c < 256 → value_of (c ∷ cs) 0 ≡ c
value_of-at_zero c cs l = value_of-cons c cs 0 l ∙ ap (bit_xor c) (zero-times (value_of cs 0)) ∙ xor_zero_r c

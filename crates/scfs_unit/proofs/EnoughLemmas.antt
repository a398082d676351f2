-- When pieces that were gathered one by one are enough.
use Rattle.std.proofs.Common.{◌≡◌, ℕ, zero, suc, ◌+◌, ◌<◌, ◌≤◌, List, [], ◌∷◌, length, sym, ap, ◌∙◌, subst, arith}
use Rattle.std.specs.List.{All, range_with_len}
use Rattle.std.proofs.lemmas.List.{length-map}
use Rattle.std.proofs.lemmas.List.FromFn.{length-range_with_len, get_or-range_with_len}
use Rattle.scfs_gf256.specs.Polynomials.{AreDistinct}
use Rattle.scfs_unit.specs.declared.pieces.KeptPiece.{KeptPiece}
use Rattle.scfs_unit.specs.Checking.{IsPiece}
use Rattle.scfs_unit.specs.Unsealing.{clouds_of, length_of, AreEnough}

-- pieces of these clouds, each of its form and of this length
pub record AreGathered (f size : ℕ) (clouds : List ℕ) (pieces : List KeptPiece) : Type 0 where
  pub clouds_are : clouds_of pieces ≡ clouds
  pub each : All (IsPiece f) pieces
  pub sizes : All (λ piece. piece.length ≡ size) pieces

length_of-gathered : (size : ℕ) (pieces : List KeptPiece) → 0 < length pieces → All (λ piece. piece.length ≡ size) pieces
    → length_of pieces ≡ size
length_of-gathered size [] l sizes = absurd (omega arith)
length_of-gathered size (piece ∷ pieces) l sizes = sizes 0 piece (omega arith)

pub AreEnough-gathered : (f size : ℕ) (clouds : List ℕ) (pieces : List KeptPiece) → AreGathered f size clouds pieces
    → length clouds ≡ f + 1 → AreDistinct clouds → size ≤ 1048576 → AreEnough f pieces
AreEnough-gathered f size clouds pieces gathered count different small =
    let cloud : KeptPiece → ℕ = λ piece. piece.cloud in
    let as_many : length pieces ≡ f + 1 =
    sym (length-map pieces cloud) ∙ ap length gathered.clouds_are ∙ count in
    let whole : length_of pieces ≡ size = length_of-gathered size pieces (omega arith) gathered.sizes in
    record {
      as_many = as_many;
      different = subst AreDistinct (sym gathered.clouds_are) different;
      each = gathered.each;
      one_length = λ k d l. gathered.sizes k d l ∙ sym whole;
      small = omega (arith, whole);
    }

-- ---- clouds written out

pub distinct_two : (a b : ℕ) → a < b → AreDistinct (a ∷ b ∷ [])
distinct_two a b l zero zero d m k e = omega arith
distinct_two a b l zero (suc zero) d m k e = omega arith
distinct_two a b l zero (suc (suc j)) d m k e = omega arith
distinct_two a b l (suc i) j d m k e = omega arith

pub below_two : (a b n : ℕ) → a < n → b < n → All (λ cloud. cloud < n) (a ∷ b ∷ [])
below_two a b n l m zero d k = l
below_two a b n l m (suc zero) d k = m
below_two a b n l m (suc (suc i)) d k = absurd (omega arith)

pub distinct_range : (from n : ℕ) → AreDistinct (range_with_len from n)
distinct_range from n i j d l m e =
    let within : j < n = omega (arith, length-range_with_len from n) in
    let first = get_or-range_with_len from n i d (omega arith) in
    let second = get_or-range_with_len from n j d within in
    omega (arith, first, second, e)

pub below_range : (from n bound : ℕ) → from + n ≤ bound → All (λ cloud. cloud < bound) (range_with_len from n)
below_range from n bound le k d l =
    let within : k < n = omega (arith, length-range_with_len from n) in
    omega (arith, get_or-range_with_len from n k d within)

-- Lagrange's interpolation: the coefficients that fit points, and the factors by which their values count elsewhere.
use Rattle.std.specs.Prelude.{ℕ, List, [], ◌∷◌, ◌++◌, length, replicate, slice_set, bit_xor}
use Rattle.scfs_gf256.specs.Field.{times, inverse_of}
use Rattle.scfs_gf256.specs.Rows.{row_sum, scaled}
use Rattle.scfs_gf256.specs.Polynomials.{value_of}

-- the coefficients of (x - root) times a polynomial, whose coefficient of the next lower power is `lower`
unfoldable pub times_root : ℕ → ℕ → List ℕ → List ℕ
times_root root lower [] = lower ∷ []
times_root root lower (c ∷ cs) = bit_xor lower (times root c) ∷ times_root root c cs

-- the coefficients of the product of x - root over all roots
unfoldable pub from_roots : List ℕ → List ℕ
from_roots [] = 1 ∷ []
from_roots (root ∷ roots) = times_root root 0 (from_roots roots)

-- the coefficients of the polynomial that is 1 at a place and 0 at the others
unfoldable pub lagrange_basis : List ℕ → ℕ → List ℕ
lagrange_basis others place = scaled (inverse_of (value_of (from_roots others) place)) (from_roots others)

-- the coefficients of the sum, over the places after `before`, of these polynomials, each times the value at its place
unfoldable pub lagrange_sum : List ℕ → List ℕ → List ℕ → List ℕ
lagrange_sum before [] ys = replicate (length before) 0
lagrange_sum before (x ∷ after) [] = replicate (length (before ++ x ∷ after)) 0
lagrange_sum before (x ∷ after) (y ∷ ys) =
    row_sum (scaled y (lagrange_basis (before ++ after) x)) (lagrange_sum (before ++ x ∷ []) after ys)

-- the coefficients that fit the values ys at the distinct places xs
unfoldable pub coefficients_of : List ℕ → List ℕ → List ℕ
coefficients_of xs ys = lagrange_sum [] xs ys

-- the value at x of the polynomial of each place after `before`
unfoldable pub factors_after : List ℕ → List ℕ → ℕ → List ℕ
factors_after before [] x = []
factors_after before (place ∷ after) x =
    value_of (lagrange_basis (before ++ after) place) x ∷ factors_after (before ++ place ∷ []) after x

-- the factors by which the values at the places xs count for the value at x
unfoldable pub lagrange_factors : List ℕ → ℕ → List ℕ
lagrange_factors xs x = factors_after [] xs x

-- n values, of which that at one place is 1 and all others are 0
abbrev pub unit_values : ℕ → ℕ → List ℕ
unit_values n place = slice_set (replicate n 0) place 1

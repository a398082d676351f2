-- Polynomials over the field, each the list of its coefficients with that of x^j at place j, and their values.
use Rattle.std.specs.Prelude.{◌≡◌, ◌≢◌, ℕ, suc, ◌<◌, List, [], ◌∷◌, map, length, bit_xor}
use Rattle.std.specs.List.{All, AllPairs}
use Rattle.scfs_gf256.specs.Field.{times, power}

-- the sum of c_j x^j over the coefficients from that of the power j on
unfoldable pub terms_from : ℕ → List ℕ → ℕ → ℕ
terms_from j [] x = 0
terms_from j (c ∷ cs) x = bit_xor (times c (power x j)) (terms_from (suc j) cs x)

-- the value at x of the polynomial with these coefficients: the sum of c_j x^j over all j
unfoldable pub value_of : List ℕ → ℕ → ℕ
value_of c x = terms_from 0 c x

-- each number is from 0 to 255
abbrev pub AreBytes : List ℕ → Type 0
AreBytes xs = All (λ x. x < 256) xs

-- no number occurs twice
abbrev pub AreDistinct : List ℕ → Type 0
AreDistinct xs = AllPairs (λ a b. a ≢ b) xs

-- the polynomial c takes each of the values ys at its place in xs
abbrev pub Fits : List ℕ → List ℕ → List ℕ → Type 0
Fits c xs ys = map (value_of c) xs ≡ ys

-- c is as many bytes as there are points, and fits them
pub record IsFit (c xs ys : List ℕ) : Type 0 where
  pub as_many : length c ≡ length xs
  pub bytes : AreBytes c
  pub fits : Fits c xs ys

-- c is the only such list
pub record IsOnlyFit (c xs ys : List ℕ) : Type 0 where
  pub fit : IsFit c xs ys
  pub only : (d : List ℕ) → IsFit d xs ys → d ≡ c

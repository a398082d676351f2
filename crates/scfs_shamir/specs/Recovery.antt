-- What some of the shares of a key tell.
use Rattle.std.specs.Prelude.{◌≡◌, ℕ, ◌+◌, ◌*◌, ◌≤◌, List, ◌∷◌, map, length, replicate, drop, slice_index}
use Rattle.std.specs.List.{All, Contains}
use Rattle.scfs_base.specs.declared.naming.Coefficients.{Coefficients}
use Rattle.scfs_gf256.specs.Polynomials.{value_of, AreBytes}
use Rattle.scfs_gf256.specs.Interpolation.{coefficients_of}
use Rattle.scfs_shamir.specs.declared.sharing.Share.{Share}
use Rattle.scfs_shamir.specs.Shares.{each_byte, shares_of}

-- the points of the shares
abbrev pub points_of : List Share → List ℕ
points_of shares = map (λ share. share.point) shares

-- the byte that each share has at a place
abbrev pub bytes_at : List Share → ℕ → List ℕ
bytes_at shares place = map (λ share. slice_index share.bytes place) shares

-- the only polynomial of as many coefficients as there are shares that has, at the point of each, its byte at a place
abbrev pub joining_polynomial : List Share → ℕ → List ℕ
joining_polynomial shares place = coefficients_of (points_of shares) (bytes_at shares place)

-- a byte of the joined key is its value at 0
abbrev pub joined_byte : List Share → ℕ → ℕ
joined_byte shares place = value_of (joining_polynomial shares place) 0

-- the joined key
abbrev pub joined : List Share → List ℕ
joined shares = each_byte (joined_byte shares)

-- the only polynomial that has a byte of the key at 0 and that byte of each share at its point
abbrev pub fitted_polynomial : List Share → List ℕ → ℕ → List ℕ
fitted_polynomial shares key place =
    coefficients_of (0 ∷ points_of shares) (slice_index key place ∷ bytes_at shares place)

-- the point of one of 3f + 1 shares
pub record IsPoint (f point : ℕ) : Type 0 where
  pub first : 1 ≤ point
  pub last : point ≤ 3 * f + 1

-- a row of 32 bytes
pub record IsRow (row : List ℕ) : Type 0 where
  pub long : length row ≡ 32
  pub bytes : AreBytes row

-- a share by its form: of a point, with 32 bytes
pub record IsShare (f : ℕ) (share : Share) : Type 0 where
  pub point : IsPoint f share.point
  pub row : IsRow share.bytes

-- coefficients of three powers, each a row of 32 bytes
pub record AreRows (coefficients : Coefficients) : Type 0 where
  pub three : length coefficients.rows ≡ 3
  pub each : All IsRow coefficients.rows

-- the rows from f on are zero
abbrev pub IsOfDegree : ℕ → Coefficients → Type 0
IsOfDegree f coefficients = All (λ row. row ≡ replicate 32 0) (drop f coefficients.rows)

-- each of these shares is one of those into which the key is split under these coefficients
abbrev pub AreSharesOf : ℕ → List ℕ → Coefficients → List Share → Type 0
AreSharesOf f key coefficients shares = All (Contains (shares_of f key coefficients)) shares

-- under these coefficients, whose rows from f on are zero, and under no others, the split of the key gives these shares
pub record IsOnlySharing (f : ℕ) (key : List ℕ) (shares : List Share) (coefficients : Coefficients) : Type 0 where
  pub rows : AreRows coefficients
  pub degree : IsOfDegree f coefficients
  pub gives : AreSharesOf f key coefficients shares
  pub only : (other : Coefficients) → AreRows other → IsOfDegree f other → AreSharesOf f key other shares
      → other ≡ coefficients

-- The shares of a key (Shamir 1979).
use Rattle.std.specs.Prelude.{ℕ, ◌+◌, ◌*◌, List, ◌∷◌, map, take}
use Rattle.std.specs.List.{range_with_len}
use Rattle.scfs_base.specs.declared.naming.Coefficients.{Coefficients}
use Rattle.scfs_gf256.specs.Polynomials.{value_of}
use Rattle.scfs_gf256.specs.Rows.{column_of}
use Rattle.scfs_shamir.specs.declared.sharing.Share.{Share}

-- the 32 bytes that a rule gives for the places 0 to 31
unfoldable pub each_byte : (ℕ → ℕ) → List ℕ
each_byte rule = map rule (range_with_len 0 32)

-- the polynomial of one byte of the key: that byte, then the byte at its place of each of the first f rows
abbrev pub polynomial_of : ℕ → List ℕ → Coefficients → ℕ → List ℕ
polynomial_of f key coefficients place = take (f + 1) (column_of (key ∷ coefficients.rows) place)

-- a byte of the share of the point x is the value at x
abbrev pub share_byte : ℕ → List ℕ → Coefficients → ℕ → ℕ → ℕ
share_byte f key coefficients x place = value_of (polynomial_of f key coefficients place) x

-- the bytes of the share of the point x
abbrev pub share_bytes : ℕ → List ℕ → Coefficients → ℕ → List ℕ
share_bytes f key coefficients x = each_byte (share_byte f key coefficients x)

-- the share of the point x
abbrev pub share_of : ℕ → List ℕ → Coefficients → ℕ → Share
share_of f key coefficients x = record { point = x; bytes = share_bytes f key coefficients x }

-- the shares of the points 1 to 3f + 1
abbrev pub shares_of : ℕ → List ℕ → Coefficients → List Share
shares_of f key coefficients = map (share_of f key coefficients) (range_with_len 1 (3 * f + 1))

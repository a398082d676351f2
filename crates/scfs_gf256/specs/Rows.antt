-- Rows of bytes: their sum, a row times a factor, and sums of several rows, each with its factor.
use Rattle.std.specs.Prelude.{ℕ, List, [], ◌∷◌, map, slice_index, bit_xor}
use Rattle.scfs_gf256.specs.Field.{times}

-- two rows added place by place
abbrev pub row_sum : List ℕ → List ℕ → List ℕ
row_sum [] ys = []
row_sum (a ∷ xs) [] = []
row_sum (a ∷ xs) (b ∷ ys) = bit_xor a b ∷ row_sum xs ys

-- each byte of a row times a factor
abbrev pub scaled : ℕ → List ℕ → List ℕ
scaled factor row = map (times factor) row

-- the sum of the bytes, each times the factor at its place
abbrev pub dot_product : List ℕ → List ℕ → ℕ
dot_product [] ys = 0
dot_product (f ∷ fs) [] = 0
dot_product (f ∷ fs) (b ∷ ys) = bit_xor (times f b) (dot_product fs ys)

-- a row with each of several rows added to it, times the factor at its place
abbrev pub add_multiples : List ℕ → List ℕ → List (List ℕ) → List ℕ
add_multiples start [] rows = start
add_multiples start (f ∷ fs) [] = start
add_multiples start (f ∷ fs) (row ∷ rows) = add_multiples (row_sum start (scaled f row)) fs rows

-- the bytes that stand at one place of several rows
abbrev pub column_of : List (List ℕ) → ℕ → List ℕ
column_of rows place = map (λ row. slice_index row place) rows

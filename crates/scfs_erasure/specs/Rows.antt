-- Contents as rows of bytes, and further rows on the polynomials through their columns.
use Rattle.std.specs.Prelude.{ℕ, ◌+◌, ◌-◌, ◌*◌, List, ◌++◌, map, length, take, drop, replicate}
use Rattle.std.specs.Int.{div_ceil}
use Rattle.std.specs.List.{range_with_len}
use Rattle.scfs_gf256.specs.Rows.{column_of}
use Rattle.scfs_gf256.specs.Polynomials.{value_of}
use Rattle.scfs_gf256.specs.Interpolation.{coefficients_of}

-- the numbers 0 to n - 1
abbrev pub numbers_below : ℕ → List ℕ
numbers_below n = range_with_len 0 n

-- how many bytes each of the f+1 rows of contents of this length has: a part of f+1, rounded up
unfoldable pub row_length : ℕ → ℕ → ℕ
row_length f size = div_ceil size (f + 1)

-- the contents with zeros behind them that fill the f+1 rows
unfoldable pub filled : ℕ → List ℕ → List ℕ
filled f contents = contents ++ replicate ((f + 1) * row_length f (length contents) - length contents) 0

-- the f+1 rows of the contents: row j has the bytes of the filled contents from j times the rows' length on
unfoldable pub rows_of : ℕ → List ℕ → List (List ℕ)
rows_of f contents =
    let size = row_length f (length contents) in
    map (λ j. take size (drop (j * size) (filled f contents))) (numbers_below (f + 1))

-- a further row of `size` bytes: in each column the value at x of the one polynomial with as many coefficients as there
-- are rows whose values at these places are the column's bytes
unfoldable pub row_at : List ℕ → List (List ℕ) → ℕ → ℕ → List ℕ
row_at places rows size x = map (λ k. value_of (coefficients_of places (column_of rows k)) x) (numbers_below size)

-- the piece i of f+1 rows of `size` bytes: the rows are the values at the places 0 to f
abbrev pub piece_of_rows : ℕ → ℕ → List (List ℕ) → ℕ → List ℕ
piece_of_rows f size rows i = row_at (numbers_below (f + 1)) rows size i

-- the piece i of contents
unfoldable pub piece : ℕ → List ℕ → ℕ → List ℕ
piece f contents i = piece_of_rows f (row_length f (length contents)) (rows_of f contents) i

-- Numbered blocks: those of contents, and the rows that f+1 of them are the pieces of.
use Rattle.std.specs.Prelude.{◌≡◌, ℕ, ◌+◌, ◌*◌, ◌<◌, List, [], ◌∷◌, map, length, take}
use Rattle.std.specs.List.{All, Contains, concat}
use Rattle.scfs_gf256.specs.Polynomials.{AreBytes, AreDistinct}
use Rattle.scfs_erasure.specs.declared.block.Block.{Block}
use Rattle.scfs_erasure.specs.Rows.{numbers_below, row_length, row_at, piece_of_rows, piece}

-- the block i of contents: their piece i under its number
unfoldable pub block_of : ℕ → List ℕ → ℕ → Block
block_of f contents i = record { number = i; bytes = piece f contents i }

-- the n = 3f+1 blocks of contents
abbrev pub blocks_of : ℕ → List ℕ → List Block
blocks_of f contents = map (block_of f contents) (numbers_below (3 * f + 1))

-- the numbers of blocks
abbrev pub numbers_of : List Block → List ℕ
numbers_of blocks = map (λ block. block.number) blocks

-- the bytes of blocks
abbrev pub bytes_of : List Block → List (List ℕ)
bytes_of blocks = map (λ block. block.bytes) blocks

-- how many bytes the first block has
abbrev pub size_of : List Block → ℕ
size_of [] = 0
size_of (block ∷ blocks) = length block.bytes

-- f+1 blocks of different numbers below n = 3f+1, each of `size` bytes
pub record AreEnough (f size : ℕ) (blocks : List Block) : Type 0 where
  pub as_many : length blocks ≡ f + 1
  pub different : AreDistinct (numbers_of blocks)
  pub below : All (λ block. block.number < 3 * f + 1) blocks
  pub long : All (λ block. length block.bytes ≡ size) blocks

-- f+1 blocks of different numbers, all of them blocks of the contents
pub record AreSomeOf (f : ℕ) (contents : List ℕ) (blocks : List Block) : Type 0 where
  pub as_many : length blocks ≡ f + 1
  pub different : AreDistinct (numbers_of blocks)
  pub among : All (Contains (blocks_of f contents)) blocks

-- f+1 rows of `size` bytes, of which each block is the piece of its number
pub record AreRows (f size : ℕ) (blocks : List Block) (rows : List (List ℕ)) : Type 0 where
  pub as_many : length rows ≡ f + 1
  pub long : All (λ row. length row ≡ size) rows
  pub bytes : All AreBytes rows
  pub pieces : All (λ block. block.bytes ≡ piece_of_rows f size rows block.number) blocks

-- the only such rows
pub record AreOnlyRows (f size : ℕ) (blocks : List Block) (rows : List (List ℕ)) : Type 0 where
  pub given : AreRows f size blocks rows
  pub only : (others : List (List ℕ)) → AreRows f size blocks others → others ≡ rows

-- the rows that f+1 blocks of `size` bytes are the pieces of: row j is the value at j of the polynomials through them
unfoldable pub rows_from : ℕ → ℕ → List Block → List (List ℕ)
rows_from f size blocks = map (row_at (numbers_of blocks) (bytes_of blocks) size) (numbers_below (f + 1))

-- contents of this length, from f+1 of their blocks: the first bytes of the rows, one after the other
abbrev pub contents_from : ℕ → ℕ → List Block → List ℕ
contents_from f size blocks = take size (concat (rows_from f (row_length f size) blocks))

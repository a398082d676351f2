-- Blocks and the rows that they are the pieces of.
use Rattle.std.proofs.Common.{◌≡◌, ℕ, ◌+◌, ◌*◌, ◌<◌, ◌≤◌, List, [], ◌∷◌, length, map, get_or, refl, sym}
use Rattle.std.proofs.Common.{ap, ap₂, ◌∙◌, arith, subst}
use Rattle.std.specs.List.{All, concat}
use Rattle.std.proofs.lemmas.List.{ext_get_or, get_or-map, length-map}
use Rattle.std.proofs.lemmas.List.FromFn.{length-range_with_len, get_or-range_with_len, length-map-range_with_len}
use Rattle.std.proofs.lemmas.List.FromFn.{get_or-map-range_with_len}
use Rattle.scfs_gf256.specs.Polynomials.{AreBytes, AreDistinct}
use Rattle.scfs_erasure.specs.declared.block.Block.{Block}
use Rattle.scfs_erasure.specs.Rows.{numbers_below, row_at, piece_of_rows}
use Rattle.scfs_erasure.specs.Blocks.{numbers_of, bytes_of, AreEnough, AreRows, AreOnlyRows, rows_from}
use Rattle.scfs_erasure.proofs.RowLemmas.{length-row_at, AreBytes-row_at, row_at-given, map-row_at-given}
use Rattle.scfs_erasure.proofs.RowLemmas.{row_at-elsewhere}

-- some block, where a list has none
abbrev pub no_block : Block
no_block = record { number = 0; bytes = [] }

-- ---- the numbers below n

pub AreBytes-numbers_below : (n : ℕ) → n ≤ 256 → AreBytes (numbers_below n)
AreBytes-numbers_below n le k d l =
    let within : k < n = omega (arith, length-range_with_len 0 n) in omega (arith, get_or-range_with_len 0 n k d within)

pub AreDistinct-numbers_below : (n : ℕ) → AreDistinct (numbers_below n)
AreDistinct-numbers_below n i j d less l =
    let later : j < n = omega (arith, length-range_with_len 0 n) in
    let earlier : i < n = omega arith in
    let first = get_or-range_with_len 0 n i d earlier in
    let second = get_or-range_with_len 0 n j d later in
    λ e. absurd (omega (arith, sym first ∙ e ∙ second))

-- ---- numbers and bytes of blocks

pub get_or-bytes_of : (blocks : List Block) (i : ℕ) (d : Block) (e : List ℕ) → i < length blocks
    → get_or (bytes_of blocks) i e ≡ (get_or blocks i d).bytes
get_or-bytes_of blocks i d e l = get_or-map (λ (b : Block). b.bytes) blocks i d e l

pub get_or-numbers_of : (blocks : List Block) (i : ℕ) (d : Block) (e : ℕ) → i < length blocks
    → get_or (numbers_of blocks) i e ≡ (get_or blocks i d).number
get_or-numbers_of blocks i d e l = get_or-map (λ (b : Block). b.number) blocks i d e l

pub length-bytes_of : (blocks : List Block) → length (bytes_of blocks) ≡ length blocks
length-bytes_of blocks = length-map blocks (λ (b : Block). b.bytes)

pub length-numbers_of : (blocks : List Block) → length (numbers_of blocks) ≡ length blocks
length-numbers_of blocks = length-map blocks (λ (b : Block). b.number)

-- what holds of the bytes of each block holds of each of the rows
pub All-bytes_of : (P : List ℕ → Type 0) (blocks : List Block) → All (λ block. P block.bytes) blocks
    → All P (bytes_of blocks)
All-bytes_of P blocks h i d l =
    let within : i < length blocks = omega (arith, length-bytes_of blocks) in
    subst P (sym (get_or-bytes_of blocks i no_block d within)) (h i no_block within)

pub AreBytes-numbers_of : (f size : ℕ) (blocks : List Block) → 3 * f + 1 ≤ 256 → AreEnough f size blocks
    → AreBytes (numbers_of blocks)
AreBytes-numbers_of f size blocks few enough i d l =
    let within : i < length blocks = omega (arith, length-numbers_of blocks) in
    let below = enough.below i no_block within in
    omega (arith, get_or-numbers_of blocks i no_block d within)

-- ---- the rows of which blocks are the pieces

-- a piece of these rows is what the polynomials through the blocks have at its number
pub piece_of_rows-rows_from : (f size : ℕ) (blocks : List Block) (x : ℕ) → 3 * f + 1 ≤ 256 → AreEnough f size blocks
    → piece_of_rows f size (rows_from f size blocks) x ≡ row_at (numbers_of blocks) (bytes_of blocks) size x
unfolding rows_from
piece_of_rows-rows_from f size blocks x few enough =
    let numbers = numbers_of blocks in
    row_at-elsewhere numbers (numbers_below (f + 1)) (bytes_of blocks) size x
    (AreBytes-numbers_below (f + 1) (omega arith)) (AreDistinct-numbers_below (f + 1))
    (length-numbers_of blocks ∙ sym (length-bytes_of blocks))
    (length-numbers_of blocks ∙ enough.as_many ∙ sym (length-range_with_len 0 (f + 1)))

-- the row at j of rows that some function of the numbers gives
get_or-rows : (g : ℕ → List ℕ) (n i : ℕ) (d : List ℕ) → i < length (map g (numbers_below n))
    → get_or (map g (numbers_below n)) i d ≡ g i
get_or-rows g n i d l =
    get_or-map-range_with_len g 0 n i i d (omega (arith, length-map-range_with_len g 0 n)) (omega arith)

AreRows-rows_from : (f size : ℕ) (blocks : List Block) → 3 * f + 1 ≤ 256 → AreEnough f size blocks
    → All (λ block. AreBytes block.bytes) blocks → AreRows f size blocks (rows_from f size blocks)
unfolding rows_from
AreRows-rows_from f size blocks few enough bytes =
    record {
      as_many = as_many f size blocks;
      long = each f size blocks (λ row. length row ≡ size) (λ x. length-row_at (numbers_of blocks) (bytes_of blocks) size x);
      bytes = each f size blocks AreBytes (λ x. AreBytes-row_at (numbers_of blocks) (bytes_of blocks) size x);
      pieces = λ i d l.
          let numbers = numbers_of blocks in
          let rows = bytes_of blocks in
          let block = get_or blocks i d in
          sym (get_or-bytes_of blocks i d [] l)
          ∙ row_at-given numbers rows size i (AreBytes-numbers_of f size blocks few enough) enough.different
          (length-numbers_of blocks ∙ sym (length-bytes_of blocks))
          (All-bytes_of (λ row. length row ≡ size) blocks enough.long) (All-bytes_of AreBytes blocks bytes)
          (omega (arith, length-bytes_of blocks))
          ∙ ap (row_at numbers rows size) (get_or-numbers_of blocks i d 0 l)
          ∙ sym (piece_of_rows-rows_from f size blocks block.number few enough);
    }
  where
    as_many : (f size : ℕ) (blocks : List Block) → length (rows_from f size blocks) ≡ f + 1
    as_many f size blocks = length-map-range_with_len (row_at (numbers_of blocks) (bytes_of blocks) size) 0 (f + 1)

    each : (f size : ℕ) (blocks : List Block) (P : List ℕ → Type 0) → ((x : ℕ) → P (row_at (numbers_of blocks) (bytes_of blocks) size x))
        → All P (rows_from f size blocks)
    each f size blocks P h i d l =
        subst P (sym (get_or-rows (row_at (numbers_of blocks) (bytes_of blocks) size) (f + 1) i d l)) (h i)

-- rows of which the blocks are the pieces are these rows
pub rows_from-only : (f size : ℕ) (blocks : List Block) (rows : List (List ℕ)) → 3 * f + 1 ≤ 256
    → AreEnough f size blocks → AreRows f size blocks rows → rows ≡ rows_from f size blocks
unfolding rows_from
rows_from-only f size blocks rows few enough are =
    let numbers = numbers_of blocks in
    let first = numbers_below (f + 1) in
    let placed = AreBytes-numbers_below (f + 1) (omega arith) in
    let apart = AreDistinct-numbers_below (f + 1) in
    let as_many : length first ≡ length rows = length-range_with_len 0 (f + 1) ∙ sym are.as_many in
    let given : map (row_at first rows size) numbers ≡ bytes_of blocks =
    ext_get_or [] (map (row_at first rows size) numbers) (bytes_of blocks)
    (length-map numbers (row_at first rows size) ∙ length-numbers_of blocks ∙ sym (length-bytes_of blocks))
    (λ i l.
    let inside : i < length numbers = omega (arith, length-map numbers (row_at first rows size)) in
    let within : i < length blocks = omega (arith, length-numbers_of blocks) in
    get_or-map (row_at first rows size) numbers i 0 [] inside
    ∙ ap (row_at first rows size) (get_or-numbers_of blocks i no_block 0 within)
    ∙ sym (are.pieces i no_block within) ∙ sym (get_or-bytes_of blocks i no_block [] within)) in
    let elsewhere : (x : ℕ) → row_at numbers (bytes_of blocks) size x ≡ row_at first rows size x =
    λ x. ap (λ rows. row_at numbers rows size x) (sym given)
    ∙ row_at-elsewhere first numbers rows size x (AreBytes-numbers_of f size blocks few enough) enough.different as_many
    (length-range_with_len 0 (f + 1) ∙ sym enough.as_many ∙ sym (length-numbers_of blocks)) in
    sym (map-row_at-given first rows size placed apart as_many are.long are.bytes)
    ∙ map-same (row_at first rows size) (row_at numbers (bytes_of blocks) size) first (λ x. sym (elsewhere x))
  where
    map-same : (g h : ℕ → List ℕ) (xs : List ℕ) → ((x : ℕ) → g x ≡ h x) → map g xs ≡ map h xs
    map-same g h [] same = refl
    map-same g h (x ∷ xs) same = ap₂ (λ (r : List ℕ) (rs : List (List ℕ)). r ∷ rs) (same x) (map-same g h xs same)

pub AreOnlyRows-rows_from : (f size : ℕ) (blocks : List Block) → 3 * f + 1 ≤ 256 → AreEnough f size blocks
    → All (λ block. AreBytes block.bytes) blocks → AreOnlyRows f size blocks (rows_from f size blocks)
AreOnlyRows-rows_from f size blocks few enough bytes =
    record {
      given = AreRows-rows_from f size blocks few enough bytes;
      only = λ rows are. rows_from-only f size blocks rows few enough are;
    }

-- the rows as they are found one after the other
pub joined-rows_from : (f size long n : ℕ) (blocks : List Block) → size ≡ long → n ≡ f + 1
    → concat (map (row_at (numbers_of blocks) (bytes_of blocks) size) (numbers_below n))
    ≡ concat (rows_from f long blocks)
unfolding rows_from
joined-rows_from f size long n blocks same end =
    ap₂ (λ (size n : ℕ). concat (map (row_at (numbers_of blocks) (bytes_of blocks) size) (numbers_below n))) same end

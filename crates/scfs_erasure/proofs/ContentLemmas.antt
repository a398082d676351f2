-- Contents as rows, and their blocks.
use Rattle.std.proofs.Common.{◌≡◌, ℕ, zero, suc, ◌+◌, ◌-◌, ◌*◌, ◌<◌, ◌≤◌, min, List, [], ◌∷◌, ◌++◌, length, map, take}
use Rattle.std.proofs.Common.{drop, get_or, replicate, refl, sym, ap, ap₂, ◌∙◌, arith, subst, mul_comm, add-one, suc-mul}
use Rattle.std.proofs.Common.{zero-mul, mul-le-mul_right, le_refl, zero-add}
use Rattle.std.specs.Int.{div_ceil}
use Rattle.std.specs.List.{All, Contains, concat}
use Rattle.std.specs.Prelude.{slice_index}
use Rattle.std.proofs.Math.Seq.{take-add}
use Rattle.std.proofs.lemmas.Grind.{div_ceil_times}
use Rattle.std.proofs.lemmas.List.{ext_get_or, get_or-take, get_or-drop, append-nil, append_assoc, take_all}
use Rattle.std.proofs.lemmas.List.{length-map, length-append, length-replicate, length-take, length-drop, take_at, take_min, drop_min, drop-drop}
use Rattle.std.proofs.lemmas.List.Elements.{All-take, All-drop}
use Rattle.std.proofs.lemmas.List.FromFn.{length-range_with_len, length-map-range_with_len, get_or-map-range_with_len}
use Rattle.std.proofs.lemmas.List.FromFn.{get_or-range_with_len, map-range_with_len_more, take-map-range_with_len, fill_by_all}
use Rattle.scfs_gf256.specs.Polynomials.{value_of, AreBytes, AreDistinct, IsFit}
use Rattle.scfs_gf256.specs.Rows.{column_of}
use Rattle.scfs_gf256.proofs.Fitting.{coefficients_of-IsOnlyFit}
use Rattle.scfs_gf256.proofs.Bytes.{AreBytes-Bytes, Bytes-AreBytes, Bytes-append, Bytes-replicate}
use Rattle.scfs_erasure.specs.declared.block.Block.{Block}
use Rattle.scfs_erasure.specs.Rows.{numbers_below, row_length, filled, rows_of, row_at, piece_of_rows, piece}
use Rattle.scfs_erasure.specs.Blocks.{numbers_of, size_of, block_of, blocks_of, AreEnough, AreSomeOf, AreRows, rows_from}
use Rattle.scfs_erasure.specs.Blocks.{contents_from}
use Rattle.scfs_erasure.proofs.RowLemmas.{length-row_at, get_or-row_at, row_at-given, AreBytes-column_of}
use Rattle.scfs_erasure.proofs.BlockLemmas.{AreBytes-numbers_below, AreDistinct-numbers_below, rows_from-only}

-- a block of this number and these bytes
abbrev pub numbered : ℕ → List ℕ → Block
numbered number bytes = record { number = number; bytes = bytes }

-- ---- rows one after the other

concat-push : (rows : List (List ℕ)) (row : List ℕ) → concat (rows ++ row ∷ []) ≡ concat rows ++ row
concat-push [] row = append-nil row
concat-push (first ∷ rows) row =
    ap (λ rest. first ++ rest) (concat-push rows row) ∙ sym (append_assoc first (concat rows) row)

pub concat-rows_more : (g : ℕ → List ℕ) (n : ℕ)
    → concat (map g (numbers_below (n + 1))) ≡ concat (map g (numbers_below n)) ++ g n
concat-rows_more g n =
    ap concat (map-range_with_len_more g 0 n n (omega arith)) ∙ concat-push (map g (numbers_below n)) (g n)

-- rows cut from bytes, joined again
concat-cut : (size : ℕ) (bytes : List ℕ) (n : ℕ)
    → concat (map (λ j. take size (drop (j * size) bytes)) (numbers_below n)) ≡ take (n * size) bytes
concat-cut size bytes zero = ap (λ k. take k bytes) (sym (zero-mul size))
concat-cut size bytes (suc n) =
    let row = λ (j : ℕ). take size (drop (j * size) bytes) in
    ap (λ m. concat (map row (numbers_below m))) (sym (add-one n))
    ∙ concat-rows_more row n
    ∙ ap (λ front. front ++ take size (drop (n * size) bytes)) (concat-cut size bytes n)
    ∙ sym (take-add (n * size) size bytes)
    ∙ ap (λ k. take k bytes) (sym (suc-mul n size))

-- ---- the rows of contents

-- f+1 rows hold the contents
pub fits_in_rows : (f size : ℕ) → size ≤ (f + 1) * row_length f size
unfolding row_length
fits_in_rows f size =
    subst (λ m. size ≤ m) (mul_comm (div_ceil size (f + 1)) (f + 1)) (div_ceil_times size (f + 1) (omega arith)).0

length-filled : (f : ℕ) (contents : List ℕ) → length (filled f contents) ≡ (f + 1) * row_length f (length contents)
unfolding filled
length-filled f contents =
    let whole = (f + 1) * row_length f (length contents) in
    let fits : length contents ≤ whole = fits_in_rows f (length contents) in
    length-append contents (replicate (whole - length contents) 0)
    ∙ ap (λ n. length contents + n) (length-replicate (whole - length contents) 0)
    ∙ restored (length contents) whole fits
  where
    restored : (a b : ℕ) → a ≤ b → a + (b - a) ≡ b
    restored a b le = omega arith

AreBytes-filled : (f : ℕ) (contents : List ℕ) → AreBytes contents → AreBytes (filled f contents)
unfolding filled
AreBytes-filled f contents bytes =
    let zeros = replicate ((f + 1) * row_length f (length contents) - length contents) 0 in
    Bytes-AreBytes (contents ++ zeros)
    (Bytes-append contents zeros (AreBytes-Bytes contents bytes)
    (Bytes-replicate ((f + 1) * row_length f (length contents) - length contents)))

-- the row j as it is cut from the contents
abbrev pub row_of : ℕ → List ℕ → ℕ → List ℕ
row_of f contents j =
    take (row_length f (length contents)) (drop (j * row_length f (length contents)) (filled f contents))

length-rows_of : (f : ℕ) (contents : List ℕ) → length (rows_of f contents) ≡ f + 1
unfolding rows_of
length-rows_of f contents = length-map-range_with_len (row_of f contents) 0 (f + 1)

get_or-rows_of : (f : ℕ) (contents : List ℕ) (j : ℕ) (d : List ℕ) → j < f + 1
    → get_or (rows_of f contents) j d ≡ row_of f contents j
unfolding rows_of
get_or-rows_of f contents j d l = get_or-map-range_with_len (row_of f contents) 0 (f + 1) j j d l (omega arith)

-- a row ends within the rows
row_within : (f j size : ℕ) → j < f + 1 → j * size + size ≤ (f + 1) * size
row_within f j size l =
    let upto : suc j ≤ f + 1 = omega arith in
    subst (λ m. m ≤ (f + 1) * size) (suc-mul j size) (mul-le-mul_right size upto)

length-row_of : (f : ℕ) (contents : List ℕ) (j : ℕ) → j < f + 1
    → length (row_of f contents j) ≡ row_length f (length contents)
length-row_of f contents j l =
    let size = row_length f (length contents) in
    length-cut size (j * size) (filled f contents)
    (subst (λ n. j * size + size ≤ n) (sym (length-filled f contents)) (row_within f j size l))
  where
    length-cut : (size from : ℕ) (bytes : List ℕ) → from + size ≤ length bytes → length (take size (drop from bytes)) ≡ size
    length-cut size from bytes le = omega (arith, length-take size (drop from bytes), length-drop from bytes)

-- the rows are the contents, filled with zeros
pub joined_rows : (f : ℕ) (contents : List ℕ)
    → (zeros : ℕ) × (concat (rows_of f contents) ≡ contents ++ replicate zeros 0)
unfolding rows_of filled
joined_rows f contents =
    let size = row_length f (length contents) in
    let zeros = (f + 1) * size - length contents in
    let whole : length (contents ++ replicate zeros 0) ≤ (f + 1) * size =
    subst (λ n. n ≤ (f + 1) * size) (sym (length-filled f contents)) (le_refl ((f + 1) * size)) in
    (zeros, concat-cut size (contents ++ replicate zeros 0) (f + 1) ∙ take_all ((f + 1) * size) (contents ++ replicate zeros 0) whole)

concat-rows_of : (f : ℕ) (contents : List ℕ) → take (length contents) (concat (rows_of f contents)) ≡ contents
concat-rows_of f contents =
    let joined = joined_rows f contents in
    ap (take (length contents)) joined.1 ∙ take_at contents (replicate joined.0 0) (length contents) refl

-- ---- blocks of contents

pub length-piece : (f : ℕ) (contents : List ℕ) (i : ℕ) → length (piece f contents i) ≡ row_length f (length contents)
unfolding piece
length-piece f contents i =
    length-row_at (numbers_below (f + 1)) (rows_of f contents) (row_length f (length contents)) i

-- contents are rows of which any of their pieces are the pieces
pub AreRows-rows_of : (f : ℕ) (contents : List ℕ) (blocks : List Block) → AreBytes contents
    → All (λ block. block.bytes ≡ piece f contents block.number) blocks
    → AreRows f (row_length f (length contents)) blocks (rows_of f contents)
unfolding piece
AreRows-rows_of f contents blocks bytes pieces =
    record {
      as_many = length-rows_of f contents;
      long = λ j d l.
          let within : j < f + 1 = omega (arith, length-rows_of f contents) in
          ap length (get_or-rows_of f contents j d within) ∙ length-row_of f contents j within;
      bytes = λ j d l.
          let within : j < f + 1 = omega (arith, length-rows_of f contents) in
          let size = row_length f (length contents) in
          subst AreBytes (sym (get_or-rows_of f contents j d within))
          (All-take (λ b. b < 256) size (drop (j * size) (filled f contents))
          (All-drop (λ b. b < 256) (j * size) (filled f contents) (AreBytes-filled f contents bytes)));
      pieces = pieces;
    }

-- the first f+1 pieces are the rows
piece-row : (f : ℕ) (contents : List ℕ) (j : ℕ) → f + 1 ≤ 256 → AreBytes contents → j < f + 1
    → piece f contents j ≡ row_of f contents j
unfolding piece
piece-row f contents j few bytes l =
    let first = numbers_below (f + 1) in
    let rows = rows_of f contents in
    let size = row_length f (length contents) in
    let are = AreRows-rows_of f contents [] bytes (λ i d l. absurd (omega arith)) in
    sym (sym (get_or-rows_of f contents j [] l)
    ∙ row_at-given first rows size j (AreBytes-numbers_below (f + 1) few) (AreDistinct-numbers_below (f + 1))
    (length-range_with_len 0 (f + 1) ∙ sym (length-rows_of f contents)) are.long are.bytes
    (omega (arith, length-rows_of f contents))
    ∙ ap (row_at first rows size) (get_or-range_with_len 0 (f + 1) j 0 l ∙ zero-add j))

-- a place behind zeros added to a list
get_or-zeros : (xs : List ℕ) (n k : ℕ) → get_or (xs ++ replicate n 0) k 0 ≡ get_or xs k 0
get_or-zeros [] zero k = refl
get_or-zeros [] (suc n) zero = refl
get_or-zeros [] (suc n) (suc k) = get_or-zeros [] n k
get_or-zeros (x ∷ xs) n zero = refl
get_or-zeros (x ∷ xs) n (suc k) = get_or-zeros xs n k

-- bytes cut from contents, and then filled with zeros, are those cut from contents filled with zeros
cut-zeros : (contents : List ℕ) (from size n : ℕ) → from + size ≤ length contents + n
    → take size (drop from contents) ++ replicate (size - length (take size (drop from contents))) 0
    ≡ take size (drop from (contents ++ replicate n 0))
cut-zeros contents from size n le =
    let cut = take size (drop from contents) in
    let zeros = replicate n 0 in
    let long : length (cut ++ replicate (size - length cut) 0) ≡ size =
    omega (arith, length-append cut (replicate (size - length cut) 0), length-replicate {A = ℕ} (size - length cut) 0, length-take size (drop from contents)) in
    let other : length (take size (drop from (contents ++ zeros))) ≡ size =
    omega (arith, length-take size (drop from (contents ++ zeros)), length-drop from (contents ++ zeros), length-append contents zeros, length-replicate {A = ℕ} n 0) in
    ext_get_or 0 (cut ++ replicate (size - length cut) 0) (take size (drop from (contents ++ zeros))) (long ∙ sym other)
    (λ k l.
    let within : k < size = omega arith in
    get_or-zeros cut (size - length cut) k
    ∙ get_or-take size (drop from contents) k 0 within ∙ get_or-drop from contents k 0
    ∙ sym (get_or-take size (drop from (contents ++ zeros)) k 0 within ∙ get_or-drop from (contents ++ zeros) k 0
    ∙ get_or-zeros contents n (from + k)))

-- so a part of the contents, filled with zeros, is a piece
pub filled_part : (f : ℕ) (contents : List ℕ) (j size : ℕ) (part : List ℕ) → f + 1 ≤ 256 → AreBytes contents
    → j < f + 1 → size ≡ row_length f (length contents) → part ≡ take size (drop (j * size) contents)
    → part ++ replicate (size - length part) 0 ≡ piece f contents j
unfolding filled
filled_part f contents j size part few bytes l same cut =
    let whole = (f + 1) * row_length f (length contents) in
    let fits : length contents ≤ whole = fits_in_rows f (length contents) in
    let own = row_length f (length contents) in
    let within : j * own + own ≤ length contents + (whole - length contents) =
    subst (λ n. j * own + own ≤ n) (sym (restored (length contents) whole fits)) (row_within f j own l) in
    ap (λ part. part ++ replicate (size - length part) 0) cut
    ∙ ap (λ size. take size (drop (j * size) contents) ++ replicate (size - length (take size (drop (j * size) contents))) 0) same
    ∙ cut-zeros contents (j * own) own (whole - length contents) within
    ∙ sym (piece-row f contents j few bytes l)
  where
    restored : (a b : ℕ) → a ≤ b → a + (b - a) ≡ b
    restored a b le = omega arith

-- ---- several blocks of contents

-- what a list of blocks of contents holds at each place
pub get_or-blocks : (f : ℕ) (contents : List ℕ) (n i : ℕ) (d : Block)
    → i < length (map (block_of f contents) (numbers_below n))
    → get_or (map (block_of f contents) (numbers_below n)) i d ≡ block_of f contents i
get_or-blocks f contents n i d l =
    get_or-map-range_with_len (block_of f contents) 0 n i i d
    (omega (arith, length-map-range_with_len (block_of f contents) 0 n)) (omega arith)

All-blocks : (P : Block → Type 0) (f : ℕ) (contents : List ℕ) (n : ℕ) → ((i : ℕ) → i < n → P (block_of f contents i))
    → All P (map (block_of f contents) (numbers_below n))
All-blocks P f contents n each i d l =
    subst P (sym (get_or-blocks f contents n i d l))
    (each i (omega (arith, length-map-range_with_len (block_of f contents) 0 n)))

numbers_of-blocks : (f : ℕ) (contents : List ℕ) (numbers : List ℕ)
    → numbers_of (map (block_of f contents) numbers) ≡ numbers
unfolding block_of
numbers_of-blocks f contents [] = refl
numbers_of-blocks f contents (i ∷ numbers) = ap (λ rest. i ∷ rest) (numbers_of-blocks f contents numbers)

pub All-blocks_are_pieces : (f : ℕ) (contents : List ℕ) (n : ℕ)
    → All (λ block. block.bytes ≡ piece f contents block.number) (map (block_of f contents) (numbers_below n))
unfolding block_of
All-blocks_are_pieces f contents n =
    All-blocks (λ block. block.bytes ≡ piece f contents block.number) f contents n (λ i l. refl)

-- the first f+1 blocks fix the contents' rows
pub AreEnough-first : (f : ℕ) (contents : List ℕ)
    → AreEnough f (row_length f (length contents)) (map (block_of f contents) (numbers_below (f + 1)))
unfolding block_of
AreEnough-first f contents =
    record {
      as_many = length-map-range_with_len (block_of f contents) 0 (f + 1);
      different = subst AreDistinct (sym (numbers_of-blocks f contents (numbers_below (f + 1)))) (AreDistinct-numbers_below (f + 1));
      below = All-blocks (λ block. block.number < 3 * f + 1) f contents (f + 1) (λ i l. omega arith);
      long = All-blocks (λ block. length block.bytes ≡ row_length f (length contents)) f contents (f + 1) (λ i l. length-piece f contents i);
    }

pub size_of-first : (f : ℕ) (contents : List ℕ)
    → size_of (map (block_of f contents) (numbers_below (f + 1))) ≡ row_length f (length contents)
unfolding block_of
size_of-first f contents =
    ap (λ n. size_of (map (block_of f contents) (numbers_below n))) (add-one f) ∙ length-piece f contents 0

pub rows_from-first : (f : ℕ) (contents : List ℕ) → 3 * f + 1 ≤ 256 → AreBytes contents
    → rows_from f (row_length f (length contents)) (map (block_of f contents) (numbers_below (f + 1)))
    ≡ rows_of f contents
rows_from-first f contents few bytes =
    let first = map (block_of f contents) (numbers_below (f + 1)) in
    sym (rows_from-only f (row_length f (length contents)) first (rows_of f contents) few (AreEnough-first f contents)
    (AreRows-rows_of f contents first bytes (All-blocks_are_pieces f contents (f + 1))))

-- one block more
pub blocks_more : (f : ℕ) (contents : List ℕ) (n : ℕ) (blocks : List Block) (block : Block)
    → blocks ≡ map (block_of f contents) (numbers_below n) → block.number ≡ n → block.bytes ≡ piece f contents n
    → blocks ++ block ∷ [] ≡ map (block_of f contents) (numbers_below (n + 1))
unfolding block_of
blocks_more f contents n blocks block before number bytes =
    ap₂ (λ (blocks : List Block) (block : Block). blocks ++ block ∷ []) before (ap₂ numbered number bytes)
    ∙ sym (map-range_with_len_more (block_of f contents) 0 n n (omega arith))

-- the first f+1 of the blocks so far
pub first_taken : (f : ℕ) (contents : List ℕ) (n k : ℕ) (blocks : List Block) → k ≡ f + 1 → f + 1 ≤ n
    → blocks ≡ map (block_of f contents) (numbers_below n)
    → take k blocks ≡ map (block_of f contents) (numbers_below (f + 1))
first_taken f contents n k blocks count le before =
    ap₂ (λ (k : ℕ) (blocks : List Block). take k blocks) count before
    ∙ take-map-range_with_len (block_of f contents) 0 n (f + 1) le

pub length-first : (f : ℕ) (contents : List ℕ) → length (map (block_of f contents) (numbers_below (f + 1))) ≡ f + 1
length-first f contents = length-map-range_with_len (block_of f contents) 0 (f + 1)

pub AreEnough-taken : (f : ℕ) (contents : List ℕ) (taken : List Block)
    → taken ≡ map (block_of f contents) (numbers_below (f + 1)) → AreEnough f (size_of taken) taken
AreEnough-taken f contents taken same =
    subst (λ (blocks : List Block). AreEnough f (size_of blocks) blocks) (sym same)
    (subst (λ size. AreEnough f size (map (block_of f contents) (numbers_below (f + 1)))) (sym (size_of-first f contents))
    (AreEnough-first f contents))

-- a piece of the rows that the first f+1 blocks fix is one of the contents
pub piece-taken : (f : ℕ) (contents : List ℕ) (taken : List Block) (i : ℕ) → 3 * f + 1 ≤ 256 → AreBytes contents
    → taken ≡ map (block_of f contents) (numbers_below (f + 1))
    → piece_of_rows f (size_of taken) (rows_from f (size_of taken) taken) i ≡ piece f contents i
unfolding piece
piece-taken f contents taken i few bytes same =
    ap (λ (blocks : List Block). piece_of_rows f (size_of blocks) (rows_from f (size_of blocks) blocks) i) same
    ∙ ap (λ size. piece_of_rows f size (rows_from f size (map (block_of f contents) (numbers_below (f + 1)))) i)
    (size_of-first f contents)
    ∙ ap (λ rows. piece_of_rows f (row_length f (length contents)) rows i) (rows_from-first f contents few bytes)

-- ---- cutting off one row after the other

-- the next row, and what stays, where at most a row's length is cut off
pub next_part : (contents rest part : List ℕ) (j size cut : ℕ) → rest ≡ drop (j * size) contents
    → cut ≡ min size (length rest) → part ≡ take cut rest → part ≡ take size (drop (j * size) contents)
next_part contents rest part j size cut before least same =
    same ∙ ap (λ cut. take cut rest) least ∙ take_min size rest ∙ ap (take size) before

pub next_rest : (contents rest others : List ℕ) (j size cut : ℕ) → rest ≡ drop (j * size) contents
    → cut ≡ min size (length rest) → others ≡ drop cut rest → others ≡ drop ((j + 1) * size) contents
next_rest contents rest others j size cut before least same =
    let after : j * size + size ≡ (j + 1) * size = omega arith in
    same ∙ ap (λ cut. drop cut rest) least ∙ drop_min size rest ∙ ap (drop size) before
    ∙ drop-drop size (j * size) contents ∙ ap (λ from. drop from contents) after

-- ---- any f+1 blocks

-- a byte of a piece is the value of any polynomial that fits the column
pub get_or-piece : (f : ℕ) (contents : List ℕ) (i k : ℕ) (c : List ℕ) → f ≤ 3 → AreBytes contents
    → k < row_length f (length contents) → IsFit c (numbers_below (f + 1)) (column_of (rows_of f contents) k)
    → slice_index (piece f contents i) k ≡ value_of c i
unfolding piece
get_or-piece f contents i k c few bytes inside fit =
    let first = numbers_below (f + 1) in
    let rows = rows_of f contents in
    let size = row_length f (length contents) in
    let are = AreRows-rows_of f contents [] bytes (λ i d l. absurd (omega arith)) in
    let only =
    (coefficients_of-IsOnlyFit first (column_of rows k) (AreBytes-numbers_below (f + 1) (omega arith))
    (AreBytes-column_of rows size k inside are.long are.bytes)
    (length-range_with_len 0 (f + 1) ∙ sym (length-map rows (λ row. slice_index row k) ∙ length-rows_of f contents))
    (AreDistinct-numbers_below (f + 1))).only c fit in
    get_or-row_at first rows size i k 0 inside ∙ ap (λ c. value_of c i) (sym only)

-- the first f+1 pieces are the rows
pub map-piece-first : (f : ℕ) (contents : List ℕ) → f ≤ 3 → AreBytes contents
    → map (piece f contents) (numbers_below (f + 1)) ≡ rows_of f contents
map-piece-first f contents few bytes =
    sym (fill_by_all (piece f contents) (rows_of f contents) (f + 1) [] (length-rows_of f contents)
    (λ j l. get_or-rows_of f contents j [] l ∙ sym (piece-row f contents j (omega arith) bytes l)))

-- a block of contents has a number below n, and the piece of its number
record IsBlockOf (f : ℕ) (contents : List ℕ) (block : Block) : Type 0 where
  below : block.number < 3 * f + 1
  bytes : block.bytes ≡ piece f contents block.number

IsBlockOf-Contains : (f : ℕ) (contents : List ℕ) (block : Block) → Contains (blocks_of f contents) block
    → IsBlockOf f contents block
unfolding block_of
IsBlockOf-Contains f contents block there =
    let k = there.0 in
    let within : k < 3 * f + 1 = omega (arith, there.1, length-map-range_with_len (block_of f contents) 0 (3 * f + 1)) in
    subst (IsBlockOf f contents) (sym (get_or-blocks f contents (3 * f + 1) k block there.1) ∙ there.2)
    (record { below = within; bytes = refl })

pub AreEnough-some : (f : ℕ) (contents : List ℕ) (blocks : List Block) → AreSomeOf f contents blocks
    → AreEnough f (row_length f (length contents)) blocks
AreEnough-some f contents blocks some =
    record {
      as_many = some.as_many;
      different = some.different;
      below = λ i d l. (IsBlockOf-Contains f contents (get_or blocks i d) (some.among i d l)).below;
      long = λ i d l.
          let block = get_or blocks i d in
          ap length (IsBlockOf-Contains f contents block (some.among i d l)).bytes ∙ length-piece f contents block.number;
    }

pub rows_from-some : (f : ℕ) (contents : List ℕ) (blocks : List Block) → f ≤ 3 → AreBytes contents
    → AreSomeOf f contents blocks → rows_from f (row_length f (length contents)) blocks ≡ rows_of f contents
rows_from-some f contents blocks few bytes some =
    sym (rows_from-only f (row_length f (length contents)) blocks (rows_of f contents) (omega arith)
    (AreEnough-some f contents blocks some)
    (AreRows-rows_of f contents blocks bytes
    (λ i d l. (IsBlockOf-Contains f contents (get_or blocks i d) (some.among i d l)).bytes)))

pub contents_from-some : (f : ℕ) (contents : List ℕ) (blocks : List Block) → f ≤ 3 → AreBytes contents
    → AreSomeOf f contents blocks → contents_from f (length contents) blocks ≡ contents
contents_from-some f contents blocks few bytes some =
    ap (λ rows. take (length contents) (concat rows)) (rows_from-some f contents blocks few bytes some)
    ∙ concat-rows_of f contents

pub size_of-enough : (f size : ℕ) (blocks : List Block) → AreEnough f size blocks → size_of blocks ≡ size
size_of-enough f size [] enough = absurd (omega (arith, enough.as_many))
size_of-enough f size (block ∷ blocks) enough = enough.long 0 block (omega arith)

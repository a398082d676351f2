-- Contents encoded a number of times, and blocks of contents.
use Rattle.std.proofs.Common.{◌≡◌, ℕ, suc, ◌+◌, ◌*◌, ◌<◌, ◌≤◌, List, [], ◌++◌, append-nil, length, map, take, drop, get_or, refl, sym, ap, subst, ◌∙◌}
use Rattle.std.proofs.Common.{arith, mul-le-mul_right}
use Rattle.std.specs.List.{Contains}
use Rattle.std.proofs.Math.Numerals.{add-one}
use Rattle.std.proofs.Math.ListN.{drop_of_length-le}
use Rattle.std.proofs.Math.Seq.{take-length}
use Rattle.std.proofs.lemmas.List.{length-take, length-drop, length-map, get_or-drop, get_or-map}
use Rattle.std.proofs.lemmas.List.Elements.{Contains-get_or}
use Rattle.std.proofs.lemmas.List.FromFn.{length-map-range_with_len, get_or-map-range_with_len}
use Rattle.scfs_erasure.specs.declared.block.Block.{Block}
use Rattle.scfs_erasure.specs.Rows.{row_length, piece}
use Rattle.scfs_erasure.specs.Blocks.{block_of, blocks_of, AreSomeOf}
use Rattle.scfs_erasure.proofs.BlockLemmas.{no_block}
use Rattle.scfs_erasure.proofs.ContentLemmas.{length-piece, fits_in_rows}
use Rattle.scfs_gf256.specs.Polynomials.{AreBytes}
use Rattle.std.proofs.lemmas.Grind.{get_or_default_zero}
use Rattle.scfs_bench.specs.Contents.{with_last_block, encoded_times}

pub encoded_none : (f : ℕ) (contents : List ℕ) → encoded_times f 0 contents ≡ contents
unfolding encoded_times
encoded_none f contents = refl

last_time : (f n : ℕ) (contents : List ℕ)
    → encoded_times f (suc n) contents ≡ with_last_block f (encoded_times f n contents)
unfolding encoded_times
last_time f n contents = refl

-- once more is once after the others
pub encoded_more : (f n : ℕ) (contents : List ℕ)
    → encoded_times f (n + 1) contents ≡ with_last_block f (encoded_times f n contents)
encoded_more f n contents = ap (λ k. encoded_times f k contents) (add-one n) ∙ last_time f n contents

-- every piece of contents of 1 MiB has 32 bytes and more
pub piece_size : (f : ℕ) (contents : List ℕ) (i : ℕ) → f ≤ 3 → length contents ≡ 1048576
    → 32 ≤ length (piece f contents i)
piece_size f contents i few size =
    let rows : length contents ≤ (f + 1) * row_length f (length contents) = fits_in_rows f (length contents) in
    let four : (f + 1) * row_length f (length contents) ≤ 4 * row_length f (length contents) =
    mul-le-mul_right (row_length f (length contents)) (omega arith) in
    omega (arith, rows, four, length-piece f contents i)

-- a block at its number
pub block_at : (f : ℕ) (contents : List ℕ) (blocks : List Block) (i : ℕ) (d : Block) → blocks ≡ blocks_of f contents
    → i < 3 * f + 1 → get_or blocks i d ≡ block_of f contents i
block_at f contents blocks i d all l =
    ap (λ blocks. get_or blocks i d) all
    ∙ get_or-map-range_with_len (block_of f contents) 0 (3 * f + 1) i i d l (omega arith)

pub bytes_at : (f : ℕ) (contents : List ℕ) (blocks : List Block) (i : ℕ) (d : Block) → blocks ≡ blocks_of f contents
    → i < 3 * f + 1 → (get_or blocks i d).bytes ≡ piece f contents i
unfolding block_of
bytes_at f contents blocks i d all l = ap (λ (block : Block). block.bytes) (block_at f contents blocks i d all l)

pub number_at : (f : ℕ) (contents : List ℕ) (blocks : List Block) (i : ℕ) (d : Block) → blocks ≡ blocks_of f contents
    → i < 3 * f + 1 → (get_or blocks i d).number ≡ i
unfolding block_of
number_at f contents blocks i d all l = ap (λ (block : Block). block.number) (block_at f contents blocks i d all l)

pub how_many : (f : ℕ) (contents : List ℕ) (blocks : List Block) → blocks ≡ blocks_of f contents
    → length blocks ≡ 3 * f + 1
how_many f contents blocks all =
    ap length all ∙ length-map-range_with_len (block_of f contents) 0 (3 * f + 1)

number_of_last : (f : ℕ) (contents : List ℕ) (blocks : List Block) (k i d : ℕ) → blocks ≡ blocks_of f contents
    → k ≡ 2 * f → i < length (drop k blocks) → get_or (map (λ (b : Block). b.number) (drop k blocks)) i d ≡ k + i
number_of_last f contents blocks k i d all from l =
    get_or-map (λ (b : Block). b.number) (drop k blocks) i no_block d l
    ∙ ap (λ (b : Block). b.number) (get_or-drop k blocks i no_block)
    ∙ number_at f contents blocks (k + i) no_block all (omega (arith, length-drop k blocks, how_many f contents blocks all))

-- the last f+1 of the blocks are some of them
pub last_blocks : (f : ℕ) (contents : List ℕ) (blocks : List Block) (k : ℕ) → blocks ≡ blocks_of f contents
    → k ≡ 2 * f → AreSomeOf f contents (drop k blocks)
last_blocks f contents blocks k all from =
    record {
      as_many = omega (arith, length-drop k blocks, how_many f contents blocks all);
      different = λ i j d less l.
          let within : j < length (drop k blocks) = omega (arith, length-map (drop k blocks) (λ (b : Block). b.number)) in
          let first = number_of_last f contents blocks k i d all from (omega arith) in
          let second = number_of_last f contents blocks k j d all from within in
          λ e. absurd (omega (arith, first, second, e));
      among = λ i d l.
          let within : k + i < length blocks = omega (arith, length-drop k blocks) in
          subst (Contains (blocks_of f contents)) (sym (get_or-drop k blocks i d))
          (subst (λ (bs : List Block). Contains bs (get_or blocks (k + i) d)) all (Contains-get_or blocks (k + i) d within));
    }

-- bytes by their places are bytes
pub bytes_in : (contents : List ℕ) → ((k : ℕ) → get_or contents k 0 < 256) → AreBytes contents
bytes_in contents h = λ k d l. subst (λ v. v < 256) (sym (get_or_default_zero contents k d l)) (h k)

-- the last block's first bytes in place of as many
pub front_put : (f : ℕ) (contents front new : List ℕ) → front ≡ take 32 (piece f contents (3 * f)) → 32 ≤ length (piece f contents (3 * f))
    → new ≡ front ++ drop (length front) contents → new ≡ with_last_block f contents
front_put f contents front new is long put =
    let size : length (take 32 (piece f contents (3 * f))) ≡ 32 = omega (arith, length-take 32 (piece f contents (3 * f))) in
    put ∙ ap (λ (bytes : List ℕ). bytes ++ drop (length bytes) contents) is
    ∙ ap (λ n. take 32 (piece f contents (3 * f)) ++ drop n contents) size

-- bytes put in place of as many
pub in_place : (n : ℕ) (new old : List ℕ) → length new ≡ length old → n ≡ length old → take n (new ++ drop (length new) old) ≡ new
in_place n new old same all =
    let none : drop (length new) old ≡ [] = drop_of_length-le old (omega arith) in
    let size : n ≡ length new = omega arith in
    ap (λ rest. take n (new ++ rest)) none ∙ ap (take n) (append-nil new) ∙ ap (λ m. take m new) size ∙ take-length new

-- The last f+1 blocks of contents.
use Rattle.std.proofs.Common.{◌≡◌, ℕ, ◌+◌, ◌*◌, ◌<◌, List, length, drop, get_or, sym, ap, ◌∙◌, arith}
use Rattle.std.proofs.lemmas.List.{get_or-drop, length-drop}
use Rattle.std.proofs.lemmas.List.FromFn.{length-map-range_with_len}
use Rattle.scfs_erasure.specs.declared.block.Block.{Block}
use Rattle.scfs_erasure.specs.Blocks.{numbers_of, block_of, blocks_of, AreSomeOf}
use Rattle.scfs_erasure.proofs.BlockLemmas.{no_block, get_or-numbers_of, length-numbers_of}
use Rattle.scfs_erasure.proofs.ContentLemmas.{get_or-blocks}

pub length-blocks_of : (f : ℕ) (contents : List ℕ) → length (blocks_of f contents) ≡ 3 * f + 1
length-blocks_of f contents = length-map-range_with_len (block_of f contents) 0 (3 * f + 1)

length-last : (f : ℕ) (contents : List ℕ) → length (drop (2 * f) (blocks_of f contents)) ≡ f + 1
length-last f contents = omega (arith, length-drop (2 * f) (blocks_of f contents), length-blocks_of f contents)

get_or-last : (f : ℕ) (contents : List ℕ) (i : ℕ) (d : Block) → i < f + 1
    → get_or (drop (2 * f) (blocks_of f contents)) i d ≡ block_of f contents (2 * f + i)
get_or-last f contents i d l =
    let within : 2 * f + i < length (blocks_of f contents) = omega (arith, length-blocks_of f contents) in
    get_or-drop (2 * f) (blocks_of f contents) i d ∙ get_or-blocks f contents (3 * f + 1) (2 * f + i) d within

number-last : (f : ℕ) (contents : List ℕ) (i d : ℕ) → i < f + 1
    → get_or (numbers_of (drop (2 * f) (blocks_of f contents))) i d ≡ 2 * f + i
unfolding block_of
number-last f contents i d l =
    let last = drop (2 * f) (blocks_of f contents) in
    let within : i < length last = omega (arith, length-last f contents) in
    get_or-numbers_of last i no_block d within ∙ ap (λ (block : Block). block.number) (get_or-last f contents i no_block l)

pub AreSomeOf-last : (f : ℕ) (contents : List ℕ) → AreSomeOf f contents (drop (2 * f) (blocks_of f contents))
AreSomeOf-last f contents =
    record {
      as_many = length-last f contents;
      different = λ i j d less l.
          let later : j < f + 1 = omega (arith, length-numbers_of (drop (2 * f) (blocks_of f contents)), length-last f contents) in
          let earlier : i < f + 1 = omega arith in
          λ e. absurd (omega (arith, sym (number-last f contents i d earlier) ∙ e ∙ number-last f contents j d later));
      among = λ i d l.
          let within : i < f + 1 = omega (arith, length-last f contents) in
          let inside : 2 * f + i < length (blocks_of f contents) = omega (arith, length-blocks_of f contents) in
          let block = get_or (drop (2 * f) (blocks_of f contents)) i d in
          (2 * f + i, inside, get_or-blocks f contents (3 * f + 1) (2 * f + i) block inside ∙ sym (get_or-last f contents i d within));
    }

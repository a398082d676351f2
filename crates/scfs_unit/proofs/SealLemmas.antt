-- How a seal comes together.
use Rattle.std.proofs.Common.{◌≡◌, ℕ, zero, suc, ◌+◌, ◌*◌, ◌<◌, List, [], ◌∷◌, ◌++◌, length, map, take, get_or, refl, sym, ap, ap₂, ◌∙◌, arith, add-one, ◌≤◌}
use Rattle.std.specs.List.{range_with_len}
use Rattle.std.proofs.lemmas.List.FromFn.{length-map-range_with_len}
use Rattle.sha2.specs.Sha256.{sha256}
use Rattle.scfs_digest.specs.Texts.{root_text, content_text}
use Rattle.scfs_base.specs.declared.naming.Digest.{Digest}
use Rattle.scfs_erasure.specs.declared.block.Block.{Block}
use Rattle.scfs_erasure.specs.Rows.{numbers_below}
use Rattle.scfs_erasure.specs.Blocks.{block_of, blocks_of}
use Rattle.scfs_shamir.specs.declared.sharing.Share.{Share}
use Rattle.scfs_shamir.specs.Shares.{share_of, shares_of}
use Rattle.scfs_stream.specs.Stream.{ciphered}
use Rattle.scfs_stream.specs.declared.sealing.Draw.{Draw}
use Rattle.scfs_unit.specs.declared.pieces.KeptPiece.{KeptPiece}
use Rattle.scfs_unit.specs.Unit.{unit_piece, unit_pieces, piece_bytes, manifest_over, manifest, object, sealed}
use Rattle.scfs_unit.specs.declared.sealing.Sealed.{Sealed}
use Rattle.scfs_unit.specs.Checking.{kept}
use Rattle.scfs_unit.specs.Steps.{paired}

-- one block more, with its share
pub paired_more : (size : ℕ) (shares : List Share) (blocks : List Block) (i : ℕ) (d : Share) (e : Block)
    → i < length blocks → i < length shares
    → paired size shares (take (suc i) blocks)
    ≡ paired size shares (take i blocks)
    ++ kept (get_or blocks i e).number size (get_or shares i d) (get_or blocks i e).bytes ∷ []
paired_more size shares [] i d e l m = absurd (omega arith)
paired_more size [] (block ∷ blocks) i d e l m = absurd (omega arith)
paired_more size (share ∷ shares) (block ∷ blocks) zero d e l m = refl
paired_more size (share ∷ shares) (block ∷ blocks) (suc i) d e l m =
    ap (λ rest. kept block.number size share block.bytes ∷ rest)
    (paired_more size shares blocks i d e (omega arith) (omega arith))

-- the step of the loop that pairs them
pub paired_step : (size : ℕ) (shares : List Share) (blocks : List Block) (i : ℕ) (d : Share) (block : Block)
    (bytes : List ℕ) (before after : List KeptPiece) → i < length blocks → length blocks ≤ length shares
    → block ≡ get_or blocks i block → bytes ≡ block.bytes → before ≡ paired size shares (take i blocks)
    → after ≡ before ++ kept block.number size (get_or shares i d) bytes ∷ []
    → after ≡ paired size shares (take (i + 1) blocks)
paired_step size shares blocks i d block bytes before after l few this same was is =
    let own : kept block.number size (get_or shares i d) bytes
    ≡ kept (get_or blocks i block).number size (get_or shares i d) (get_or blocks i block).bytes =
    ap (kept block.number size (get_or shares i d)) same
    ∙ ap (λ (block : Block). kept block.number size (get_or shares i d) block.bytes) this in
    is
    ∙ ap₂ (λ front piece. front ++ piece ∷ []) was own
    ∙ sym (paired_more size shares blocks i d block l (omega arith))
    ∙ ap (λ n. paired size shares (take n blocks)) (sym (add-one i))

-- there are as many shares as blocks
pub as_many_shares : (f : ℕ) (draw : Draw) (encrypted : List ℕ) (shares : List Share) (blocks : List Block)
    → shares ≡ shares_of f draw.key draw.coefficients → blocks ≡ blocks_of f encrypted → length blocks ≤ length shares
as_many_shares f draw encrypted shares blocks s b =
    let first = ap length s ∙ length-map-range_with_len (share_of f draw.key draw.coefficients) 1 (3 * f + 1) in
    let second = ap length b ∙ length-map-range_with_len (block_of f encrypted) 0 (3 * f + 1) in
    omega (arith, first, second)

-- the shares and the blocks of contents, paired, are the pieces
pub paired-made : (f : ℕ) (draw : Draw) (contents : List ℕ) (k n : ℕ)
    → paired (length contents) (map (share_of f draw.key draw.coefficients) (range_with_len (k + 1) n))
    (map (block_of f (ciphered draw.key contents)) (range_with_len k n))
    ≡ map (unit_piece f draw contents) (range_with_len k n)
unfolding unit_piece block_of
paired-made f draw contents k zero = refl
paired-made f draw contents k (suc n) =
    ap (λ rest. unit_piece f draw contents k ∷ rest) (paired-made f draw contents (k + 1) n)

-- the pieces, from shares and blocks
pub pieces_from : (f : ℕ) (draw : Draw) (contents : List ℕ) (shares : List Share) (blocks : List Block)
    (pieces : List KeptPiece) → shares ≡ shares_of f draw.key draw.coefficients
    → blocks ≡ blocks_of f (ciphered draw.key contents) → pieces ≡ paired (length contents) shares blocks
    → pieces ≡ unit_pieces f draw contents
pieces_from f draw contents shares blocks pieces s b p =
    p ∙ ap₂ (λ shares blocks. paired (length contents) shares blocks) s b ∙ paired-made f draw contents 0 (3 * f + 1)

-- the objects of the pieces are those of the clouds
pub objects-made : (f : ℕ) (draw : Draw) (contents clouds : List ℕ)
    → map (λ piece. manifest f draw contents ++ piece_bytes piece) (map (unit_piece f draw contents) clouds)
    ≡ map (object f draw contents) clouds
unfolding object
objects-made f draw contents [] = refl
objects-made f draw contents (cloud ∷ clouds) =
    ap (λ rest. object f draw contents cloud ∷ rest) (objects-made f draw contents clouds)

-- a seal by its parts
abbrev pub whole_of : List ℕ → List ℕ → List ℕ → List (List ℕ) → Sealed
whole_of made root content objects =
    record { manifest = made; root = record { 0 = root }; content = record { 0 = content }; objects = objects }

same_sealed : (m n r s c d : List ℕ) (o p : List (List ℕ)) → m ≡ n → r ≡ s → c ≡ d → o ≡ p
    → whole_of m r c o ≡ whole_of n s d p
same_sealed m n r s c d o p e g h k = cc

-- the whole of it
pub sealed_from : (f : ℕ) (draw : Draw) (contents : List ℕ) (pieces : List KeptPiece) (made : List ℕ) (root content : Digest)
    (objects : List (List ℕ)) → pieces ≡ unit_pieces f draw contents → made ≡ manifest_over f (length contents) pieces
    → root.0 ≡ sha256 (root_text made) → content.0 ≡ sha256 (content_text contents)
    → objects ≡ map (λ piece. made ++ piece_bytes piece) pieces
    → whole_of made root.0 content.0 objects ≡ sealed f draw contents
unfolding manifest
sealed_from f draw contents pieces made root content objects p m r d o =
    let whole : made ≡ manifest f draw contents = m ∙ ap (manifest_over f (length contents)) p in
    same_sealed made (manifest f draw contents) root.0 (sha256 (root_text (manifest f draw contents))) content.0
    (sha256 (content_text contents)) objects (map (object f draw contents) (numbers_below (3 * f + 1))) whole
    (r ∙ ap (λ text. sha256 (root_text text)) whole) d
    (o ∙ ap₂ (λ made pieces. map (λ piece. made ++ piece_bytes piece) pieces) whole p
    ∙ objects-made f draw contents (numbers_below (3 * f + 1)))

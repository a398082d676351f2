-- Pieces as shares and blocks.
use Rattle.std.proofs.Common.{◌≡◌, ℕ, zero, suc, ◌+◌, ◌*◌, ◌/◌, ◌%◌, ◌<◌, ◌≤◌, List, [], ◌∷◌, length, map, get_or}
use Rattle.std.proofs.Common.{refl, sym, ap, ap₂, ◌∙◌, subst, arith}
use Rattle.std.specs.Int.{byte_at}
use Rattle.std.specs.List.{All, Contains}
use Rattle.std.proofs.lemmas.List.{get_or-map, length-map}
use Rattle.std.proofs.lemmas.List.Elements.{All-map}
use Rattle.std.proofs.lemmas.List.FromFn.{length-map-range_with_len, get_or-map-range_with_len}
use Rattle.scfs_gf256.specs.Polynomials.{AreBytes, AreDistinct}
use Rattle.scfs_gf256.proofs.Bytes.{Bytes-AreBytes, Bytes_from_places, xor-byte}
use Rattle.scfs_erasure.specs.declared.block.Block.{Block}
use Rattle.scfs_erasure.specs.Rows.{row_length}
use Rattle.scfs_erasure.specs.Blocks as blocks
use Rattle.scfs_erasure.specs.Blocks.{numbers_of, block_of, blocks_of, contents_from}
use Rattle.scfs_erasure.proofs.ContentLemmas.{numbered, length-piece, contents_from-some}
use Rattle.scfs_shamir.specs.declared.sharing.Share.{Share}
use Rattle.scfs_shamir.specs.Shares.{shares_of}
use Rattle.scfs_shamir.specs.Recovery.{points_of, joined_byte, joined, AreSharesOf}
use Rattle.scfs_shamir.proofs.RowLemmas.{each_byte_from}
use Rattle.scfs_shamir.proofs.ShareLemmas.{Contains-shares_of, joined_byte_is}
use Rattle.scfs_stream.specs.Stream.{stream_word, stream_byte, ciphered}
use Rattle.scfs_stream.specs.declared.sealing.Draw.{Draw}
use Rattle.scfs_stream.proofs.StreamFacts.{length-ciphered, get_or-ciphered, ciphered-ciphered}
use Rattle.scfs_unit.specs.declared.pieces.KeptPiece.{KeptPiece}
use Rattle.scfs_unit.specs.Unit.{unit_piece, unit_pieces, IsDraw}
use Rattle.scfs_unit.specs.Checking.{IsPiece}
use Rattle.scfs_unit.specs.Unsealing.{clouds_of, shares_in, blocks_in, length_of, unseal, AreEnough, AreSomeOf}

-- the share of a piece, at the point after its cloud's number
abbrev placed : KeptPiece → Share
placed piece = record { point = piece.cloud + 1; bytes = piece.share.bytes }

-- ---- the points of the shares, the numbers of the blocks

pub points_of-shares_in : (pieces : List KeptPiece) → points_of (shares_in pieces) ≡ map (λ cloud. cloud + 1) (clouds_of pieces)
points_of-shares_in [] = refl
points_of-shares_in (piece ∷ pieces) = ap (λ rest. (piece.cloud + 1) ∷ rest) (points_of-shares_in pieces)

pub numbers_of-blocks_in : (pieces : List KeptPiece) → numbers_of (blocks_in pieces) ≡ clouds_of pieces
numbers_of-blocks_in [] = refl
numbers_of-blocks_in (piece ∷ pieces) = ap (λ rest. piece.cloud ∷ rest) (numbers_of-blocks_in pieces)

AreDistinct-plus_one : (xs : List ℕ) → AreDistinct xs → AreDistinct (map (λ x. x + 1) xs)
AreDistinct-plus_one xs distinct i j d less inside e =
    let within : j < length xs = omega (arith, length-map xs (λ x. x + 1)) in
    let earlier : i < length xs = omega arith in
    let first = get_or-map (λ x. x + 1) xs i 0 d earlier in
    let second = get_or-map (λ x. x + 1) xs j 0 d within in
    let same : get_or xs i 0 ≡ get_or xs j 0 = omega (arith, first, second, e) in
    distinct i j 0 less within same

-- the shares of pieces of different clouds have different points
pub AreDistinct-points : (pieces : List KeptPiece) → AreDistinct (clouds_of pieces) → AreDistinct (points_of (shares_in pieces))
AreDistinct-points pieces distinct =
    subst AreDistinct (sym (points_of-shares_in pieces)) (AreDistinct-plus_one (clouds_of pieces) distinct)

-- enough pieces have enough blocks
pub AreEnough-blocks_in : (f : ℕ) (pieces : List KeptPiece) → AreEnough f pieces
    → blocks.AreEnough f (row_length f (length_of pieces)) (blocks_in pieces)
AreEnough-blocks_in f pieces enough = record {
  as_many = length-map pieces block ∙ enough.as_many;
  different = subst AreDistinct (sym (numbers_of-blocks_in pieces)) enough.different;
  below = All-map (λ (made : Block). made.number < 3 * f + 1) block pieces (λ k d l. (enough.each k d l).below);
  long = All-map (λ (made : Block). length made.bytes ≡ row_length f (length_of pieces)) block pieces
      (λ k d l. (enough.each k d l).long ∙ ap (row_length f) (enough.one_length k d l));
}
  where
    block : KeptPiece → Block
    block piece = record { number = piece.cloud; bytes = piece.block }

-- the length of the contents stands in the first piece
pub length_of-first : (pieces : List KeptPiece) (d : KeptPiece) → 0 < length pieces → (get_or pieces 0 d).length ≡ length_of pieces
length_of-first [] d l = absurd (omega arith)
length_of-first (piece ∷ pieces) d l = refl

-- what the steps of opening make
pub unsealed_from : (f : ℕ) (pieces : List KeptPiece) (shares : List Share) (blocks : List Block) (size : ℕ)
    (key encrypted opened : List ℕ) → shares ≡ shares_in pieces → key ≡ joined shares → blocks ≡ blocks_in pieces
    → size ≡ length_of pieces → encrypted ≡ contents_from f size blocks → opened ≡ ciphered key encrypted
    → opened ≡ unseal f pieces
unsealed_from f pieces shares blocks size key encrypted opened s k b n e o =
    o ∙ ap₂ ciphered (k ∙ ap joined s) (e ∙ ap₂ (contents_from f) n b)

-- ---- pieces of one seal

-- one of the n pieces, by its cloud
record IsUnitPiece (f : ℕ) (draw : Draw) (contents : List ℕ) (piece : KeptPiece) : Type 0 where
  below : piece.cloud < 3 * f + 1
  is : piece ≡ unit_piece f draw contents piece.cloud

IsUnitPiece-Contains : (f : ℕ) (draw : Draw) (contents : List ℕ) (piece : KeptPiece)
    → Contains (unit_pieces f draw contents) piece → IsUnitPiece f draw contents piece
unfolding unit_piece
IsUnitPiece-Contains f draw contents piece there =
    let k = there.0 in
    let made = unit_piece f draw contents in
    let within : k < 3 * f + 1 = omega (arith, there.1, length-map-range_with_len made 0 (3 * f + 1)) in
    let own : unit_piece f draw contents k ≡ piece =
    sym (get_or-map-range_with_len made 0 (3 * f + 1) k k piece within (omega arith)) ∙ there.2 in
    subst (IsUnitPiece f draw contents) own (record { below = within; is = refl })

pub IsPiece-unit_piece : (f : ℕ) (draw : Draw) (contents : List ℕ) (cloud : ℕ) → cloud < 3 * f + 1
    → IsPiece f (unit_piece f draw contents cloud)
unfolding unit_piece
IsPiece-unit_piece f draw contents cloud below = record {
  below = below;
  point = refl;
  long = length-piece f (ciphered draw.key contents) cloud ∙ ap (row_length f) (length-ciphered draw.key contents);
}

length-unit_piece : (f : ℕ) (draw : Draw) (contents : List ℕ) (cloud : ℕ)
    → (unit_piece f draw contents cloud).length ≡ length contents
unfolding unit_piece
length-unit_piece f draw contents cloud = refl

own_length : (f : ℕ) (draw : Draw) (contents : List ℕ) (piece : KeptPiece) → IsUnitPiece f draw contents piece
    → piece.length ≡ length contents
own_length f draw contents piece own =
    ap (λ (piece : KeptPiece). piece.length) own.is ∙ length-unit_piece f draw contents piece.cloud

length_of-some : (f : ℕ) (draw : Draw) (contents : List ℕ) (pieces : List KeptPiece) → 0 < length pieces
    → All (IsUnitPiece f draw contents) pieces → length_of pieces ≡ length contents
length_of-some f draw contents [] l own = absurd (omega arith)
length_of-some f draw contents (piece ∷ pieces) l own = own_length f draw contents piece (own 0 piece (omega arith))

all_own : (f : ℕ) (draw : Draw) (contents : List ℕ) (pieces : List KeptPiece)
    → All (Contains (unit_pieces f draw contents)) pieces → All (IsUnitPiece f draw contents) pieces
all_own f draw contents pieces among k d l = IsUnitPiece-Contains f draw contents (get_or pieces k d) (among k d l)

-- they are enough to open
pub AreEnough-some : (f : ℕ) (draw : Draw) (contents : List ℕ) (pieces : List KeptPiece) → length contents ≤ 1048576
    → AreSomeOf f draw contents pieces → AreEnough f pieces
AreEnough-some f draw contents pieces small some =
    let own = all_own f draw contents pieces some.among in
    let whole : length_of pieces ≡ length contents =
    length_of-some f draw contents pieces (omega (arith, some.as_many)) own in
    record {
      as_many = some.as_many;
      different = some.different;
      each = λ k d l.
          let one = own k d l in
          subst (IsPiece f) (sym one.is) (IsPiece-unit_piece f draw contents (get_or pieces k d).cloud one.below);
      one_length = λ k d l. own_length f draw contents (get_or pieces k d) (own k d l) ∙ sym whole;
      small = omega (arith, whole);
    }

-- the encrypted contents are bytes
stream_byte-lt : (key : List ℕ) (i : ℕ) → stream_byte key i < 256
unfolding stream_byte
stream_byte-lt key i = byte_at-lt (i % 4) (stream_word key (i / 4))
  where
    byte_at-lt : (j n : ℕ) → byte_at j n < 256
    byte_at-lt zero n = omega arith
    byte_at-lt (suc j) n = omega arith

AreBytes-ciphered : (key contents : List ℕ) → AreBytes contents → AreBytes (ciphered key contents)
AreBytes-ciphered key contents bytes =
    Bytes-AreBytes (ciphered key contents) (Bytes_from_places (ciphered key contents) (λ k l.
    let within : k < length contents = omega (arith, length-ciphered key contents) in
    subst (λ n. n < 256) (sym (get_or-ciphered key contents k within))
    (xor-byte (get_or contents k 0) (stream_byte key k) (bytes k 0 within) (stream_byte-lt key k))))

-- the blocks of such pieces are blocks of the encrypted contents
own_block : (f : ℕ) (draw : Draw) (contents : List ℕ) (piece : KeptPiece) → IsUnitPiece f draw contents piece
    → Contains (blocks_of f (ciphered draw.key contents)) (numbered piece.cloud piece.block)
unfolding unit_piece block_of
own_block f draw contents piece own =
    let made = block_of f (ciphered draw.key contents) in
    let block : KeptPiece → Block = λ piece. numbered piece.cloud piece.block in (
      piece.cloud,
      omega (arith, own.below, length-map-range_with_len made 0 (3 * f + 1)),
      get_or-map-range_with_len made 0 (3 * f + 1) piece.cloud piece.cloud (block piece) own.below (omega arith)
          ∙ ap block (sym own.is),
    )

blocks_in-some : (f : ℕ) (draw : Draw) (contents : List ℕ) (pieces : List KeptPiece)
    → AreSomeOf f draw contents pieces → blocks.AreSomeOf f (ciphered draw.key contents) (blocks_in pieces)
blocks_in-some f draw contents pieces some =
    let own = all_own f draw contents pieces some.among in
    let block : KeptPiece → Block = λ piece. numbered piece.cloud piece.block in
    record {
      as_many = length-map pieces block ∙ some.as_many;
      different = subst AreDistinct (sym (numbers_of-blocks_in pieces)) some.different;
      among = All-map (Contains (blocks_of f (ciphered draw.key contents))) block pieces
          (λ k d l. own_block f draw contents (get_or pieces k d) (own k d l));
    }

-- their shares are shares of the key
own_share : (f : ℕ) (draw : Draw) (contents : List ℕ) (piece : KeptPiece) → IsUnitPiece f draw contents piece
    → Contains (shares_of f draw.key draw.coefficients) (placed piece)
unfolding unit_piece
own_share f draw contents piece own =
    Contains-shares_of f draw.key draw.coefficients (placed piece)
    (record { first = omega arith; last = omega (arith, own.below) }) (ap placed (sym own.is))

shares_in-some : (f : ℕ) (draw : Draw) (contents : List ℕ) (pieces : List KeptPiece)
    → AreSomeOf f draw contents pieces → AreSharesOf f draw.key draw.coefficients (shares_in pieces)
shares_in-some f draw contents pieces some =
    let own = all_own f draw contents pieces some.among in
    All-map (Contains (shares_of f draw.key draw.coefficients)) placed pieces
    (λ k d l. own_share f draw contents (get_or pieces k d) (own k d l))

joined-some : (f : ℕ) (draw : Draw) (contents : List ℕ) (pieces : List KeptPiece) → f ≤ 3 → IsDraw draw
    → AreSomeOf f draw contents pieces → joined (shares_in pieces) ≡ draw.key
joined-some f draw contents pieces few is some =
    let shares = shares_in pieces in
    sym (each_byte_from (joined_byte shares) draw.key is.key.long (λ k l.
    sym (joined_byte_is f draw.key draw.coefficients shares k l few (length-map pieces placed ∙ some.as_many)
    (AreDistinct-points pieces some.different) is.key is.coefficients (shares_in-some f draw contents pieces some))))

-- any f+1 pieces of one seal hold what was sealed
pub unseal-some : (f : ℕ) (draw : Draw) (contents : List ℕ) (pieces : List KeptPiece) → f ≤ 3 → IsDraw draw
    → AreBytes contents → AreSomeOf f draw contents pieces → unseal f pieces ≡ contents
unseal-some f draw contents pieces few is bytes some =
    let encrypted = ciphered draw.key contents in
    let whole : length_of pieces ≡ length encrypted =
    length_of-some f draw contents pieces (omega (arith, some.as_many)) (all_own f draw contents pieces some.among)
    ∙ sym (length-ciphered draw.key contents) in
    let given : contents_from f (length_of pieces) (blocks_in pieces) ≡ encrypted =
    ap (λ n. contents_from f n (blocks_in pieces)) whole
    ∙ contents_from-some f encrypted (blocks_in pieces) few (AreBytes-ciphered draw.key contents bytes)
    (blocks_in-some f draw contents pieces some) in
    ap₂ ciphered (joined-some f draw contents pieces few is some) given ∙ ciphered-ciphered draw.key contents

-- The contents that pieces of a unit hold.
use Rattle.std.specs.Prelude.{◌≡◌, ℕ, ◌+◌, ◌≤◌, List, [], ◌∷◌, length, map}
use Rattle.std.specs.List.{All, Contains}
use Rattle.scfs_gf256.specs.Polynomials.{AreDistinct}
use Rattle.scfs_erasure.specs.declared.block.Block.{Block}
use Rattle.scfs_erasure.specs.Blocks.{contents_from}
use Rattle.scfs_shamir.specs.declared.sharing.Share.{Share}
use Rattle.scfs_shamir.specs.Recovery.{joined}
use Rattle.scfs_stream.specs.declared.sealing.Draw.{Draw}
use Rattle.scfs_stream.specs.Stream.{ciphered}
use Rattle.scfs_unit.specs.declared.pieces.KeptPiece.{KeptPiece}
use Rattle.scfs_unit.specs.Unit.{unit_pieces}
use Rattle.scfs_unit.specs.Checking.{IsPiece}

-- the clouds of pieces
abbrev pub clouds_of : List KeptPiece → List ℕ
clouds_of pieces = map (λ piece. piece.cloud) pieces

-- their shares of the key, that of cloud c at the point c + 1
abbrev pub shares_in : List KeptPiece → List Share
shares_in pieces = map (λ piece. record { point = piece.cloud + 1; bytes = piece.share.bytes }) pieces

-- their blocks of the encrypted contents, each under its cloud's number
abbrev pub blocks_in : List KeptPiece → List Block
blocks_in pieces = map (λ piece. record { number = piece.cloud; bytes = piece.block }) pieces

-- the length of the contents, by the first piece
abbrev pub length_of : List KeptPiece → ℕ
length_of [] = 0
length_of (piece ∷ pieces) = piece.length

-- The contents of which these are f+1 pieces. The key is, byte by byte, the value at 0 of the only polynomial of f+1
-- coefficients through the shares; the encrypted contents are the first bytes of the only rows that have these blocks;
-- and the stream of the key is added to them.
abbrev pub unseal : ℕ → List KeptPiece → List ℕ
unseal f pieces = ciphered (joined (shares_in pieces)) (contents_from f (length_of pieces) (blocks_in pieces))

-- f+1 pieces of different clouds and of one length, which is at most 1,048,576
pub record AreEnough (f : ℕ) (pieces : List KeptPiece) : Type 0 where
  pub as_many : length pieces ≡ f + 1
  pub different : AreDistinct (clouds_of pieces)
  pub each : All (IsPiece f) pieces
  pub one_length : All (λ piece. piece.length ≡ length_of pieces) pieces
  pub small : length_of pieces ≤ 1048576

-- f+1 pieces of different clouds, all of them pieces of one seal
pub record AreSomeOf (f : ℕ) (draw : Draw) (contents : List ℕ) (pieces : List KeptPiece) : Type 0 where
  pub as_many : length pieces ≡ f + 1
  pub different : AreDistinct (clouds_of pieces)
  pub among : All (Contains (unit_pieces f draw contents)) pieces

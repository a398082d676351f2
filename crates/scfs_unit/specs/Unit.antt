-- The sealed unit, format 1: contents as one object for each of n = 3f+1 clouds, of which any f+1 give them back.
use Rattle.std.specs.Prelude.{ℕ, ◌+◌, ◌*◌, List, ◌∷◌, ◌++◌, length, map, codes, []}
use Rattle.std.specs.Int.{bytes_high_first}
use Rattle.std.specs.List.{flat_map}
use Rattle.sha2.specs.Sha256.{sha256}
use Rattle.scfs_digest.specs.Texts.{root_text, block_text, content_text}
use Rattle.scfs_erasure.specs.Rows.{numbers_below, piece}
use Rattle.scfs_shamir.specs.Shares.{share_of}
use Rattle.scfs_shamir.specs.Recovery.{IsRow, AreRows}
use Rattle.scfs_stream.specs.Stream.{ciphered}
use Rattle.scfs_stream.specs.declared.sealing.Draw.{Draw}
use Rattle.scfs_unit.specs.declared.pieces.KeptPiece.{KeptPiece}
use Rattle.scfs_unit.specs.declared.sealing.Sealed.{Sealed}

-- the piece of cloud i: of the shares of the key the one of the point i + 1, and block i of the encrypted contents
unfoldable pub unit_piece : ℕ → Draw → List ℕ → ℕ → KeptPiece
unit_piece f draw contents i = record {
  cloud = i;
  length = length contents;
  share = share_of f draw.key draw.coefficients (i + 1);
  block = piece f (ciphered draw.key contents) i;
}

-- the pieces of the n clouds
abbrev pub unit_pieces : ℕ → Draw → List ℕ → List KeptPiece
unit_pieces f draw contents = map (unit_piece f draw contents) (numbers_below (3 * f + 1))

-- the bytes of a piece: those of its share, then those of its block
abbrev pub piece_bytes : KeptPiece → List ℕ
piece_bytes piece = piece.share.bytes ++ piece.block

-- the text of which a piece's digest is taken
abbrev pub piece_text : KeptPiece → List ℕ
piece_text piece = block_text piece.cloud (piece_bytes piece)

-- how objects and manifests begin: "SCF1" and f in one byte
abbrev pub magic : ℕ → List ℕ
magic f = codes "SCF1" ++ f ∷ []

-- a manifest over pieces: that, the length of the contents in four bytes with the highest first, and the digests of the
-- pieces
abbrev pub manifest_over : ℕ → ℕ → List KeptPiece → List ℕ
manifest_over f size pieces =
    magic f ++ bytes_high_first 4 size ++ flat_map (λ piece. sha256 (piece_text piece)) pieces

-- the manifest of contents
unfoldable pub manifest : ℕ → Draw → List ℕ → List ℕ
manifest f draw contents = manifest_over f (length contents) (unit_pieces f draw contents)

-- the object of cloud i: the manifest, and behind it the piece
unfoldable pub object : ℕ → Draw → List ℕ → ℕ → List ℕ
object f draw contents i = manifest f draw contents ++ piece_bytes (unit_piece f draw contents i)

-- contents sealed for the n clouds: the manifest, its digest, the digest of the contents, and the objects
abbrev pub sealed : ℕ → Draw → List ℕ → Sealed
sealed f draw contents = record {
  manifest = manifest f draw contents;
  root = record { 0 = sha256 (root_text (manifest f draw contents)) };
  content = record { 0 = sha256 (content_text contents) };
  objects = map (object f draw contents) (numbers_below (3 * f + 1));
}

-- a draw by its form: a key of 32 bytes, and rows of coefficients of 32 bytes
pub record IsDraw (draw : Draw) : Type 0 where
  pub key : IsRow draw.key
  pub coefficients : AreRows draw.coefficients

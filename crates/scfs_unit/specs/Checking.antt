-- What stands in the bytes of an object, and whether they are accepted.
use Rattle.std.specs.Prelude.{◌≡◌, ℕ, ◌+◌, ◌*◌, ◌<◌, List, length, take, drop, Bool, ◌&&◌, not, ◌==◌, nat_eq, nat_le, if◌then◌else◌, Result, Ok, Err}
use Rattle.std.specs.Int.{w32, from_be_bytes}
use Rattle.std.specs.List.{starts_with}
use Rattle.std.specs.Str.{bytes_eq}
use Rattle.sha2.specs.Sha256.{sha256}
use Rattle.scfs_base.specs.declared.naming.Digest.{Digest}
use Rattle.scfs_digest.specs.Texts.{root_text, block_text}
use Rattle.scfs_erasure.specs.Rows.{row_length}
use Rattle.scfs_shamir.specs.declared.sharing.Share.{Share}
use Rattle.scfs_unit.specs.declared.pieces.KeptPiece.{KeptPiece}
use Rattle.scfs_unit.specs.declared.pieces.BadPiece.{BadPiece}
use Rattle.scfs_unit.specs.declared.pieces.BadPiece.TheVariants as bad
use Rattle.scfs_unit.specs.Unit.{magic}

-- a piece by its parts
abbrev pub kept : ℕ → ℕ → Share → List ℕ → KeptPiece
kept cloud size share block = record { cloud = cloud; length = size; share = share; block = block }

-- how many bytes a manifest has: "SCF1", f, the length, and the digests of n = 3f+1 pieces
abbrev pub manifest_size : ℕ → ℕ
manifest_size f = 9 + 32 * (3 * f + 1)

-- how many bytes an object has over contents of this length: manifest, share and block
abbrev pub object_size : ℕ → ℕ → ℕ
object_size f size = manifest_size f + 32 + row_length f size

-- the length of the contents that stands in the bytes 5 to 8
abbrev pub length_in : List ℕ → ℕ
length_in bytes = from_be_bytes w32 (take 4 (drop 5 bytes))

-- the manifest that stands in the bytes
abbrev pub manifest_in : ℕ → List ℕ → List ℕ
manifest_in f bytes = take (manifest_size f) bytes

-- the bytes of the piece: all that is behind the manifest
abbrev pub rest_in : ℕ → List ℕ → List ℕ
rest_in f bytes = drop (manifest_size f) bytes

-- the digest of the cloud's piece that stands in a manifest
abbrev pub digest_in : ℕ → List ℕ → List ℕ
digest_in cloud manifest = take 32 (drop (9 + 32 * cloud) manifest)

-- the piece that stands in the bytes: 32 bytes of share, and the block
abbrev pub piece_in : ℕ → ℕ → List ℕ → KeptPiece
piece_in f cloud bytes =
    kept cloud (length_in bytes) (record { point = cloud + 1; bytes = take 32 (rest_in f bytes) })
    (drop 32 (rest_in f bytes))

-- there is room for manifest and share, and there are as many bytes as the length in them demands
unfoldable pub has_length : ℕ → List ℕ → Bool
has_length f bytes =
    nat_le (manifest_size f + 32) (length bytes) && (length bytes == object_size f (length_in bytes))

-- "SCF1" and f come first
unfoldable pub has_magic : ℕ → List ℕ → Bool
has_magic f bytes = starts_with nat_eq bytes (magic f)

-- the root is that of the manifest
unfoldable pub has_root : ℕ → Digest → List ℕ → Bool
has_root f root bytes = bytes_eq (sha256 (root_text (manifest_in f bytes))) root.0

-- the digest of the rest, with the cloud's number, is the manifest's
unfoldable pub has_piece : ℕ → ℕ → List ℕ → Bool
has_piece f cloud bytes =
    bytes_eq (sha256 (block_text cloud (rest_in f bytes))) (digest_in cloud (manifest_in f bytes))

-- the bytes as an object of the cloud under the root: the piece in them, or the first of the four tests that fails
unfoldable pub checked : ℕ → ℕ → Digest → List ℕ → Result KeptPiece BadPiece
checked f cloud root bytes =
    if not (has_length f bytes) then Err bad.Length
    else if not (has_magic f bytes) then Err bad.Magic
    else if not (has_root f root bytes) then Err bad.Root
    else if not (has_piece f cloud bytes) then Err bad.Piece
    else Ok (piece_in f cloud bytes)

-- what each accepted piece is: of one of the n clouds, with the share of the point after the cloud's number, and with a
-- block as long as its length demands
pub record IsPiece (f : ℕ) (piece : KeptPiece) : Type 0 where
  pub below : piece.cloud < 3 * f + 1
  pub point : piece.share.point ≡ piece.cloud + 1
  pub long : length piece.block ≡ row_length f piece.length

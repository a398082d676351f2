-- What is accepted under the root of a seal.
use Rattle.std.proofs.Common.{◌≡◌, ℕ, zero, suc, ◌+◌, ◌*◌, ◌<◌, ◌≤◌, ◌^◌, List, [], ◌∷◌, ◌++◌, length, take, drop, get_or}
use Rattle.std.specs.Prelude.{nat_le, ◌==◌}
use Rattle.std.proofs.Common.{true, Ok, refl, sym, ap, ap₂, ◌∙◌, subst, arith}
use Rattle.std.specs.Int.{bytes_high_first}
use Rattle.std.specs.List.{Contains, flat_map}
use Rattle.std.specs.Str.{bytes_eq}
use Rattle.std.proofs.Math.Seq.{take-append_seam, drop-append_seam}
use Rattle.std.proofs.lemmas.Bool.{and_parts, and_from, leb-true, le-leb, eqb-true, eq-eqb, cond-true}
use Rattle.std.proofs.lemmas.List.{length-map, get_or-map, length-append, length-drop, take-append-drop, drop-drop}
use Rattle.std.proofs.lemmas.List.Elements.{Contains-append_left, Contains-append_right}
use Rattle.std.proofs.lemmas.List.FromFn.{length-map-range_with_len, get_or-map-range_with_len}
use Rattle.std.proofs.lemmas.Nat.{from_be_bytes-to_be_bytes_4}
use Rattle.std.proofs.lemmas.Slice.Eq.{bytes_eq-Decides}
use Rattle.sha2.specs.Sha256.{sha256}
use Rattle.sha2.proofs.Facts256.{length-sha256}
use Rattle.scfs_base.specs.declared.naming.Digest.{Digest}
use Rattle.scfs_digest.specs.Texts.{root_text, block_text}
use Rattle.scfs_erasure.specs.Rows.{row_length, piece}
use Rattle.scfs_erasure.proofs.ContentLemmas.{length-piece}
use Rattle.scfs_shamir.specs.Shares.{share_byte}
use Rattle.scfs_shamir.proofs.RowLemmas.{length-each_byte}
use Rattle.scfs_stream.specs.Stream.{ciphered}
use Rattle.scfs_stream.specs.declared.sealing.Draw.{Draw}
use Rattle.scfs_stream.proofs.StreamFacts.{length-ciphered}
use Rattle.scfs_unit.specs.declared.pieces.KeptPiece.{KeptPiece}
use Rattle.scfs_unit.specs.Unit.{unit_piece, unit_pieces, piece_bytes, piece_text, magic, manifest_over, manifest, object, sealed}
use Rattle.scfs_unit.specs.Checking.{kept, manifest_size, object_size, length_in, manifest_in, rest_in, digest_in, piece_in}
use Rattle.scfs_unit.specs.Checking.{has_length, has_magic, has_root, has_piece, checked, IsPiece}
use Rattle.scfs_unit.specs.Clash.{blocks_of_seal, blocks_of_answer, NoClash}
use Rattle.scfs_unit.proofs.CheckingLemmas.{checked-passed, checked_all}

bytes_eq_same : (xs ys : List ℕ) → xs ≡ ys → bytes_eq xs ys ≡ true
bytes_eq_same xs ys e = (bytes_eq-Decides xs ys).1 e

-- ---- the digests of a manifest

digest_of : KeptPiece → List ℕ
digest_of piece = sha256 (piece_text piece)

length-digests : (pieces : List KeptPiece) → length (flat_map digest_of pieces) ≡ 32 * length pieces
unfolding digest_of
length-digests [] = refl
length-digests (piece ∷ pieces) =
    length-append (digest_of piece) (flat_map digest_of pieces)
    ∙ ap₂ (λ a b. a + b) (length-sha256 (piece_text piece)) (length-digests pieces)
    ∙ one_more (length pieces)
  where
    one_more : (n : ℕ) → 32 + 32 * n ≡ 32 * suc n
    one_more n = omega arith

first_part : (xs ys : List ℕ) (n : ℕ) → length xs ≡ n → take n (xs ++ ys) ≡ xs
first_part xs ys n e = ap (λ n. take n (xs ++ ys)) (sym e) ∙ take-append_seam xs ys

last_part : (xs ys : List ℕ) (n : ℕ) → length xs ≡ n → drop n (xs ++ ys) ≡ ys
last_part xs ys n e = ap (λ n. drop n (xs ++ ys)) (sym e) ∙ drop-append_seam xs ys

-- the digest at a place
digest_at : (pieces : List KeptPiece) (i : ℕ) (d : KeptPiece) → i < length pieces
    → take 32 (drop (32 * i) (flat_map digest_of pieces)) ≡ digest_of (get_or pieces i d)
unfolding digest_of
digest_at [] i d l = absurd (omega arith)
digest_at (piece ∷ pieces) zero d l =
    first_part (digest_of piece) (flat_map digest_of pieces) 32 (length-sha256 (piece_text piece))
digest_at (piece ∷ pieces) (suc i) d l =
    let step : 32 * suc i ≡ 32 + 32 * i = omega arith in
    let all = digest_of piece ++ flat_map digest_of pieces in
    ap (λ n. take 32 (drop n all)) step
    ∙ ap (take 32) (sym (drop-drop (32 * i) 32 all))
    ∙ ap (λ rest. take 32 (drop (32 * i) rest)) (last_part (digest_of piece) (flat_map digest_of pieces) 32 (length-sha256 (piece_text piece)))
    ∙ digest_at pieces i d (omega arith)

-- a manifest over pieces: nine bytes and their digests
over-nine : (f size : ℕ) (pieces : List KeptPiece) → drop 9 (manifest_over f size pieces) ≡ flat_map digest_of pieces
unfolding digest_of
over-nine f size pieces = refl

length-over : (f size : ℕ) (pieces : List KeptPiece) → length (manifest_over f size pieces) ≡ 9 + 32 * length pieces
unfolding digest_of
length-over f size pieces =
    let rest = length-digests pieces in
    let all : length (manifest_over f size pieces) ≡ 9 + length (flat_map digest_of pieces) =
    length-append (magic f ++ bytes_high_first 4 size) (flat_map digest_of pieces) in
    omega (arith, rest, all)

length-unit_pieces : (f : ℕ) (draw : Draw) (contents : List ℕ) → length (unit_pieces f draw contents) ≡ 3 * f + 1
length-unit_pieces f draw contents = length-map-range_with_len (unit_piece f draw contents) 0 (3 * f + 1)

length-manifest : (f : ℕ) (draw : Draw) (contents : List ℕ) → length (manifest f draw contents) ≡ manifest_size f
unfolding manifest
length-manifest f draw contents =
    length-over f (length contents) (unit_pieces f draw contents)
    ∙ ap (λ n. 9 + 32 * n) (length-unit_pieces f draw contents)

-- the digest of each cloud's piece stands in it
digest_in-manifest : (f : ℕ) (draw : Draw) (contents : List ℕ) (cloud : ℕ) → cloud < 3 * f + 1
    → digest_in cloud (manifest f draw contents) ≡ sha256 (piece_text (unit_piece f draw contents cloud))
unfolding manifest digest_of
digest_in-manifest f draw contents cloud below =
    let pieces = unit_pieces f draw contents in
    let made = unit_piece f draw contents in
    ap (take 32) (sym (drop-drop (32 * cloud) 9 (manifest_over f (length contents) pieces)))
    ∙ ap (λ rest. take 32 (drop (32 * cloud) rest)) (over-nine f (length contents) pieces)
    ∙ digest_at pieces cloud (made 0) (omega (arith, length-unit_pieces f draw contents))
    ∙ ap digest_of (get_or-map-range_with_len made 0 (3 * f + 1) cloud cloud (made 0) below (omega arith))

-- ---- what passed the tests

-- the two parts of the first test
record IsWhole (f : ℕ) (bytes : List ℕ) : Type 0 where
  room : manifest_size f + 32 ≤ length bytes
  whole : length bytes ≡ object_size f (length_in bytes)

IsWhole-has_length : (f : ℕ) (bytes : List ℕ) → has_length f bytes ≡ true → IsWhole f bytes
unfolding has_length
IsWhole-has_length f bytes h =
    let both = and_parts (nat_le (manifest_size f + 32) (length bytes)) (length bytes == object_size f (length_in bytes)) h in
    record {
      room = leb-true (manifest_size f + 32) (length bytes) both.0;
      whole = eqb-true (length bytes) (object_size f (length_in bytes)) both.1;
    }

-- an accepted piece is of its cloud, and has its form
pub IsPiece-checked : (f cloud : ℕ) (root : Digest) (bytes : List ℕ) (piece : KeptPiece) → cloud < 3 * f + 1
    → checked f cloud root bytes ≡ Ok piece → (piece.cloud ≡ cloud) × IsPiece f piece
IsPiece-checked f cloud root bytes piece below e =
    let passed = checked-passed f cloud root bytes piece e in
    let is = IsWhole-has_length f bytes passed.has_length in
    let rest = drop (manifest_size f) bytes in
    let long : length (drop 32 rest) ≡ row_length f (length_in bytes) =
    omega (arith, is.room, is.whole, length-drop 32 rest, length-drop (manifest_size f) bytes) in (
      ap (λ (piece : KeptPiece). piece.cloud) passed.is,
      subst (IsPiece f) (sym passed.is) (record { below = below; point = refl; long = long }),
    )

-- the two blocks of an answer that has room for them
in_answer_first : (f cloud : ℕ) (bytes : List ℕ) → manifest_size f + 32 ≤ length bytes
    → Contains (blocks_of_answer f cloud bytes) (root_text (manifest_in f bytes))
in_answer_first f cloud bytes room =
    let a = root_text (manifest_in f bytes) in
    let b = block_text cloud (rest_in f bytes) in
    subst (λ blocks. Contains blocks a)
    (sym (cond-true (nat_le (manifest_size f + 32) (length bytes)) (a ∷ b ∷ []) []
    (le-leb (manifest_size f + 32) (length bytes) room)))
    (0, omega arith, refl)

in_answer_second : (f cloud : ℕ) (bytes : List ℕ) → manifest_size f + 32 ≤ length bytes
    → Contains (blocks_of_answer f cloud bytes) (block_text cloud (rest_in f bytes))
in_answer_second f cloud bytes room =
    let a = root_text (manifest_in f bytes) in
    let b = block_text cloud (rest_in f bytes) in
    subst (λ blocks. Contains blocks b)
    (sym (cond-true (nat_le (manifest_size f + 32) (length bytes)) (a ∷ b ∷ []) []
    (le-leb (manifest_size f + 32) (length bytes) room)))
    (1, omega arith, refl)

-- the block of a cloud's piece among those of a seal
in_seal : (f : ℕ) (draw : Draw) (contents : List ℕ) (cloud : ℕ) → cloud < 3 * f + 1
    → Contains (blocks_of_seal f draw contents) (piece_text (unit_piece f draw contents cloud))
in_seal f draw contents cloud below =
    let pieces = unit_pieces f draw contents in
    let made = unit_piece f draw contents in
    let text = piece_text (made cloud) in
    let long = length-map pieces piece_text in (
      suc (suc cloud),
      omega (arith, long, length-unit_pieces f draw contents),
      get_or-map piece_text pieces cloud (made 0) text (omega (arith, length-unit_pieces f draw contents))
          ∙ ap piece_text (get_or-map-range_with_len made 0 (3 * f + 1) cloud cloud (made 0) below (omega arith)),
    )

piece_text-unit_piece : (f : ℕ) (draw : Draw) (contents : List ℕ) (cloud : ℕ)
    → piece_text (unit_piece f draw contents cloud) ≡ block_text cloud (piece_bytes (unit_piece f draw contents cloud))
unfolding unit_piece
piece_text-unit_piece f draw contents cloud = refl

same_rest : (cloud : ℕ) (xs ys : List ℕ) → block_text cloud xs ≡ block_text cloud ys → xs ≡ ys
same_rest cloud xs ys e = cc

same_manifest : (xs ys : List ℕ) → root_text xs ≡ root_text ys → xs ≡ ys
same_manifest xs ys e = cc

-- under the root of a seal nothing is accepted but its object, where no two different blocks share a digest
pub object_only : (f : ℕ) (draw : Draw) (contents : List ℕ) (cloud : ℕ) (bytes : List ℕ) (piece : KeptPiece)
    → cloud < 3 * f + 1 → NoClash (blocks_of_seal f draw contents ++ blocks_of_answer f cloud bytes)
    → checked f cloud (sealed f draw contents).root bytes ≡ Ok piece → bytes ≡ object f draw contents cloud
unfolding has_root has_piece object
object_only f draw contents cloud bytes piece below apart e =
    let ours = blocks_of_seal f draw contents in
    let theirs = blocks_of_answer f cloud bytes in
    let made = manifest f draw contents in
    let own = unit_piece f draw contents cloud in
    let passed = checked-passed f cloud (sealed f draw contents).root bytes piece e in
    let room = (IsWhole-has_length f bytes passed.has_length).room in
    let rooted : sha256 (root_text (manifest_in f bytes)) ≡ sha256 (root_text made) =
    (bytes_eq-Decides (sha256 (root_text (manifest_in f bytes))) (sha256 (root_text made))).0 passed.has_root in
    let front : manifest_in f bytes ≡ made =
    same_manifest (manifest_in f bytes) made (apart (root_text (manifest_in f bytes)) (root_text made)
    (Contains-append_right ours theirs (root_text (manifest_in f bytes)) (in_answer_first f cloud bytes room))
    (Contains-append_left ours theirs (root_text made) (0, omega arith, refl)) rooted) in
    let digest : sha256 (block_text cloud (rest_in f bytes)) ≡ digest_in cloud (manifest_in f bytes) =
    (bytes_eq-Decides (sha256 (block_text cloud (rest_in f bytes))) (digest_in cloud (manifest_in f bytes))).0
    passed.has_piece in
    let same : sha256 (block_text cloud (rest_in f bytes)) ≡ sha256 (piece_text own) =
    digest ∙ ap (digest_in cloud) front ∙ digest_in-manifest f draw contents cloud below in
    let back : rest_in f bytes ≡ piece_bytes own =
    same_rest cloud (rest_in f bytes) (piece_bytes own) (apart (block_text cloud (rest_in f bytes)) (piece_text own)
    (Contains-append_right ours theirs (block_text cloud (rest_in f bytes)) (in_answer_second f cloud bytes room))
    (Contains-append_left ours theirs (piece_text own) (in_seal f draw contents cloud below)) same
    ∙ piece_text-unit_piece f draw contents cloud) in
    sym (take-append-drop (manifest_size f) bytes) ∙ ap₂ (λ a b. a ++ b) front back

-- ---- the objects of a seal

object-front : (f : ℕ) (draw : Draw) (contents : List ℕ) (cloud : ℕ)
    → manifest_in f (object f draw contents cloud) ≡ manifest f draw contents
unfolding object
object-front f draw contents cloud =
    first_part (manifest f draw contents) (piece_bytes (unit_piece f draw contents cloud)) (manifest_size f)
    (length-manifest f draw contents)

object-back : (f : ℕ) (draw : Draw) (contents : List ℕ) (cloud : ℕ)
    → rest_in f (object f draw contents cloud) ≡ piece_bytes (unit_piece f draw contents cloud)
unfolding object
object-back f draw contents cloud =
    last_part (manifest f draw contents) (piece_bytes (unit_piece f draw contents cloud)) (manifest_size f)
    (length-manifest f draw contents)

length_in-object : (f : ℕ) (draw : Draw) (contents : List ℕ) (cloud : ℕ) → length contents < 2 ^ 32
    → length_in (object f draw contents cloud) ≡ length contents
unfolding object manifest
length_in-object f draw contents cloud small = from_be_bytes-to_be_bytes_4 (length contents) small

magic-object : (f : ℕ) (draw : Draw) (contents : List ℕ) (cloud : ℕ)
    → take 5 (object f draw contents cloud) ≡ magic f
unfolding object manifest
magic-object f draw contents cloud = refl

length-share : (f : ℕ) (draw : Draw) (contents : List ℕ) (cloud : ℕ)
    → length (unit_piece f draw contents cloud).share.bytes ≡ 32
unfolding unit_piece
length-share f draw contents cloud = length-each_byte (share_byte f draw.key draw.coefficients (cloud + 1))

length-block : (f : ℕ) (draw : Draw) (contents : List ℕ) (cloud : ℕ)
    → length (unit_piece f draw contents cloud).block ≡ row_length f (length contents)
unfolding unit_piece
length-block f draw contents cloud =
    length-piece f (ciphered draw.key contents) cloud ∙ ap (row_length f) (length-ciphered draw.key contents)

length-object : (f : ℕ) (draw : Draw) (contents : List ℕ) (cloud : ℕ)
    → length (object f draw contents cloud) ≡ object_size f (length contents)
unfolding object
length-object f draw contents cloud =
    let own = unit_piece f draw contents cloud in
    let whole = length-append (manifest f draw contents) (piece_bytes own) in
    let parts = length-append own.share.bytes own.block in
    omega (
      arith,
      whole,
      parts,
      length-manifest f draw contents,
      length-share f draw contents cloud,
      length-block f draw contents cloud,
    )

-- the piece that stands in the object
kept-unit_piece : (f : ℕ) (draw : Draw) (contents : List ℕ) (cloud : ℕ)
    → kept cloud (length contents)
    (record { point = cloud + 1; bytes = (unit_piece f draw contents cloud).share.bytes })
    (unit_piece f draw contents cloud).block
    ≡ unit_piece f draw contents cloud
unfolding unit_piece
kept-unit_piece f draw contents cloud = refl

piece_in-object : (f : ℕ) (draw : Draw) (contents : List ℕ) (cloud : ℕ) → length contents < 2 ^ 32
    → piece_in f cloud (object f draw contents cloud) ≡ unit_piece f draw contents cloud
piece_in-object f draw contents cloud small =
    let own = unit_piece f draw contents cloud in
    let whole = object f draw contents cloud in
    let build : ℕ → List ℕ → List ℕ → KeptPiece =
    λ size share block. kept cloud size (record { point = cloud + 1; bytes = share }) block in
    let front : take 32 (rest_in f whole) ≡ own.share.bytes =
    ap (take 32) (object-back f draw contents cloud)
    ∙ first_part own.share.bytes own.block 32 (length-share f draw contents cloud) in
    let back : drop 32 (rest_in f whole) ≡ own.block =
    ap (drop 32) (object-back f draw contents cloud)
    ∙ last_part own.share.bytes own.block 32 (length-share f draw contents cloud) in
    ap (λ size. build size (take 32 (rest_in f whole)) (drop 32 (rest_in f whole))) (length_in-object f draw contents cloud small)
    ∙ ap₂ (build (length contents)) front back
    ∙ kept-unit_piece f draw contents cloud

has_length-object : (f : ℕ) (draw : Draw) (contents : List ℕ) (cloud : ℕ) → length contents < 2 ^ 32
    → has_length f (object f draw contents cloud) ≡ true
unfolding has_length
has_length-object f draw contents cloud small =
    let whole = object f draw contents cloud in
    let long = length-object f draw contents cloud in
    let told = ap (object_size f) (length_in-object f draw contents cloud small) in
    and_from (nat_le (manifest_size f + 32) (length whole)) (length whole == object_size f (length_in whole))
    (le-leb (manifest_size f + 32) (length whole) (omega (arith, long)))
    (eq-eqb (length whole) (object_size f (length_in whole)) (long ∙ sym told))

has_magic-object : (f : ℕ) (draw : Draw) (contents : List ℕ) (cloud : ℕ)
    → has_magic f (object f draw contents cloud) ≡ true
unfolding has_magic
has_magic-object f draw contents cloud =
    bytes_eq_same (magic f) (take 5 (object f draw contents cloud)) (sym (magic-object f draw contents cloud))

has_root-object : (f : ℕ) (draw : Draw) (contents : List ℕ) (cloud : ℕ)
    → has_root f (sealed f draw contents).root (object f draw contents cloud) ≡ true
unfolding has_root
has_root-object f draw contents cloud =
    bytes_eq_same (sha256 (root_text (manifest_in f (object f draw contents cloud)))) (sha256 (root_text (manifest f draw contents)))
    (ap (λ text. sha256 (root_text text)) (object-front f draw contents cloud))

has_piece-object : (f : ℕ) (draw : Draw) (contents : List ℕ) (cloud : ℕ) → cloud < 3 * f + 1
    → has_piece f cloud (object f draw contents cloud) ≡ true
unfolding has_piece
has_piece-object f draw contents cloud below =
    let whole = object f draw contents cloud in
    bytes_eq_same (sha256 (block_text cloud (rest_in f whole))) (digest_in cloud (manifest_in f whole))
    (ap (λ text. sha256 (block_text cloud text)) (object-back f draw contents cloud)
    ∙ ap sha256 (sym (piece_text-unit_piece f draw contents cloud))
    ∙ sym (ap (digest_in cloud) (object-front f draw contents cloud) ∙ digest_in-manifest f draw contents cloud below))

-- each object of a seal is accepted for its cloud, as its piece
pub checked-object : (f : ℕ) (draw : Draw) (contents : List ℕ) (cloud : ℕ) → length contents < 2 ^ 32 → cloud < 3 * f + 1
    → checked f cloud (sealed f draw contents).root (object f draw contents cloud) ≡ Ok (unit_piece f draw contents cloud)
checked-object f draw contents cloud small below =
    checked_all f cloud (sealed f draw contents).root (object f draw contents cloud)
    (has_length-object f draw contents cloud small) (has_magic-object f draw contents cloud)
    (has_root-object f draw contents cloud) (has_piece-object f draw contents cloud below)
    ∙ ap Ok (piece_in-object f draw contents cloud small)

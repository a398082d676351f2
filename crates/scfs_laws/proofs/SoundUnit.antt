-- Where no two different blocks share a digest, f + 1 good pieces of different clouds under the root of a seal give back what was sealed.
use Rattle.std.proofs.Common.{◌≡◌, ℕ, zero, suc, ◌+◌, ◌*◌, ◌/◌, ◌%◌, ◌<◌, ◌≤◌, List, [], ◌∷◌, ◌++◌, length, map, replicate, refl, sym, ap, ap₂, ◌∙◌, subst, arith, Some, Result, Ok, Err, Bool, true, false, cond, slice_get, take-append-drop}
use Rattle.std.specs.Prelude.{nat_le, ◌==◌}
use Rattle.std.specs.Int.{byte_at}
use Rattle.std.specs.List.{Contains, range_with_len}
use Rattle.std.proofs.lemmas.Bool.{and_parts, leb-true, le-leb, cond-true}
use Rattle.std.proofs.lemmas.List.Elements.{All-nil, All-cons, All-from_get_or, All-replicate, All-weaker}
use Rattle.std.proofs.lemmas.List.FromFn.{length-map-range_with_len, get_or-map-range_with_len}
use Rattle.std.proofs.lemmas.Slice.Eq.{bytes_eq-Decides}
use Rattle.sha2.specs.Sha256.{sha256}
use Rattle.scfs_base.specs.declared.naming.Digest.{Digest}
use Rattle.scfs_base.specs.declared.cloud.CloudAnswer.TheVariants as answers
use Rattle.scfs_digest.specs.Texts.{root_text, block_text, draw_text}
use Rattle.scfs_shamir.specs.Recovery.{IsRow}
use Rattle.scfs_stream.specs.Stream.{stream_part, stream_byte, stream_word}
use Rattle.scfs_stream.specs.Drawn.{drawn_row, drawn}
use Rattle.scfs_stream.proofs.StreamFacts.{length-stream_part, get_or-stream_part}
use Rattle.scfs_unit.specs.declared.pieces.KeptPiece.{KeptPiece}
use Rattle.scfs_unit.specs.declared.pieces.BadPiece.{BadPiece}
use Rattle.scfs_unit.specs.Unit.{unit_piece, unit_pieces, object, sealed, IsDraw}
use Rattle.scfs_unit.specs.Checking.{manifest_size, object_size, length_in, manifest_in, rest_in, digest_in, has_length, has_root, has_piece, checked}
use Rattle.scfs_unit.specs.Clash.{blocks_of_answer, NoClash}
use Rattle.scfs_unit.proofs.CheckingLemmas.{checked-passed}
use Rattle.scfs_unit.proofs.AcceptanceLemmas.{checked-object, IsPiece-checked}
use Rattle.scfs_unit.proofs.UnsealLemmas.{unseal-some}
use Rattle.scfs_schedule.specs.declared.types.Header.{Header}
use Rattle.scfs_model.specs.Lists.{if_some}
use Rattle.scfs_model.specs.Format.{Setup, clouds_of, seed_of, object_at}
use Rattle.scfs_model.specs.Format as format
use Rattle.scfs_model.specs.UnitFormat.{draw_for, accepted, under}
use Rattle.scfs_model.specs.Layers.{Version}
use Rattle.scfs_laws.proofs.Lists.{each-all}
use Rattle.scfs_laws.proofs.SoundKept.{IsVersion, IsGood, IsHeard}
use Rattle.scfs_laws.proofs.SoundStates.{GivesBack}

-- each of these blocks is among those
abbrev pub AreAmong : List (List ℕ) → List (List ℕ) → Type 0
AreAmong part whole = (block : List ℕ) → Contains part block → Contains whole block

-- the blocks of these bytes, as an object of a cloud, are
abbrev pub IsAmong : (f : ℕ) → List (List ℕ) → (c : ℕ) → (bytes : List ℕ) → Type 0
IsAmong f whole c bytes = AreAmong (blocks_of_answer f c bytes) whole

-- ---- bytes that pass under one root

room_of : (f : ℕ) (bytes : List ℕ) → has_length f bytes ≡ true → manifest_size f + 32 ≤ length bytes
unfolding has_length
room_of f bytes h =
    leb-true (manifest_size f + 32) (length bytes)
    (and_parts (nat_le (manifest_size f + 32) (length bytes)) (length bytes == object_size f (length_in bytes)) h).0

-- the two blocks of bytes that have room for them
blocks_are : (f c : ℕ) (bytes : List ℕ) → manifest_size f + 32 ≤ length bytes
    → blocks_of_answer f c bytes ≡ root_text (manifest_in f bytes) ∷ block_text c (rest_in f bytes) ∷ []
blocks_are f c bytes room =
    cond-true (nat_le (manifest_size f + 32) (length bytes)) (root_text (manifest_in f bytes) ∷ block_text c (rest_in f bytes) ∷ []) []
    (le-leb (manifest_size f + 32) (length bytes) room)

same_manifest : (xs ys : List ℕ) → root_text xs ≡ root_text ys → xs ≡ ys
same_manifest xs ys e = cc

same_rest : (c : ℕ) (xs ys : List ℕ) → block_text c xs ≡ block_text c ys → xs ≡ ys
same_rest c xs ys e = cc

-- bytes that pass for a cloud under a root, with the digests that they have
record HasPassed (f c : ℕ) (root : Digest) (whole : List (List ℕ)) (bytes : List ℕ) : Type 0 where
  front : Contains whole (root_text (manifest_in f bytes))
  back : Contains whole (block_text c (rest_in f bytes))
  rooted : sha256 (root_text (manifest_in f bytes)) ≡ root.0
  named : sha256 (block_text c (rest_in f bytes)) ≡ digest_in c (manifest_in f bytes)

has_passed : (f c : ℕ) (root : Digest) (whole : List (List ℕ)) (bytes : List ℕ) (piece : KeptPiece) → IsAmong f whole c bytes
    → checked f c root bytes ≡ Ok piece → HasPassed f c root whole bytes
unfolding has_root has_piece
has_passed f c root whole bytes piece among e =
    let passed = checked-passed f c root bytes piece e in
    let both = blocks_are f c bytes (room_of f bytes passed.has_length) in
    let front = root_text (manifest_in f bytes) in
    let back = block_text c (rest_in f bytes) in
    record {
      front = among front (subst (λ blocks. Contains blocks front) (sym both) (0, omega arith, refl));
      back = among back (subst (λ blocks. Contains blocks back) (sym both) (1, omega arith, refl));
      rooted = (bytes_eq-Decides (sha256 (root_text (manifest_in f bytes))) root.0).0 passed.has_root;
      named = (bytes_eq-Decides (sha256 (block_text c (rest_in f bytes))) (digest_in c (manifest_in f bytes))).0 passed.has_piece;
    }

-- where no two different blocks share a digest they are the same
same_bytes : (f c : ℕ) (root : Digest) (whole : List (List ℕ)) (xs ys : List ℕ) → NoClash whole
    → HasPassed f c root whole xs → HasPassed f c root whole ys → xs ≡ ys
same_bytes f c root whole xs ys apart h k =
    let front : manifest_in f xs ≡ manifest_in f ys =
    same_manifest (manifest_in f xs) (manifest_in f ys)
    (apart (root_text (manifest_in f xs)) (root_text (manifest_in f ys)) h.front k.front (h.rooted ∙ sym k.rooted)) in
    let back : rest_in f xs ≡ rest_in f ys =
    same_rest c (rest_in f xs) (rest_in f ys)
    (apart (block_text c (rest_in f xs)) (block_text c (rest_in f ys)) h.back k.back (h.named ∙ ap (digest_in c) front ∙ sym k.named)) in
    sym (take-append-drop (manifest_size f) xs) ∙ ap₂ (λ a b. a ++ b) front back ∙ take-append-drop (manifest_size f) ys

-- ---- what is drawn is a draw

byte_of_stream : (key : List ℕ) (i : ℕ) → stream_byte key i < 256
unfolding stream_byte
byte_of_stream key i = lowest (i % 4) (stream_word key (i / 4))
  where
    lowest : (j n : ℕ) → byte_at j n < 256
    lowest zero n = omega arith
    lowest (suc j) n = omega arith

row_of_stream : (key : List ℕ) (from : ℕ) → IsRow (stream_part key from 32)
row_of_stream key from = record {
  long = length-stream_part key from 32;
  bytes = All-from_get_or (λ x. x < 256) (stream_part key from 32) 0 (λ i l.
      let within : i < 32 = omega (arith, length-stream_part key from 32) in
      subst (λ x. x < 256) (sym (get_or-stream_part key from 32 i within)) (byte_of_stream key (from + i)));
}

row_by : (b : Bool) (key : List ℕ) (from : ℕ) → IsRow (cond b (stream_part key from 32) (replicate 32 0))
row_by true key from = row_of_stream key from
row_by false key from = record { long = refl; bytes = All-replicate (λ x. x < 256) 32 0 (omega arith) }

IsDraw-drawn : (seed : List ℕ) (f : ℕ) → IsDraw (drawn seed f)
IsDraw-drawn seed f = record {
  key = row_of_stream seed 0;
  coefficients = record {
    three = refl;
    each =
        All-cons IsRow (drawn_row seed f 1) (drawn_row seed f 2 ∷ drawn_row seed f 3 ∷ []) (row_by (nat_le 1 f) seed 32)
        (All-cons IsRow (drawn_row seed f 2) (drawn_row seed f 3 ∷ []) (row_by (nat_le 2 f) seed 64)
        (All-cons IsRow (drawn_row seed f 3) [] (row_by (nat_le 3 f) seed 96) (All-nil IsRow)));
  };
}

-- ---- the format of objects is faithful

accepted_is : (r : Result KeptPiece BadPiece) (piece : KeptPiece) → accepted r ≡ Some piece → r ≡ Ok piece
accepted_is (Ok p) piece h = cc
accepted_is (Err why) piece h = cc

same_piece : (x y : Result KeptPiece BadPiece) (p q : KeptPiece) → x ≡ y → x ≡ Ok p → y ≡ Ok q → p ≡ q
same_piece x y p q same left right = cc

object_there : (made : ℕ → List ℕ) (from n c : ℕ) → c < n → slice_get (map made (range_with_len from n)) c ≡ Some (made (from + c))
object_there made from zero c below = absurd (omega arith)
object_there made from (suc n) zero below = ap (λ k. Some (made k)) (omega arith)
object_there made from (suc n) (suc c) below = object_there made (from + 1) n c (omega arith) ∙ ap (λ k. Some (made k)) (omega arith)

module _ (header : Header) (whole : List (List ℕ)) (few : header.f ≤ 3) (apart : NoClash whole) where
  abbrev s : Setup
  s = under header

  abbrev Among : (c : ℕ) → (bytes : List ℕ) → Type 0
  Among c bytes = IsAmong header.f whole c bytes

  -- a good piece under a seal's root is the seal's own
  own_piece : (v : Version) (piece : KeptPiece) → IsVersion s Among v → IsGood s Among (format.sealed s v.upload v.bytes).root piece
      → Contains (unit_pieces header.f (draw_for header.f (seed_of s v.upload.agent) v.upload) v.bytes) piece
  own_piece v piece is good =
      let f = header.f in
      let draw = draw_for f (seed_of s v.upload.agent) v.upload in
      let root = (sealed f draw v.bytes).root in
      let made = unit_piece f draw v.bytes in
      let there : object_at (sealed f draw v.bytes) piece.cloud ≡ object f draw v.bytes piece.cloud =
      ap (λ o. if_some o [] (λ bytes. bytes)) (object_there (object f draw v.bytes) 0 (3 * f + 1) piece.cloud good.below)
      ∙ ap (object f draw v.bytes) (omega arith) in
      let own_passes = checked-object f draw v.bytes piece.cloud (omega (arith, is.fits.small)) good.below in
      let passes = accepted_is (checked f piece.cloud root good.bytes) piece good.passes in
      let ours = subst (Among piece.cloud) there (is.objects piece.cloud good.below) in
      let same = same_bytes f piece.cloud root whole good.bytes (object f draw v.bytes piece.cloud) apart
      (has_passed f piece.cloud root whole good.bytes piece good.among passes)
      (has_passed f piece.cloud root whole (object f draw v.bytes piece.cloud) (made piece.cloud) ours own_passes) in
      let own : piece ≡ made piece.cloud =
      same_piece _ _ piece (made piece.cloud) (ap (checked f piece.cloud root) same) passes own_passes in (
        piece.cloud,
        omega (arith, good.below, length-map-range_with_len made 0 (3 * f + 1)),
        get_or-map-range_with_len made 0 (3 * f + 1) piece.cloud piece.cloud piece good.below (omega arith) ∙ sym own,
      )

  -- bytes of a cloud that are looked at have a good piece of it, where they pass
  pub heard : (c : ℕ) (bytes : List ℕ) → c < clouds_of s → Among c bytes → IsHeard s Among c (answers.Bytes bytes)
  heard c bytes below among root piece passes =
      let cloud = (IsPiece-checked header.f c root bytes piece below (accepted_is (checked header.f c root bytes) piece passes)).0 in
      let own = sym cloud in
      record {
        cloud = cloud;
        good = record {
          bytes = bytes;
          below = subst (λ k. k < clouds_of s) own below;
          passes = subst (λ k. s.format.check header.f k root bytes ≡ Some piece) own passes;
          among = subst (λ k. Among k bytes) own among;
        };
      }

  pub gives_back : GivesBack s Among
  gives_back v pieces is good count =
      let seed = sha256 (draw_text (seed_of s v.upload.agent) v.upload) in
      let root = (format.sealed s v.upload v.bytes).root in
      unseal-some header.f (drawn seed header.f) v.bytes pieces few (IsDraw-drawn seed header.f) is.fits.are_bytes (record {
        as_many = count;
        different = good.different;
        among = All-weaker (IsGood s Among root) (Contains (unit_pieces header.f (drawn seed header.f) v.bytes)) (λ piece. own_piece v piece is)
            pieces (each-all (IsGood s Among root) pieces good.each);
      })

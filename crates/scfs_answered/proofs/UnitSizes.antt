-- Pieces of one length open to contents of that length, and a cloud's own object has its piece.
use Rattle.std.proofs.Common.{◌≡◌, ℕ, zero, suc, ◌+◌, ◌*◌, ◌^◌, ◌<◌, List, [], length, map, refl, sym, ap, ◌∙◌, arith, Bool, true, false, cond, Option, Some, None, slice_get, eqb-true, length-append, length-take, zero-mul, suc-mul, add-one}
use Rattle.std.specs.Prelude.{◌==◌}
use Rattle.std.specs.List.{concat, range_with_len}
use Rattle.scfs_base.specs.declared.cloud.CloudAnswer.{CloudAnswer}
use Rattle.scfs_base.specs.declared.cloud.CloudAnswer.TheVariants as answers
use Rattle.scfs_erasure.specs.Rows.{numbers_below, row_length, row_at}
use Rattle.scfs_erasure.specs.Blocks.{numbers_of, bytes_of, rows_from, contents_from}
use Rattle.scfs_erasure.proofs.ContentLemmas.{concat-rows_more, fits_in_rows}
use Rattle.scfs_erasure.proofs.RowLemmas.{length-row_at}
use Rattle.scfs_erasure.specs.declared.block.Block.{Block}
use Rattle.scfs_stream.proofs.StreamFacts.{length-ciphered}
use Rattle.scfs_shamir.specs.Recovery.{joined}
use Rattle.scfs_unit.specs.declared.pieces.KeptPiece.{KeptPiece}
use Rattle.scfs_unit.specs.Unsealing.{shares_in, blocks_in, length_of, unseal}
use Rattle.scfs_unit.specs.Unit.{unit_piece, object}
use Rattle.scfs_unit.specs.Unit as unit
use Rattle.scfs_unit.proofs.AcceptanceLemmas.{checked-object}
use Rattle.scfs_schedule.specs.declared.types.Header.{Header}
use Rattle.scfs_model.specs.Lists.{if_some}
use Rattle.scfs_model.specs.Format.{Setup, clouds_of, seed_of, sealed, object_at}
use Rattle.scfs_model.specs.UnitFormat.{draw_for, accepted, under}
use Rattle.scfs_model.specs.Reading.{Reading, if_size, piece_in}
use Rattle.scfs_model.specs.Layers.{Version}
use Rattle.scfs_laws.proofs.Lists.{eqb-refl}

-- ---- contents from pieces are as long as the pieces say

rows_long : (g : ℕ → List ℕ) (size : ℕ) → ((j : ℕ) → length (g j) ≡ size) → (n : ℕ) → length (concat (map g (numbers_below n))) ≡ n * size
rows_long g size each zero = sym (zero-mul size)
rows_long g size each (suc n) =
    ap (λ m. length (concat (map g (numbers_below m)))) (sym (add-one n))
    ∙ ap length (concat-rows_more g n)
    ∙ length-append (concat (map g (numbers_below n))) (g n)
    ∙ omega (arith, rows_long g size each n, each n, suc-mul n size)

length-contents_from : (f size : ℕ) (blocks : List Block) → length (contents_from f size blocks) ≡ size
unfolding rows_from
length-contents_from f size blocks =
    let row : ℕ → List ℕ = row_at (numbers_of blocks) (bytes_of blocks) (row_length f size) in
    let long = rows_long row (row_length f size) (length-row_at (numbers_of blocks) (bytes_of blocks) (row_length f size)) (f + 1) in
    omega (arith, length-take size (concat (map row (numbers_below (f + 1)))), long, fits_in_rows f size)

pub length-unseal : (f : ℕ) (pieces : List KeptPiece) → length (unseal f pieces) ≡ length_of pieces
length-unseal f pieces =
    length-ciphered (joined (shares_in pieces)) (contents_from f (length_of pieces) (blocks_in pieces))
    ∙ length-contents_from f (length_of pieces) (blocks_in pieces)

-- ---- a good piece is of contents of the size

-- a piece, if there is one, is of contents of this size
abbrev pub IfSized : (size : ℕ) → Option KeptPiece → Type 0
IfSized size None = Unit {0}
IfSized size (Some piece) = piece.length ≡ size

sized_by : (size : ℕ) (piece : KeptPiece) (b : Bool) → (piece.length == size) ≡ b → IfSized size (cond b (Some piece) None)
sized_by size piece true e = eqb-true piece.length size e
sized_by size piece false e = tt

sized : (size : ℕ) (o : Option KeptPiece) → IfSized size (if_size size o)
sized size None = tt
sized size (Some piece) = sized_by size piece (piece.length == size) refl

pub piece_sized : (s : Setup) (r : Reading) (c : ℕ) (answer : CloudAnswer) → IfSized r.size (piece_in s r c answer)
piece_sized s r c answers.Ack = tt
piece_sized s r c answers.Absent = tt
piece_sized s r c (answers.Bytes bytes) = sized r.size (s.format.check s.header.f c r.root bytes)
piece_sized s r c (answers.Names names) = tt
piece_sized s r c answers.Fail = tt

-- ---- a cloud's own object has a good piece

object_there : (made : ℕ → List ℕ) (from n c : ℕ) → c < n → slice_get (map made (range_with_len from n)) c ≡ Some (made (from + c))
object_there made from zero c below = absurd (omega arith)
object_there made from (suc n) zero below = ap (λ k. Some (made k)) (omega arith)
object_there made from (suc n) (suc c) below = object_there made (from + 1) n c (omega arith) ∙ ap (λ k. Some (made k)) (omega arith)

length-unit_piece : (header : Header) (v : Version) (c : ℕ) →
    let f : ℕ = header.f in
    (unit_piece f (draw_for f (seed_of (under header) v.upload.agent) v.upload) v.bytes c).length ≡ length v.bytes
unfolding unit_piece
length-unit_piece header v c = refl

of_size : (size : ℕ) (piece : KeptPiece) (o : Option KeptPiece) → o ≡ Some piece → (piece.length == size) ≡ true → if_size size o ≡ Some piece
of_size size piece o is same = ap (if_size size) is ∙ ap (λ b. cond b (Some piece) None) same

pub own_piece : (header : Header) (v : Version) (r : Reading) (c : ℕ) → c < clouds_of (under header) → length v.bytes < 2 ^ 32
    → r.root ≡ (sealed (under header) v.upload v.bytes).root → r.size ≡ length v.bytes
    → (piece : KeptPiece) × (piece_in (under header) r c (answers.Bytes (object_at (sealed (under header) v.upload v.bytes) c)) ≡ Some piece)
own_piece header v r c below small root size =
    let f = header.f in
    let draw = draw_for f (seed_of (under header) v.upload.agent) v.upload in
    let own = object f draw v.bytes in
    let piece = unit_piece f draw v.bytes c in
    let there : object_at (unit.sealed f draw v.bytes) c ≡ own c =
    ap (λ o. if_some o [] (λ bytes. bytes)) (object_there own 0 (3 * f + 1) c below) ∙ ap own (omega arith) in
    let passes = checked-object f draw v.bytes c small below in (
      piece,
      of_size r.size piece _
          (ap (λ root. (under header).format.check f c root (object_at (unit.sealed f draw v.bytes) c)) root
          ∙ ap (λ bytes. (under header).format.check f c (unit.sealed f draw v.bytes).root bytes) there
          ∙ ap accepted passes)
          (ap (λ n. n == r.size) (length-unit_piece header v c ∙ sym size) ∙ eqb-refl r.size),
    )

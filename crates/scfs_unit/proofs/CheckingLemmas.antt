-- Of the four tests of an object the first that fails, and what holds where all pass.
use Rattle.std.proofs.Common.{◌≡◌, ℕ, ◌+◌, ◌*◌, ◌≤◌, List, take, drop, Bool, true, false, Result, Ok, Err, refl, sym, ap, ◌∙◌, arith, mul_comm, mul-le-mul_right}
use Rattle.std.specs.Prelude.{not, if◌then◌else◌}
use Rattle.std.specs.Int.{div_ceil}
use Rattle.std.proofs.lemmas.Grind.{div_ceil_times}
use Rattle.scfs_base.specs.declared.naming.Digest.{Digest}
use Rattle.scfs_erasure.specs.Rows.{row_length}
use Rattle.scfs_unit.specs.declared.pieces.KeptPiece.{KeptPiece}
use Rattle.scfs_unit.specs.declared.pieces.BadPiece.{BadPiece}
use Rattle.scfs_unit.specs.declared.pieces.BadPiece.TheVariants as bad
use Rattle.scfs_unit.specs.Checking.{kept, length_in, rest_in, piece_in}
use Rattle.scfs_unit.specs.Checking.{has_length, has_magic, has_root, has_piece, checked}

-- a row is at most half as long as the contents, rounded up
pub row_length_bound : (f size : ℕ) → 1 ≤ f → f ≤ 3 → 2 * row_length f size ≤ size + 4
unfolding row_length
row_length_bound f size low high =
    let row = div_ceil size (f + 1) in
    let under = (div_ceil_times size (f + 1) (omega arith)).1 in
    let enough : 2 ≤ f + 1 = omega arith in
    let doubled = mul-le-mul_right row enough in
    omega (arith, under, doubled, mul_comm row (f + 1))

-- the answer by the four tests
abbrev pub tested : Bool → Bool → Bool → Bool → KeptPiece → Result KeptPiece BadPiece
tested l m r p made =
    if not l then Err bad.Length
    else if not m then Err bad.Magic
    else if not r then Err bad.Root
    else if not p then Err bad.Piece
    else Ok made

pub checked-tested : (f cloud : ℕ) (root : Digest) (bytes : List ℕ) → checked f cloud root bytes
    ≡ tested (has_length f bytes) (has_magic f bytes) (has_root f root bytes) (has_piece f cloud bytes) (piece_in f cloud bytes)
unfolding checked
checked-tested f cloud root bytes = refl

fails_length : (l m r p : Bool) (made : KeptPiece) → l ≡ false → tested l m r p made ≡ Err bad.Length
fails_length l m r p made e = rw e refl

fails_magic : (l m r p : Bool) (made : KeptPiece) → l ≡ true → m ≡ false → tested l m r p made ≡ Err bad.Magic
fails_magic l m r p made e g = rw (e, g) refl

fails_root : (l m r p : Bool) (made : KeptPiece) → l ≡ true → m ≡ true → r ≡ false → tested l m r p made ≡ Err bad.Root
fails_root l m r p made e g h = rw (e, g, h) refl

fails_piece : (l m r p : Bool) (made : KeptPiece) → l ≡ true → m ≡ true → r ≡ true → p ≡ false
    → tested l m r p made ≡ Err bad.Piece
fails_piece l m r p made e g h k = rw (e, g, h, k) refl

passes_all : (l m r p : Bool) (made : KeptPiece) → l ≡ true → m ≡ true → r ≡ true → p ≡ true
    → tested l m r p made ≡ Ok made
passes_all l m r p made e g h k = rw (e, g, h, k) refl

-- all four tests passed, with this piece
pub record Passed (l m r p : Bool) (made piece : KeptPiece) : Type 0 where
  pub has_length : l ≡ true
  pub has_magic : m ≡ true
  pub has_root : r ≡ true
  pub has_piece : p ≡ true
  pub is : piece ≡ made

passed : (l m r p : Bool) (made piece : KeptPiece) → tested l m r p made ≡ Ok piece → Passed l m r p made piece
passed true true true true made piece e =
    record { has_length = refl; has_magic = refl; has_root = refl; has_piece = refl; is = cc }
passed true true true false made piece e = absurd cc
passed true true false p made piece e = absurd cc
passed true false r p made piece e = absurd cc
passed false m r p made piece e = absurd cc

-- ---- what `checked` answers

pub checked_length : (f cloud : ℕ) (root : Digest) (bytes : List ℕ) → has_length f bytes ≡ false
    → checked f cloud root bytes ≡ Err bad.Length
checked_length f cloud root bytes l =
    checked-tested f cloud root bytes
    ∙ fails_length (has_length f bytes) (has_magic f bytes) (has_root f root bytes) (has_piece f cloud bytes)
    (piece_in f cloud bytes) l

pub checked_magic : (f cloud : ℕ) (root : Digest) (bytes : List ℕ) → has_length f bytes ≡ true
    → has_magic f bytes ≡ false → checked f cloud root bytes ≡ Err bad.Magic
checked_magic f cloud root bytes l m =
    checked-tested f cloud root bytes
    ∙ fails_magic (has_length f bytes) (has_magic f bytes) (has_root f root bytes) (has_piece f cloud bytes)
    (piece_in f cloud bytes) l m

pub checked_root : (f cloud : ℕ) (root : Digest) (bytes : List ℕ) → has_length f bytes ≡ true
    → has_magic f bytes ≡ true → has_root f root bytes ≡ false → checked f cloud root bytes ≡ Err bad.Root
checked_root f cloud root bytes l m r =
    checked-tested f cloud root bytes
    ∙ fails_root (has_length f bytes) (has_magic f bytes) (has_root f root bytes) (has_piece f cloud bytes)
    (piece_in f cloud bytes) l m r

pub checked_piece : (f cloud : ℕ) (root : Digest) (bytes : List ℕ) → has_length f bytes ≡ true
    → has_magic f bytes ≡ true → has_root f root bytes ≡ true → has_piece f cloud bytes ≡ false
    → checked f cloud root bytes ≡ Err bad.Piece
checked_piece f cloud root bytes l m r p =
    checked-tested f cloud root bytes
    ∙ fails_piece (has_length f bytes) (has_magic f bytes) (has_root f root bytes) (has_piece f cloud bytes)
    (piece_in f cloud bytes) l m r p

pub checked_all : (f cloud : ℕ) (root : Digest) (bytes : List ℕ) → has_length f bytes ≡ true
    → has_magic f bytes ≡ true → has_root f root bytes ≡ true → has_piece f cloud bytes ≡ true
    → checked f cloud root bytes ≡ Ok (piece_in f cloud bytes)
checked_all f cloud root bytes l m r p =
    checked-tested f cloud root bytes
    ∙ passes_all (has_length f bytes) (has_magic f bytes) (has_root f root bytes) (has_piece f cloud bytes)
    (piece_in f cloud bytes) l m r p

-- what is accepted passed the four tests, and is the piece in the bytes
pub checked-passed : (f cloud : ℕ) (root : Digest) (bytes : List ℕ) (piece : KeptPiece)
    → checked f cloud root bytes ≡ Ok piece
    → Passed (has_length f bytes) (has_magic f bytes) (has_root f root bytes) (has_piece f cloud bytes)
    (piece_in f cloud bytes) piece
checked-passed f cloud root bytes piece e =
    passed (has_length f bytes) (has_magic f bytes) (has_root f root bytes) (has_piece f cloud bytes)
    (piece_in f cloud bytes) piece (sym (checked-tested f cloud root bytes) ∙ e)

-- the piece, by the parts that the code makes
pub piece_of_parts : (f cloud size : ℕ) (bytes rest share block : List ℕ) → size ≡ length_in bytes
    → rest ≡ rest_in f bytes → share ≡ take 32 rest → block ≡ drop 32 rest
    → piece_in f cloud bytes ≡ kept cloud size (record { point = cloud + 1; bytes = share }) block
piece_of_parts f cloud size bytes rest share block s r front back =
    let by_rest : List ℕ → KeptPiece = λ rest. kept cloud (length_in bytes) (record { point = cloud + 1; bytes = take 32 rest }) (drop 32 rest) in
    ap by_rest (sym r) ∙ parts
  where
    parts : kept cloud (length_in bytes) (record { point = cloud + 1; bytes = take 32 rest }) (drop 32 rest)
        ≡ kept cloud size (record { point = cloud + 1; bytes = share }) block
    parts = rw (s, front, back) refl

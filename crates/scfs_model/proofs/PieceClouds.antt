-- A piece that is accepted for a cloud is of it.
use Rattle.std.proofs.Common.{◌≡◌, ℕ, Bool, true, false, cond, Option, Some, None, refl, ap, subst}
use Rattle.std.specs.Prelude.{◌==◌, Result, Ok, Err}
use Rattle.scfs_base.specs.declared.cloud.CloudAnswer.{CloudAnswer}
use Rattle.scfs_base.specs.declared.cloud.CloudAnswer.TheVariants as answers
use Rattle.scfs_schedule.specs.declared.types.Header.{Header}
use Rattle.scfs_unit.specs.declared.pieces.KeptPiece.{KeptPiece}
use Rattle.scfs_unit.specs.declared.pieces.BadPiece.{BadPiece}
use Rattle.scfs_unit.specs.Checking.{checked}
use Rattle.scfs_unit.proofs.CheckingLemmas.{checked-passed}
use Rattle.scfs_model.specs.UnitFormat.{under, accepted}
use Rattle.scfs_model.specs.Reading.{Reading, if_size, piece_in}

-- a piece, if there is one, is of a cloud
abbrev pub IfOf : (c : ℕ) → Option KeptPiece → Type 0
IfOf c None = Unit {0}
IfOf c (Some piece) = piece.cloud ≡ c

of_cloud_if : (c : ℕ) (b : Bool) (piece : KeptPiece) → piece.cloud ≡ c → IfOf c (cond b (Some piece) None)
of_cloud_if c true piece e = e
of_cloud_if c false piece e = tt

of_cloud : (c size : ℕ) (r : Result KeptPiece BadPiece) → ((piece : KeptPiece) → r ≡ Ok piece → piece.cloud ≡ c) → IfOf c (if_size size (accepted r))
of_cloud c size (Ok piece) is = of_cloud_if c (piece.length == size) piece (is piece refl)
of_cloud c size (Err why) is = tt

pub piece_of_cloud : (header : Header) (r : Reading) (c : ℕ) (answer : CloudAnswer) → IfOf c (piece_in (under header) r c answer)
piece_of_cloud header r c answers.Ack = tt
piece_of_cloud header r c answers.Absent = tt
piece_of_cloud header r c (answers.Bytes bytes) =
    let root = r.root in
    of_cloud c (r.size) (checked header.f c root bytes)
    (λ piece e. ap (λ (piece : KeptPiece). piece.cloud) (checked-passed header.f c root bytes piece e).is)
piece_of_cloud header r c (answers.Names names) = tt
piece_of_cloud header r c answers.Fail = tt

pub pieces_of_clouds : (header : Header) (r : Reading) (c : ℕ) (answer : CloudAnswer) (piece : KeptPiece) → piece_in (under header) r c answer ≡ Some piece
    → piece.cloud ≡ c
pieces_of_clouds header r c answer piece is = subst (IfOf c) is (piece_of_cloud header r c answer)

-- The reading of a unit from its clouds: which answers are good, and which cloud is asked next.
use Rattle.std.specs.Prelude.{ℕ, List, Bool, not, ◌==◌, if◌then◌else◌, Option, Some, None, Result, Ok, Err}
use Rattle.std.specs.List.{find, list_any}
use Rattle.scfs_base.specs.declared.naming.Digest.{Digest}
use Rattle.scfs_base.specs.declared.cloud.CloudAnswer.{CloudAnswer}
use Rattle.scfs_base.specs.declared.cloud.CloudAnswer.TheVariants as answers
use Rattle.scfs_unit.specs.declared.pieces.KeptPiece.{KeptPiece}
use Rattle.scfs_unit.specs.declared.pieces.BadPiece.{BadPiece}
use Rattle.scfs_unit.specs.Checking.{checked}
use Rattle.scfs_quorum_read.specs.declared.steps.ReadStep.{ReadStep}
use Rattle.scfs_quorum_read.specs.declared.steps.ReadStep.TheVariants.{Ask, Wait}

-- a unit that is read: from 3f+1 clouds, by its root and the length of its contents, with the order in which the clouds
-- are asked, and with the number of the turn that ends the reading, if one does
pub record Reading : Type 0 where
  pub f : ℕ
  pub root : Digest
  pub size : ℕ
  pub order : List ℕ
  pub turns : Option ℕ

-- an accepted piece, if it is of contents of this length
abbrev pub of_length : ℕ → Result KeptPiece BadPiece → Option KeptPiece
of_length size (Ok piece) = if piece.length == size then Some piece else None
of_length size (Err bad) = None

-- the piece in a good answer: bytes that are accepted for the cloud under the root, with the length. Every other answer
-- is bad.
abbrev pub good_piece : Reading → ℕ → CloudAnswer → Option KeptPiece
good_piece reading cloud answers.Ack = None
good_piece reading cloud answers.Absent = None
good_piece reading cloud (answers.Bytes bytes) = of_length reading.size (checked reading.f cloud reading.root bytes)
good_piece reading cloud (answers.Names names) = None
good_piece reading cloud answers.Fail = None

-- one of the pieces is this cloud's
abbrev pub is_among : ℕ → List KeptPiece → Bool
is_among cloud pieces = list_any (λ piece. piece.cloud == cloud) pieces

-- the first cloud of the order that was not asked yet
abbrev pub first_unasked : List ℕ → List ℕ → Option ℕ
first_unasked order asked = find (λ cloud. not (list_any (λ other. other == cloud) asked)) order

-- a cloud to be asked, if there is one
abbrev pub asking : Option ℕ → ReadStep
asking None = Wait
asking (Some cloud) = Ask cloud

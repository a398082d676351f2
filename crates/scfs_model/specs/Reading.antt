use Rattle.std.specs.Prelude.{ℕ, ◌+◌, List, [], ◌∷◌, ◌++◌, length, filter, find, Bool, ◌&&◌, not, ◌==◌, if◌then◌else◌, Option, Some, None, option_to_list}
use Rattle.std.specs.List.{list_any}
use Rattle.scfs_base.specs.declared.naming.Digest.{Digest}
use Rattle.scfs_base.specs.declared.naming.RequestNo.{RequestNo}
use Rattle.scfs_base.specs.declared.cloud.CloudAnswer.{CloudAnswer}
use Rattle.scfs_base.specs.declared.cloud.CloudAnswer.TheVariants as answers
use Rattle.scfs_unit.specs.declared.pieces.KeptPiece.{KeptPiece}
use Rattle.scfs_model.specs.Format.{Setup}
use Rattle.scfs_model.specs.Asked.{Asked, is_answer_to}
use Rattle.scfs_model.specs.Next.{Next, Goes_on, Asks, Has, Gives_up}
use Rattle.scfs_base.specs.Limits.{turns_limit}

-- how far the reading of objects of this name from the clouds is, of contents of this root and size: the order of the clouds, and
-- since it began its Gets, the good pieces in the order in which they came, at most one a cloud, and how many turns came
pub record Reading : Type 0 where
  pub name : List ℕ
  pub root : Digest
  pub size : ℕ
  pub order : List ℕ
  pub gets : List Asked
  pub pieces : List KeptPiece
  pub turns : ℕ

abbrev pub if_size : (size : ℕ) → Option KeptPiece → Option KeptPiece
if_size size None = None
if_size size (Some piece) = if piece.length == size then Some piece else None

-- the piece in a good answer: bytes that pass all tests for that cloud under the root, and are of contents of the size
abbrev pub piece_in : Setup → Reading → (c : ℕ) → CloudAnswer → Option KeptPiece
piece_in s r c answers.Ack = None
piece_in s r c answers.Absent = None
piece_in s r c (answers.Bytes bytes) = if_size r.size (s.format.check s.header.f c r.root bytes)
piece_in s r c (answers.Names names) = None
piece_in s r c answers.Fail = None

-- whether a cloud gave a good piece
abbrev pub is_good : Reading → (c : ℕ) → Bool
is_good r c = list_any (λ (p : KeptPiece). p.cloud == c) r.pieces

-- an answer counts where it is to one of the Gets, and its cloud gave no good one before
abbrev pub is_awaited : Reading → (c : ℕ) → RequestNo → Bool
is_awaited r c request = is_answer_to r.gets c request && not (is_good r c)

abbrev pub was_asked : Reading → (c : ℕ) → Bool
was_asked r c = list_any (λ (x : Asked). x.cloud == c) r.gets

-- the next cloud of the order that was not asked, if there is one
abbrev pub next_cloud : Reading → List ℕ
next_cloud r = option_to_list (find (λ c. not (was_asked r c)) r.order)

-- after an answer that counts
abbrev pub with_piece : Reading → Option KeptPiece → Reading
with_piece r piece = record r { pieces = r.pieces ++ option_to_list piece }

-- a bad answer asks the next cloud; a good one is enough with f others
abbrev pub read_on : Setup → Reading → Option KeptPiece → Next (List ℕ)
read_on s r None = Asks (next_cloud r)
read_on s r (Some piece) =
    if length r.pieces == s.header.f then Has (s.format.unseal s.header.f (r.pieces ++ piece ∷ [])) else Goes_on

-- the last turn ends it; one before asks again all clouds without a good piece
abbrev pub read_turn : Reading → Next (List ℕ)
read_turn r = if r.turns + 1 == turns_limit then Gives_up (length r.pieces) else Asks (filter (λ c. not (is_good r c)) r.order)

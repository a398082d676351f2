use Rattle.std.specs.Prelude.{ℕ, List}
use Rattle.scfs_base.specs.declared.naming.Digest.{Digest}
use Rattle.scfs_base.specs.declared.naming.FileId.{FileId}
use Rattle.scfs_base.specs.declared.naming.UploadNo.{UploadNo}
use Rattle.scfs_session.specs.declared.sessions.Session.{Session}
use Rattle.scfs_unit.specs.declared.sealing.Sealed.{Sealed}

-- What the machine asks of a version, whatever that is: to agents and the space a row, in the file map a close with its bytes.
pub record Versions (V : Type 0) : Type 0 where
  pub file : V → FileId
  pub number : V → ℕ
  pub upload : V → UploadNo
  pub root : V → Digest
  pub size : V → ℕ
  -- the contents of an open of it, where these came from the clouds
  pub contents : V → (came : List ℕ) → List ℕ
  -- a closed session as the next version of its file, in this upload, sealed so; and with the moment at which it is completed
  pub closed : Session → UploadNo → Sealed → V
  pub completed : V → (now : ℕ) → V

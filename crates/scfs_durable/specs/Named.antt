-- The names under which clouds hold objects.
use Rattle.std.specs.Prelude.{◌≡◌, ℕ, List, length, All}
use Rattle.std.specs.Map.{keys_of}
use Rattle.scfs_base.specs.Names.{IsUploadNo}
use Rattle.scfs_base.specs.declared.naming.UploadNo.{UploadNo}
use Rattle.scfs_model.specs.Format.{Setup}
use Rattle.scfs_model.specs.History.{History}
use Rattle.scfs_model.specs.Names.{upload_name}
use Rattle.scfs_laws.specs.Acknowledged.{WasUploading}
use Rattle.scfs_durable.specs.Safe.{IsNameable}
use Rattle.scfs_durable.specs.Stores.{objects}

-- the bytes of each name of an upload
abbrev pub name_bytes : ℕ
name_bytes = 23

-- a name is that of an upload of a history
pub record IsUploadName (s : Setup) (past : History) (name : List ℕ) : Type 0 where
  pub upload : UploadNo
  pub contents : List ℕ
  pub was_uploading : WasUploading s past upload.agent upload contents
  pub fits : IsUploadNo upload
  pub is : name ≡ upload_name upload
  pub long : length name ≡ name_bytes

-- Each name under which a cloud holds something is that of an upload.
abbrev pub NamesAreUploads : Type 0
NamesAreUploads = (s : Setup) (past : History) → IsNameable s past → (c : ℕ) → All (IsUploadName s past) (keys_of (objects s past c))

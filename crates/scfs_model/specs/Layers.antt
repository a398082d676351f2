use Rattle.std.specs.Prelude.{ℕ, ◌+◌, List, length}
use Rattle.scfs_base.specs.declared.naming.Digest.{Digest}
use Rattle.scfs_base.specs.declared.naming.FileId.{FileId}
use Rattle.scfs_base.specs.declared.naming.UploadNo.{UploadNo}
use Rattle.scfs_model.specs.Format.{Setup, sealed}
use Rattle.scfs_model.specs.Versions.{Versions}

-- The two things that a version is.

-- to agents and the space: a row, with two digests and a length in place of the bytes
pub record Row : Type 0 where
  pub file : FileId
  pub number : ℕ
  pub upload : UploadNo
  pub root : Digest
  pub content : Digest
  pub length : ℕ
  pub moment : ℕ

-- in the file map: a completed close with its bytes; the moment is that of its completion
pub record Version : Type 0 where
  pub file : FileId
  pub number : ℕ
  pub upload : UploadNo
  pub moment : ℕ
  pub bytes : List ℕ

-- an open has what came from the clouds
abbrev pub rows : Versions Row
rows =
    record {
      file = λ v. v.file;
      number = λ v. v.number;
      upload = λ v. v.upload;
      root = λ v. v.root;
      size = λ v. v.length;
      contents = λ v came. came;
      closed = λ y u it. record { file = y.file; number = y.base + 1; upload = u; root = it.root; content = it.content; length = length y.contents; moment = 0 };
      completed = λ v now. record v { moment = now };
    }

-- an open has what was closed
abbrev pub closes : Setup → Versions Version
closes s =
    record {
      file = λ v. v.file;
      number = λ v. v.number;
      upload = λ v. v.upload;
      root = λ v. (sealed s v.upload v.bytes).root;
      size = λ v. length v.bytes;
      contents = λ v came. v.bytes;
      closed = λ y u it. record { file = y.file; number = y.base + 1; upload = u; moment = 0; bytes = y.contents };
      completed = λ v now. record v { moment = now };
    }

-- the row of a close
abbrev pub row_of : Setup → Version → Row
row_of s v =
    let it = sealed s v.upload v.bytes in
    record { file = v.file; number = v.number; upload = v.upload; root = it.root; content = it.content; length = length v.bytes; moment = v.moment }

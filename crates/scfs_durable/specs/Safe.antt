use Rattle.std.specs.Prelude.{◌≡◌, ◌≢◌, ◌⊎◌, ℕ, ◌<◌, ◌≤◌, ◌^◌, List, [], ◌∷◌, length, Some, All, Contains}
use Rattle.std.specs.List.{AllPairs}
use Rattle.scfs_base.specs.declared.naming.FileId.{FileId}
use Rattle.scfs_base.specs.declared.naming.RequestNo.{RequestNo}
use Rattle.scfs_base.specs.declared.naming.UploadNo.{UploadNo}
use Rattle.scfs_schedule.specs.declared.types.Line.TheVariants as lines
use Rattle.scfs_net.specs.Store.{stored}
use Rattle.scfs_model.specs.Names.{upload_name}
use Rattle.scfs_model.specs.Format.{Setup, clouds_of, sealed, object_at}
use Rattle.scfs_model.specs.History.{History}
use Rattle.scfs_model.specs.Layers.{Row, Version, row_of}
use Rattle.scfs_model.specs.Clouds.{IsServed}
use Rattle.scfs_model.specs.Runs.{actual, Happens}
use Rattle.scfs_laws.specs.Acknowledged.{WasUploading}
use Rattle.scfs_durable.specs.Stores.{objects, IsTruthful, FewLie}

-- Versions that are safe on the clouds.

-- cloud c holds, under the upload's own name, exactly its object of these contents as this upload sealed them
abbrev pub Backs : Setup → History → UploadNo → (contents : List ℕ) → (c : ℕ) → Type 0
Backs s past u contents c = stored (objects s past c) (upload_name u) ≡ Some (object_at (sealed s u contents) c)

-- a version is safe: it is the close of a session that its upload's agent closed with these contents, and more than f different clouds that
-- never lied hold their objects of them
pub record IsSafe (s : Setup) (past : History) (v : Row) : Type 0 where
  pub close : Version
  pub is_row : v ≡ row_of s close
  pub was_uploading : WasUploading s past close.upload.agent close.upload close.bytes
  pub clouds : List ℕ
  pub differ : AllPairs (λ c d. c ≢ d) clouds
  pub are_enough : s.header.f < length clouds
  pub hold : All (λ c. (c < clouds_of s) × IsTruthful s past c × Backs s past close.upload close.bytes c) clouds

-- where at most so many clouds lied, each version in the shared tree is safe
abbrev pub AreSafe : (most : ℕ) → Setup → History → Type 0
AreSafe most s past = FewLie most s past → All (IsSafe s past) (actual s past).tree.versions

-- after a history, and after each that it goes on from, where at most f clouds lied until then
abbrev pub VersionsStaySafe : Setup → History → Type 0
VersionsStaySafe s [] = AreSafe s.header.f s []
VersionsStaySafe s (e ∷ past) = AreSafe s.header.f s (e ∷ past) × VersionsStaySafe s past

-- a line of a history told that a version of a file was committed
abbrev pub WasCommitted : History → RequestNo → FileId → (number : ℕ) → Type 0
WasCommitted [] request file number = ⊥
WasCommitted (e ∷ past) request file number = Contains e.lines (lines.Committed request file number) ⊎ WasCommitted past request file number

-- a version of this file with this number is in the tree, and safe
abbrev pub HasSafe : Setup → History → FileId → (number : ℕ) → Type 0
HasSafe s past file number =
    (v : Row) × Contains (actual s past).tree.versions v × (v.file ≡ file) × (v.number ≡ number) × IsSafe s past v

-- of few enough agents and events that all names of uploads have their widths
pub record IsNameable (s : Setup) (past : History) : Type 0 where
  pub agents : length s.header.agents ≤ 2 ^ 8
  pub events : length past < 2 ^ 24

-- the two laws
abbrev pub AlwaysSafe : Type 0
AlwaysSafe = (s : Setup) (past : History) → IsNameable s past → Happens s past → IsServed s past → VersionsStaySafe s past

abbrev pub CommittedStay : Type 0
CommittedStay =
    (s : Setup) (past : History) → IsNameable s past → Happens s past → IsServed s past → FewLie s.header.f s past
    → (request : RequestNo) (file : FileId) (number : ℕ) → WasCommitted past request file number → HasSafe s past file number

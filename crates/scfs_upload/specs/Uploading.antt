-- An upload in progress.
use Rattle.std.specs.Prelude.{ℕ, ◌+◌, ◌*◌, Bool, not, ◌==◌, if◌then◌else◌}
use Rattle.std.specs.FinSet as set
use Rattle.scfs_base.specs.InMemory.{one_more}
use Rattle.scfs_base.specs.declared.naming.UploadNo.{UploadNo}
use Rattle.scfs_quorum_write.specs.Marks.{Clouds}
use Rattle.scfs_quorum_write.specs.declared.progress.Progress.{Progress}
use Rattle.scfs_quorum_write.specs.declared.progress.Progress.TheVariants.{Already, Counted, Done}

-- an upload to n = 3f+1 clouds: its number, the clouds that acknowledged it, and how many turns came since it began
pub record Uploading : Type 0 where
  pub upload : UploadNo
  pub f : ℕ
  pub acked : Clouds
  pub turns : ℕ

-- it begins
abbrev pub just_begun : (f : ℕ) → UploadNo → Uploading
just_begun f upload = record { upload = upload; f = f; acked = set.empty; turns = 0 }

-- what a cloud's acknowledgement brings: nothing where it is repeated, and the end where it is that of the (n-f)-th
-- different cloud
abbrev pub brought : Uploading → (cloud : ℕ) → Progress
brought it cloud =
    if set.contains it.acked cloud then Already
    else if set.len it.acked + 1 == 2 * it.f + 1 then Done
    else Counted (set.len it.acked + 1)

-- after a cloud's acknowledgement; a repeated one changes nothing
abbrev pub with_ack : (cloud : ℕ) → Uploading → Uploading
with_ack cloud it = record it { acked = set.insert it.acked cloud }

-- after a turn
abbrev pub with_turn : Uploading → Uploading
with_turn it = record it { turns = one_more it.turns }

-- whether a cloud did not acknowledge it
abbrev pub lacks : (cloud : ℕ) → Uploading → Bool
lacks cloud it = not (set.contains it.acked cloud)

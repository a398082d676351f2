-- The closed sessions of an agent that are not completed, and the upload of the first of them.
use Rattle.std.specs.Prelude.{ℕ, List, [], ◌∷◌, Bool, false, ◌==◌, Option, Some, None, find}
use Rattle.sha2.specs.Sha256.{sha256}
use Rattle.scfs_base.specs.declared.naming.UploadNo.{UploadNo}
use Rattle.scfs_digest.specs.Texts.{draw_text}
use Rattle.scfs_stream.specs.Drawn.{drawn}
use Rattle.scfs_unit.specs.Unit.{sealed}
use Rattle.scfs_unit.specs.declared.sealing.Sealed.{Sealed}
use Rattle.scfs_upload.specs.declared.closing.Closed.{Closed}
use Rattle.scfs_upload.specs.declared.beginning.Begun.{Begun}
use Rattle.scfs_upload.specs.Uploading.{Uploading, just_begun, lacks}

-- the closed sessions in the order of their closes, and the upload of the first, where one is in progress
pub record Queue : Type 0 where
  pub closed : List Closed
  pub uploading : Option Uploading

-- the first closed session
abbrev pub first_of : List Closed → Option Closed
first_of [] = None
first_of (first ∷ later) = Some first

-- the first closed session, where its upload is in progress
abbrev pub current : Queue → Option Closed
current queue = if_uploading queue.uploading
  where
    if_uploading : Option Uploading → Option Closed
    if_uploading None = None
    if_uploading (Some it) = first_of queue.closed

-- the first closed session, where no upload is in progress
abbrev pub next : Queue → Option Closed
next queue = if_free queue.uploading
  where
    if_free : Option Uploading → Option Closed
    if_free None = first_of queue.closed
    if_free (Some it) = None

-- contents sealed under what is drawn for this upload from its agent's secret seed
abbrev pub sealed_as : (f : ℕ) → (seed : List ℕ) → UploadNo → List ℕ → Sealed
sealed_as f seed upload contents = sealed f (drawn (sha256 (draw_text seed upload)) f) contents

-- what begins the upload of a closed session
abbrev pub begun : (f : ℕ) → (seed : List ℕ) → UploadNo → Closed → Begun
begun f seed upload closed =
    let unit = sealed_as f seed upload closed.contents in
    record { upload = upload; root = unit.root; content = unit.content; objects = unit.objects }

-- after the upload of the next closed session began, if there is one
abbrev pub after_begin : (f : ℕ) → UploadNo → Queue → Queue
after_begin f upload queue = if_next (next queue)
  where
    if_next : Option Closed → Queue
    if_next None = queue
    if_next (Some closed) = record queue { uploading = Some (just_begun f upload) }

-- whether an upload is in progress that a cloud did not acknowledge
abbrev pub is_missing : (cloud : ℕ) → Option Uploading → Bool
is_missing cloud None = false
is_missing cloud (Some it) = lacks cloud it

-- the closed session of a number
abbrev pub own : (session : ℕ) → Queue → Option Closed
own session queue = find (λ (it : Closed). it.session == session) queue.closed

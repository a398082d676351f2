use Rattle.std.specs.Prelude.{◌≤◌, ◌<◌, length, All, IsSome}
use Rattle.scfs_base.specs.Limits.{contents_limit}
use Rattle.scfs_upload.specs.declared.closing.Closed.{Closed}
use Rattle.scfs_upload.specs.declared.queue.UploadQueue.TheInside.{Inside}

-- what holds of a queue inside: the contents are not too long, and an upload in progress has its session
abbrev pub IsInForm : Inside → Type 0
IsInForm queue =
    All (λ (it : Closed). length it.contents ≤ contents_limit) queue.closed.items
    × (IsSome queue.uploading → 0 < length queue.closed.items)

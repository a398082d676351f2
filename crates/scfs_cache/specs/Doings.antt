-- What was done with a cache of contents, read backwards, the last first.
use Rattle.std.specs.Prelude.{ℕ, List, [], ◌∷◌, ◌++◌, Bool, true, false, Option, Some, None}
use Rattle.scfs_base.specs.declared.naming.UploadNo.{UploadNo}
use Rattle.scfs_cache.specs.declared.agent_cache.Hit.{Hit}
use Rattle.scfs_cache.specs.Cached.{Contents, Cached, found, after_find, used_in_both}

-- a thing that is done with a cache: an upload is looked for, contents are kept, or the agent crashes
pub data Doing : Type 0 where
  Find : UploadNo → Doing
  Keep : UploadNo → List ℕ → Doing
  Crash : Doing

-- a new cache after all that was done
abbrev pub after : List Doing → Cached
after [] = record { memory = []; disk = [] }
after (Find upload ∷ earlier) = after_find (after earlier) upload
after (Keep upload contents ∷ earlier) = used_in_both (after earlier) upload contents
after (Crash ∷ earlier) = record (after earlier) { memory = [] }

-- a hit is a use of the memory list
abbrev pub memory_use : UploadNo → Option Hit → Contents
memory_use upload None = []
memory_use upload (Some hit) = (upload, hit.contents) ∷ []

-- a hit from disk is a use of the disk list
abbrev pub disk_use : UploadNo → Option Hit → Contents
disk_use upload None = []
disk_use upload (Some hit) = if_from hit.from_disk
  where
    if_from : Bool → Contents
    if_from true = (upload, hit.contents) ∷ []
    if_from false = []

-- the uses of the memory list since the last crash
abbrev pub memory_uses : List Doing → Contents
memory_uses [] = []
memory_uses (Find upload ∷ earlier) = memory_use upload (found (after earlier) upload) ++ memory_uses earlier
memory_uses (Keep upload contents ∷ earlier) = (upload, contents) ∷ memory_uses earlier
memory_uses (Crash ∷ earlier) = []

-- the uses of the disk list
abbrev pub disk_uses : List Doing → Contents
disk_uses [] = []
disk_uses (Find upload ∷ earlier) = disk_use upload (found (after earlier) upload) ++ disk_uses earlier
disk_uses (Keep upload contents ∷ earlier) = (upload, contents) ∷ disk_uses earlier
disk_uses (Crash ∷ earlier) = disk_uses earlier

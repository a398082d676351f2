-- Contents that an agent keeps, by the uploads that they were.
use Rattle.std.specs.Prelude.{ℕ, List, Bool, true, false, ◌==◌, ◌&&◌, Option, Some, None}
use Rattle.std.specs.Map.{lookup}
use Rattle.scfs_base.specs.declared.naming.UploadNo.{UploadNo}
use Rattle.scfs_cache.specs.declared.agent_cache.Hit.{Hit}
use Rattle.scfs_cache.specs.Uses.{used}

-- how many uploads are kept in memory
abbrev pub memory_limit : ℕ
memory_limit = 16

-- how many uploads are kept on disk
abbrev pub disk_limit : ℕ
disk_limit = 64

-- whether two numbers are of one upload
abbrev pub same_upload : UploadNo → UploadNo → Bool
same_upload u v = (u.agent == v.agent) && ((u.incarnation == v.incarnation) && (u.count == v.count))

-- contents by their uploads, the most recently used first
abbrev pub Contents : Type 0
Contents = List (UploadNo × List ℕ)

-- what an agent keeps, in memory and on disk
pub record Cached : Type 0 where
  pub memory : Contents
  pub disk : Contents

-- the contents of an upload, if a list has it
abbrev pub contents_of : Contents → UploadNo → Option (List ℕ)
contents_of entries upload = lookup (same_upload upload) entries

-- a use of both lists
abbrev pub used_in_both : Cached → UploadNo → List ℕ → Cached
used_in_both cache upload contents = record {
  memory = used same_upload memory_limit upload contents cache.memory;
  disk = used same_upload disk_limit upload contents cache.disk;
}

-- a use of the memory list alone
abbrev pub used_in_memory : Cached → UploadNo → List ℕ → Cached
used_in_memory cache upload contents =
    record cache { memory = used same_upload memory_limit upload contents cache.memory }

-- what is found of an upload that memory and disk have like this
abbrev pub hit : (memory disk : Option (List ℕ)) → Option Hit
hit (Some contents) disk = Some (record { from_disk = false; contents = contents })
hit None (Some contents) = Some (record { from_disk = true; contents = contents })
hit None None = None

-- what is found of an upload: its contents in memory, else those on disk
abbrev pub found : Cached → UploadNo → Option Hit
found cache upload = hit (contents_of cache.memory upload) (contents_of cache.disk upload)

-- what finding an upload is: a use of the memory list where that has it, else of both where the disk list has it
abbrev pub after_hit : Cached → UploadNo → Option Hit → Cached
after_hit cache upload None = cache
after_hit cache upload (Some it) = after_place it.from_disk
  where
    after_place : Bool → Cached
    after_place true = used_in_both cache upload it.contents
    after_place false = used_in_memory cache upload it.contents

-- after an upload was looked for
abbrev pub after_find : Cached → UploadNo → Cached
after_find cache upload = after_hit cache upload (found cache upload)

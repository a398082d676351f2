-- Whatever is done with a cache, its lists have the uploads used last.
use Rattle.std.proofs.Common.{◌≡◌, ◌∙◌, ℕ, ◌++◌, true, false, List, [], ◌∷◌, take, Option, Some, None, refl, ap}
use Rattle.scfs_base.specs.declared.naming.UploadNo.{UploadNo}
use Rattle.scfs_cache.specs.declared.agent_cache.Hit.{Hit}
use Rattle.scfs_cache.specs.Uses.{used, last_uses}
use Rattle.scfs_cache.specs.Cached.{Contents, Cached, same_upload, memory_limit, disk_limit, found, after_hit}
use Rattle.scfs_cache.specs.Doings.{Doing, Find, Keep, Crash, after, memory_use, disk_use, memory_uses, disk_uses}
use Rattle.scfs_cache.proofs.UploadKeys.{uploads_equivalent}
use Rattle.scfs_cache.proofs.LastUses.{used-last_uses}

-- a cache has what these uses leave
record Has (memory disk : Contents) (cache : Cached) : Type 0 where
  pub memory_is : cache.memory ≡ take memory_limit (last_uses same_upload memory)
  pub disk_is : cache.disk ≡ take disk_limit (last_uses same_upload disk)

more_in_memory : (upload : UploadNo) (contents : List ℕ) (uses entries : Contents) → entries ≡ take memory_limit (last_uses same_upload uses)
    → used same_upload memory_limit upload contents entries ≡ take memory_limit (last_uses same_upload ((upload, contents) ∷ uses))
more_in_memory upload contents uses entries is =
    ap (used same_upload memory_limit upload contents) is
    ∙ used-last_uses same_upload uploads_equivalent memory_limit upload contents uses

more_on_disk : (upload : UploadNo) (contents : List ℕ) (uses entries : Contents) → entries ≡ take disk_limit (last_uses same_upload uses)
    → used same_upload disk_limit upload contents entries ≡ take disk_limit (last_uses same_upload ((upload, contents) ∷ uses))
more_on_disk upload contents uses entries is =
    ap (used same_upload disk_limit upload contents) is
    ∙ used-last_uses same_upload uploads_equivalent disk_limit upload contents uses

-- after a look
looked : (memory disk : Contents) (cache : Cached) (upload : UploadNo) (hit : Option Hit) → Has memory disk cache
    → Has (memory_use upload hit ++ memory) (disk_use upload hit ++ disk) (after_hit cache upload hit)
looked memory disk cache upload None has = has
looked memory disk cache upload (Some hit) has =
    elim hit.from_disk as (λ b. Has ((upload, hit.contents) ∷ memory) (disk_use upload (Some (record hit { from_disk = b })) ++ disk)
    (after_hit cache upload (Some (record hit { from_disk = b })))) [
      | true ↦ record {
        memory_is = more_in_memory upload hit.contents memory cache.memory has.memory_is;
        disk_is = more_on_disk upload hit.contents disk cache.disk has.disk_is;
      }
      | false ↦ record {
        memory_is = more_in_memory upload hit.contents memory cache.memory has.memory_is;
        disk_is = has.disk_is;
      }
    ]

has_last_uses : (doings : List Doing) → Has (memory_uses doings) (disk_uses doings) (after doings)
has_last_uses [] = record { memory_is = refl; disk_is = refl }
has_last_uses (Find upload ∷ earlier) =
    looked (memory_uses earlier) (disk_uses earlier) (after earlier) upload (found (after earlier) upload) (has_last_uses earlier)
has_last_uses (Keep upload contents ∷ earlier) =
    let has = has_last_uses earlier in
    record {
      memory_is = more_in_memory upload contents (memory_uses earlier) (after earlier).memory has.memory_is;
      disk_is = more_on_disk upload contents (disk_uses earlier) (after earlier).disk has.disk_is;
    }
has_last_uses (Crash ∷ earlier) = record { memory_is = refl; disk_is = (has_last_uses earlier).disk_is }

-- the memory list has the uploads used last since the last crash
pub memory-last_uses : (doings : List Doing) → (after doings).memory ≡ take memory_limit (last_uses same_upload (memory_uses doings))
memory-last_uses doings = (has_last_uses doings).memory_is

-- the disk list has the uploads used last
pub disk-last_uses : (doings : List Doing) → (after doings).disk ≡ take disk_limit (last_uses same_upload (disk_uses doings))
disk-last_uses doings = (has_last_uses doings).disk_is

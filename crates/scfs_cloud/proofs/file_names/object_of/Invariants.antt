use Rattle.std.proofs.Common.{◌≡◌, take, map}
use Rattle.scfs_cloud.specs.Folder.{object_byte}
use Rattle.scfs_cloud.proofs.file_names.object_of.Given as goal

-- the bytes so far
abbrev pub invariant-loop-byte : goal.invariant-loop-byte
invariant-loop-byte l = l.name ≡ map object_byte (take l.byte-index l.file)

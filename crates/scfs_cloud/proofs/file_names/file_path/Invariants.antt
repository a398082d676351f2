use Rattle.std.proofs.Common.{◌≡◌, ◌∷◌, ◌++◌, take}
use Rattle.scfs_cloud.specs.Folder.{file_name}
use Rattle.scfs_cloud.proofs.file_names.file_path.Given as goal

-- the bytes so far
abbrev pub invariant-loop-byte : goal.invariant-loop-byte
invariant-loop-byte l = l.path.items ≡ l.folder ++ 47 ∷ file_name (take l.byte-index l.name)

use Rattle.std.specs.Prelude.{All}
use Rattle.scfs_cloud.specs.Folder.{IsListed}
use Rattle.scfs_cloud.proofs.folder.list_objects.Given as goal

-- each name so far may be listed
abbrev pub invariant-loop-entry : goal.invariant-loop-entry
invariant-loop-entry g l = All (IsListed l.prefix) l.names

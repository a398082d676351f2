use Rattle.std.proofs.Common.{◌≡◌, take}
use Rattle.scfs_cache.proofs.kept_answers.copy_names.Given as goal

-- the first names are copied
abbrev pub invariant-loop-name : goal.invariant-loop-name
invariant-loop-name l = l.copied ≡ take l.name-index l.names

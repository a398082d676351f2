use Rattle.std.proofs.Common.{◌≡◌, take, map}
use Rattle.scfs_tuples.specs.After.{field_of}
use Rattle.scfs_tuples.proofs.putting.made.Given as goal

abbrev pub invariant-loop-g : goal.invariant-loop-g
invariant-loop-g l = l.fields ≡ map (field_of l.now l.bound) (take l.g-index l.g-items)

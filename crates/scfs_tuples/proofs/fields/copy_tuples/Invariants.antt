use Rattle.std.proofs.Common.{◌≡◌, take}
use Rattle.scfs_tuples.proofs.fields.copy_tuples.Given as goal

abbrev pub invariant-loop-tuple : goal.invariant-loop-tuple
invariant-loop-tuple l = l.copies ≡ take l.tuple-index l.tuples

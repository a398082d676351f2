use Rattle.std.proofs.Common.{◌≡◌, take}
use Rattle.scfs_tuples.proofs.copies.copy_wants.Given as goal

abbrev pub invariant-loop-want : goal.invariant-loop-want
invariant-loop-want l = l.copies ≡ take l.want-index l.wants

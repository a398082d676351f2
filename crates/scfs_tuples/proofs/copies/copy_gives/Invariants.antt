use Rattle.std.proofs.Common.{◌≡◌, take}
use Rattle.scfs_tuples.proofs.copies.copy_gives.Given as goal

abbrev pub invariant-loop-give : goal.invariant-loop-give
invariant-loop-give l = l.copies ≡ take l.give-index l.gives

use Rattle.std.proofs.Common.{◌≡◌, take}
use Rattle.scfs_tuples.specs.Matching.{row}
use Rattle.scfs_tuples.proofs.picking.row_of.Given as goal

abbrev pub invariant-loop-tuple : goal.invariant-loop-tuple
invariant-loop-tuple l = l.found ≡ row l.bound (take l.tuple-index l.tuples) l.wants

use Rattle.std.proofs.Common.{◌≡◌, take}
use Rattle.scfs_tuples.specs.After.{live}
use Rattle.scfs_tuples.proofs.picking.live_of.Given as goal

abbrev pub invariant-loop-tuple : goal.invariant-loop-tuple
invariant-loop-tuple l = l.left ≡ live l.now (take l.tuple-index l.tuples)

use Rattle.std.proofs.Common.{◌≡◌, take}
use Rattle.scfs_tuples.specs.Matching.{without_matches}
use Rattle.scfs_tuples.proofs.picking.others_of.Given as goal

abbrev pub invariant-loop-tuple : goal.invariant-loop-tuple
invariant-loop-tuple l = l.left ≡ without_matches l.wants (take l.tuple-index l.tuples) l.bound

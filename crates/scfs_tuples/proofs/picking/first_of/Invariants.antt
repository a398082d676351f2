use Rattle.std.proofs.Common.{◌≡◌, ◌++◌, take, drop}
use Rattle.scfs_tuples.specs.Matching.{first_match, without_first}
use Rattle.scfs_tuples.proofs.picking.first_of.Given as goal

abbrev pub invariant-loop-at : goal.invariant-loop-at
invariant-loop-at l = record {
  first : first_match l.wants l.tuples l.bound ≡ first_match l.wants (drop l.at l.tuples) l.bound;
  without : without_first l.wants l.tuples l.bound ≡ take l.at l.tuples ++ without_first l.wants (drop l.at l.tuples) l.bound;
}

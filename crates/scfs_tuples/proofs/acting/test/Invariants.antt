use Rattle.std.proofs.Common.{◌≡◌, ◌+◌, ◌≤◌, List, length, []}
use Rattle.scfs_tuples.specs.After.{tested}
use Rattle.scfs_tuples.specs.Bound.{looks_in}
use Rattle.scfs_tuples.specs.Filed.{tuples_of}
use Rattle.scfs_tuples.specs.Search.{standing}
use Rattle.scfs_tuples.specs.Trial.{left_in}
use Rattle.scfs_tuples.specs.declared.types.Pattern.{Pattern}
use Rattle.scfs_tuples.proofs.acting.test.Given as goal

abbrev pub invariant-each : goal.invariant-each
invariant-each g l = record {
  same : tested l.conds 0 (tuples_of l.slots) [] 0 ≡ tested l.rest l.index (left_in l.trial l.slots) l.trial.bound l.trial.taken;
  count : l.index + length l.rest ≡ length l.conds;
  few : l.trial.taken + length (standing l.trial.gone l.slots) ≤ length l.slots;
  looks : (all : List Pattern) → g.L.Looks.count l.steps + looks_in l.rest (tuples_of l.slots) (left_in l.trial l.slots) l.trial.bound all
      ≤ g.L.Looks.count l.initial.steps + looks_in l.conds (tuples_of l.slots) (tuples_of l.slots) [] all;
}

abbrev pub decreases-each : goal.decreases-each
decreases-each g l = length l.rest

use Rattle.std.proofs.Common.{◌≡◌, ◌+◌, ◌≤◌, ◌++◌, length, map}
use Rattle.scfs_tuples.specs.Bound.{row_looks}
use Rattle.scfs_tuples.specs.Filed.{tuples_of}
use Rattle.scfs_tuples.specs.Matching.{row}
use Rattle.scfs_tuples.specs.declared.types.Pattern.{Pattern}
use Rattle.scfs_tuples.proofs.acting.rows.Given as goal

abbrev pub invariant-each : goal.invariant-each
invariant-each g l = record {
  same : map (λ (p : Pattern). row l.bound (tuples_of l.slots) p.wants) l.all ≡ l.rows ++ map (λ (p : Pattern). row l.bound (tuples_of l.slots) p.wants) l.rest;
  looks : g.L.Looks.count l.steps + row_looks l.bound (tuples_of l.slots) l.rest ≤ g.L.Looks.count l.initial.steps + row_looks l.bound (tuples_of l.slots) l.all;
}

abbrev pub decreases-each : goal.decreases-each
decreases-each g l = length l.rest

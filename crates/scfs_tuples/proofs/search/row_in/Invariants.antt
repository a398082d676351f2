use Rattle.std.proofs.Common.{◌≡◌, ◌+◌, ◌≤◌, ◌++◌, length}
use Rattle.scfs_tuples.specs.Filed.{tuples_of}
use Rattle.scfs_tuples.specs.Matching.{row}
use Rattle.scfs_tuples.specs.Search.{entries_at}
use Rattle.scfs_tuples.proofs.search.row_in.Given as goal

abbrev pub invariant-each : goal.invariant-each
invariant-each g l = record {
  same : row l.bound (tuples_of (entries_at l.slots l.near)) l.wants ≡ l.found ++ row l.bound (tuples_of (entries_at l.slots l.rest)) l.wants;
  looks : g.L.Looks.count l.steps + length l.rest ≤ g.L.Looks.count l.initial.steps + length l.near;
}

abbrev pub decreases-each : goal.decreases-each
decreases-each g l = length l.rest

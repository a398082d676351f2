use Rattle.std.proofs.Common.{◌≡◌, ◌+◌, ◌≤◌, length}
use Rattle.scfs_tuples.specs.Search.{entries_at, first_entry, standing}
use Rattle.scfs_tuples.proofs.search.find_in.Given as goal

abbrev pub invariant-each : goal.invariant-each
invariant-each g l = record {
  same : first_entry l.wants (standing l.gone (entries_at l.slots l.near)) l.bound ≡ first_entry l.wants (standing l.gone (entries_at l.slots l.rest)) l.bound;
  looks : g.L.Looks.count l.steps + length l.rest ≤ g.L.Looks.count l.initial.steps + length l.near;
}

abbrev pub decreases-each : goal.decreases-each
decreases-each g l = length l.rest

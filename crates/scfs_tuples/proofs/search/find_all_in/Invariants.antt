use Rattle.std.proofs.Common.{◌≡◌, ◌+◌, ◌≤◌, ◌++◌, length}
use Rattle.std.specs.List.{filter}
use Rattle.scfs_tuples.specs.Filed.{slots_of}
use Rattle.scfs_tuples.specs.Matching.{is_match}
use Rattle.scfs_tuples.specs.Search.{entries_at, standing}
use Rattle.scfs_tuples.proofs.search.find_all_in.Given as goal

abbrev pub invariant-each : goal.invariant-each
invariant-each g l = record {
  same : slots_of (filter (λ e. is_match l.wants l.bound e.1) (standing l.gone (entries_at l.slots l.near)))
      ≡ l.found.items ++ slots_of (filter (λ e. is_match l.wants l.bound e.1) (standing l.gone (entries_at l.slots l.rest)));
  looks : g.L.Looks.count l.steps + length l.rest ≤ g.L.Looks.count l.initial.steps + length l.near;
}

abbrev pub decreases-each : goal.decreases-each
decreases-each g l = length l.rest

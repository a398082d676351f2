use Rattle.std.proofs.Common.{◌≡◌, ◌+◌, ◌++◌, length}
use Rattle.scfs_tuples.specs.Filed.{IsFiled, tuples_of}
use Rattle.scfs_tuples.proofs.shelves.Shelves.renumbered.Given as goal

abbrev pub invariant-each : goal.invariant-each
invariant-each l = record {
  filed : IsFiled l.shelves;
  tuples : tuples_of l.initial.tuples.entries ≡ tuples_of l.shelves.tuples.entries ++ tuples_of l.tuples.entries;
  count : l.shelves.next + length l.tuples.entries ≡ length l.initial.tuples.entries;
}

abbrev pub decreases-each : goal.decreases-each
decreases-each l = length l.tuples.entries

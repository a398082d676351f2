use Rattle.std.proofs.Common.{◌≡◌, ◌++◌, length}
use Rattle.scfs_tuples.specs.Filed.{tuples_of}
use Rattle.scfs_tuples.specs.Search.{entries_at}
use Rattle.scfs_tuples.proofs.search.copies_in.Given as goal

abbrev pub invariant-each : goal.invariant-each
invariant-each l = tuples_of (entries_at l.slots l.all) ≡ l.copies ++ tuples_of (entries_at l.slots l.rest)

abbrev pub decreases-each : goal.decreases-each
decreases-each l = length l.rest

use Rattle.std.proofs.Common.{◌≡◌, ◌≤◌, length}
use Rattle.std.specs.Prelude.{map, fold, min}
use Rattle.std.specs.FinSet as set
use Rattle.scfs_quorum_write.specs.Acks.{least_of}
use Rattle.scfs_quorum_write.proofs.tracker.least_count.Given as goal

-- the least so far and the rest have the least of all
abbrev pub invariant-each : goal.invariant-each
invariant-each l = record {
  count : fold min l.least (map set.len l.rest) ≡ least_of (map set.len l.fn.parts);
  bound : l.least ≤ 10;
}

abbrev pub decreases-each : goal.decreases-each
decreases-each l = length l.rest

use Rattle.std.proofs.Common.{◌≡◌, length}
use Rattle.scfs_tuples.specs.Filed.{live_entries}
use Rattle.scfs_tuples.proofs.slots.Slots.expire.Given as goal

abbrev pub invariant-each : goal.invariant-each
invariant-each l = live_entries l.now l.slots ≡ live_entries l.now l.fn.self

abbrev pub decreases-each : goal.decreases-each
decreases-each l = length l.slots

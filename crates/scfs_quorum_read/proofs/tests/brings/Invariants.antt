use Rattle.std.proofs.Common.{◌≡◌}
use Rattle.scfs_quorum_read.proofs.tests.brings.Given as goal

abbrev pub invariant-loop-cloud : goal.invariant-loop-cloud
invariant-loop-cloud l = l.tracker.reading.f ≡ 1

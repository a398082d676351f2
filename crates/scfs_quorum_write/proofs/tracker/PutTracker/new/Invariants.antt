use Rattle.std.proofs.Common.{◌≡◌}
use Rattle.std.specs.Prelude.{replicate}
use Rattle.std.specs.FinSet as set
use Rattle.scfs_quorum_write.proofs.tracker.PutTracker.new.Given as goal

-- so many empty sets are made
abbrev pub invariant-made : goal.invariant-made
invariant-made l = l.sets.items ≡ replicate l._number set.empty

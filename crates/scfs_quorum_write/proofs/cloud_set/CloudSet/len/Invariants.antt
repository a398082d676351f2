use Rattle.std.proofs.Common.{◌≡◌, ◌≤◌, take, length}
use Rattle.std.specs.Prelude.{count_by}
use Rattle.scfs_quorum_write.proofs.cloud_set.CloudSet.len.Given as goal

abbrev pub invariant-loop-mark : goal.invariant-loop-mark
invariant-loop-mark l = record {
  count : l.count ≡ count_by (λ b. b) (take l.mark-index l.mark-items);
  bound : l.count ≤ l.mark-index;
  size : length l.mark-items ≡ 10;
}

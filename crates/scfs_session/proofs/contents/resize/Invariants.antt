use Rattle.std.proofs.Common.{◌≡◌, ◌-◌, ◌≤◌, ◌++◌, length, replicate}
use Rattle.scfs_session.specs.Contents.{resized}
use Rattle.scfs_session.proofs.contents.resize.Given as goal

abbrev pub invariant-loop-bytes : goal.invariant-loop-bytes
invariant-loop-bytes l = record {
  within : length l.bytes ≤ l.size;
  filled : l.bytes ++ replicate (l.size - length l.bytes) 0 ≡ resized l.fn.bytes l.size;
}

abbrev pub decreases-loop-bytes : goal.decreases-loop-bytes
decreases-loop-bytes l = l.size - length l.bytes

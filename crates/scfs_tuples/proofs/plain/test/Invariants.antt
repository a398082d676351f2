use Rattle.std.proofs.Common.{◌≡◌, ◌+◌, ◌≤◌, length, []}
use Rattle.scfs_tuples.specs.After.{tested}
use Rattle.scfs_tuples.proofs.plain.test.Given as goal

abbrev pub invariant-each : goal.invariant-each
invariant-each l = record {
  same : tested l.conds 0 l.live [] 0 ≡ tested l.rest l.index l.standing.left l.standing.bound l.standing.taken;
  count : l.index + length l.rest ≡ length l.conds;
  few : l.standing.taken + length l.standing.left ≤ length l.live;
}

abbrev pub decreases-each : goal.decreases-each
decreases-each l = length l.rest

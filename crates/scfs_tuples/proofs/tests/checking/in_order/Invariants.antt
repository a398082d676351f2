use Rattle.std.proofs.Common.{◌≡◌, ◌≤◌, length}
use Rattle.scfs_tuples.specs.Steps.{InOrder, count_after}
use Rattle.scfs_tuples.proofs.tests.checking.in_order.Given as goal

abbrev pub invariant-each : goal.invariant-each
invariant-each l = record {
  order : InOrder l.after l.rest → InOrder l.count l.wants;
  count : count_after l.count l.wants ≡ count_after l.after l.rest;
  small : l.after ≤ 256;
}

abbrev pub decreases-each : goal.decreases-each
decreases-each l = length l.rest

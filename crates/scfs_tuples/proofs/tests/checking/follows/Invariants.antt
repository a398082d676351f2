use Rattle.std.proofs.Common.{◌≤◌, length}
use Rattle.scfs_tuples.specs.Steps.{Follows}
use Rattle.scfs_tuples.proofs.tests.checking.follows.Given as goal

abbrev pub invariant-each : goal.invariant-each
invariant-each l = record {
  follows : Follows l.count l.rest l.puts → Follows 0 l.conds l.puts;
  small : l.count ≤ 256;
}

abbrev pub decreases-each : goal.decreases-each
decreases-each l = length l.rest

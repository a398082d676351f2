use Rattle.std.proofs.Common.{length}
use Rattle.scfs_tuples.specs.Steps.{Name}
use Rattle.scfs_tuples.proofs.tests.checking.named.Given as goal

abbrev pub invariant-each : goal.invariant-each
invariant-each l = Name l.count l.rest → Name l.count l.puts

abbrev pub decreases-each : goal.decreases-each
decreases-each l = length l.rest

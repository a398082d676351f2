use Rattle.std.proofs.Common.{length}
use Rattle.scfs_tuples.specs.Steps.{Gives}
use Rattle.scfs_tuples.proofs.tests.checking.gives.Given as goal

abbrev pub invariant-each : goal.invariant-each
invariant-each l = Gives l.count l.rest → Gives l.count l.gives

abbrev pub decreases-each : goal.decreases-each
decreases-each l = length l.rest

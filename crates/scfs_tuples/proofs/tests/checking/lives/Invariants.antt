use Rattle.std.proofs.Common.{length}
use Rattle.scfs_tuples.specs.Steps.{Lives}
use Rattle.scfs_tuples.proofs.tests.checking.lives.Given as goal

abbrev pub invariant-each : goal.invariant-each
invariant-each l = Lives l.rest → Lives l.puts

abbrev pub decreases-each : goal.decreases-each
decreases-each l = length l.rest

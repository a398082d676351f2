use Rattle.std.proofs.Common.{length}
use Rattle.scfs_tuples.proofs.tests.notation.pattern.Given as goal

abbrev pub decreases-each : goal.decreases-each
decreases-each l = length l.rest

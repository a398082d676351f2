use Rattle.std.proofs.Common.{◌≡◌, length}
use Rattle.scfs_tuples.specs.Matching.{agrees}
use Rattle.scfs_tuples.proofs.matching.agrees_to.Given as goal

abbrev pub invariant-each : goal.invariant-each
invariant-each l = agrees l.bound l.initial.wants l.initial.fields ≡ agrees l.bound l.wants l.fields

abbrev pub decreases-each : goal.decreases-each
decreases-each l = length l.wants

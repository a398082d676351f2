use Rattle.std.proofs.Common.{◌≡◌, ℕ, List, length}
use Rattle.scfs_tuples.specs.Search.{standing, without_all}
use Rattle.scfs_tuples.specs.declared.types.Tuple.{Tuple}
use Rattle.scfs_tuples.proofs.search.take_slots.Given as goal

abbrev pub invariant-each : goal.invariant-each
invariant-each l = (es : List (ℕ × Tuple)) → without_all l.slots (standing l.initial.gone es) ≡ without_all l.rest (standing l.gone es)

abbrev pub decreases-each : goal.decreases-each
decreases-each l = length l.rest

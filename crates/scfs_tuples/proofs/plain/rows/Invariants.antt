use Rattle.std.proofs.Common.{◌≡◌, take, map}
use Rattle.scfs_tuples.specs.Matching.{row}
use Rattle.scfs_tuples.specs.declared.types.Pattern.{Pattern}
use Rattle.scfs_tuples.proofs.plain.rows.Given as goal

abbrev pub invariant-loop-pattern : goal.invariant-loop-pattern
invariant-loop-pattern l = l.rows ≡ map (λ (p : Pattern). row l.bound l.tuples p.wants) (take l.pattern-index l.all)

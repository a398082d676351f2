use Rattle.std.proofs.Common.{◌≡◌, map, take}
use Rattle.scfs_tuples.specs.declared.types.Tuple.{Tuple}
use Rattle.scfs_anchor.specs.Replies.{row_in}
use Rattle.scfs_anchor.proofs.replies.rows_in.Given as goal

abbrev pub invariant-loop-tuple : goal.invariant-loop-tuple
invariant-loop-tuple l = l.rows ≡ map (λ (t : Tuple). row_in t.fields) (take l.tuple-index l.tuples)

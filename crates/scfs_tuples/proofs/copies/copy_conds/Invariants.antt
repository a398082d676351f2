use Rattle.std.proofs.Common.{◌≡◌, take}
use Rattle.scfs_tuples.proofs.copies.copy_conds.Given as goal

abbrev pub invariant-loop-cond : goal.invariant-loop-cond
invariant-loop-cond l = l.copies ≡ take l.cond-index l.conds

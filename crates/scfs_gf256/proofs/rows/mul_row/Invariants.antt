use Rattle.std.proofs.Common.{◌*◌}
use Rattle.scfs_gf256.specs.Rows.{row_sum, scaled}
use Rattle.scfs_gf256.proofs.BlockLemmas.{IsAddedTo}
use Rattle.scfs_gf256.proofs.rows.mul_row.Given as goal

abbrev pub invariant-loop-block : goal.invariant-loop-block
invariant-loop-block l =
    IsAddedTo (l.block * 32) l.into l.fn.into (row_sum l.fn.into (scaled l.factor l.from))

abbrev pub invariant-loop-place : goal.invariant-loop-place
invariant-loop-place l = IsAddedTo l.place l.into l.fn.into (row_sum l.fn.into (scaled l.factor l.from))

use Rattle.std.proofs.Common.{rules}
use Rattle.scfs_erasure.specs.Rows.{row_length}
use Rattle.scfs_erasure.proofs.block.block_length.Goals as goal

pub returns : goal.returns
unfolding row_length
returns c = search rules

use Rattle.std.proofs.Common.{arith}
use Rattle.scfs_unit.proofs.CheckingLemmas.{row_length_bound}
use Rattle.scfs_unit.proofs.checking.object_length.Goals as goal

pub overflow_add-result-2 : goal.overflow_add-result-2
overflow_add-result-2 c = omega (arith, row_length_bound c.args.f c.args.length c.requires.low c.requires.high)

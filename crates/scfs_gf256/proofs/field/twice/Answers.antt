use Rattle.std.proofs.Common.{arith}
use Rattle.scfs_gf256.proofs.Steps.{doubled}
use Rattle.scfs_gf256.proofs.field.twice.Goals as goal

pub returns : goal.returns
returns c = doubled c.args.a (omega arith)

use Rattle.std.proofs.Common.{arith}
use Rattle.scfs_agent.proofs.CloudLists.{object_is_short}
use Rattle.scfs_agent.proofs.outputs.get_outputs.Goals as goal

pub overflow_add-body : goal.overflow_add-body
overflow_add-body c = omega (arith, c.object_length.ensures, object_is_short c.args.f c.args.length c.requires.low c.requires.high (omega arith))

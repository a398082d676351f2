use Rattle.std.proofs.Common.{ap, ◌∙◌, arith}
use Rattle.scfs_gf256.specs.Field.{times}
use Rattle.scfs_shamir.proofs.Peeling.{quotient_times}
use Rattle.scfs_shamir.proofs.recovery.quotient.Goals as goal

pub returns : goal.returns
returns c =
    ap (times c.args.x) c.mul.ensures
    ∙ quotient_times c.args.x c.add.result c.inv.result (omega arith) c.inv.ensures
    ∙ c.add.ensures

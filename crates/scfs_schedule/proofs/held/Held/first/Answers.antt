use Rattle.std.proofs.Common.{ap, subst, arith, length}
use Rattle.scfs_schedule.specs.Holding.{HoldsLongLine}
use Rattle.scfs_schedule.proofs.held.Held.first.Goals as goal

pub returns-in-Some-clause-first : goal.returns-in-Some-clause-first
returns-in-Some-clause-first c = subst HoldsLongLine c.bytes.ensures (c.in-Some.ensures.none_long c.if-length-gt-LINE_LIMIT.true)

pub returns-in-None-clause-first : goal.returns-in-None-clause-first
returns-in-None-clause-first c = subst HoldsLongLine c.bytes.ensures (c.in-None.ensures.none_long (omega (arith, ap length c.bytes.ensures)))

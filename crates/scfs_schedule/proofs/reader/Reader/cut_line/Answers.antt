use Rattle.std.proofs.Common.{ap, subst, rules}
use Rattle.scfs_schedule.specs.Holding.{HoldsLongLine}
use Rattle.scfs_schedule.specs.Reading.{Reading}
use Rattle.scfs_schedule.proofs.reader.Reader.cut_line.Goals as goal

pub returns-in-TooLong : goal.returns-in-TooLong
returns-in-TooLong c = (subst HoldsLongLine (ap (λ (r : Reading). r.rest) c.self.view_is) c.in-TooLong.ensures.first, search rules)

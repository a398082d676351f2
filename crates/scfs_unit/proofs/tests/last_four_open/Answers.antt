use Rattle.std.proofs.Common.{arith}
use Rattle.scfs_unit.proofs.EnoughLemmas.{distinct_range, below_range}
use Rattle.scfs_unit.proofs.tests.last_four_open.Goals as goal

pub opened-requires-clause-below : goal.opened-requires-clause-below
opened-requires-clause-below c d = below_range 6 4 10 (omega arith)

pub opened-requires-clause-different : goal.opened-requires-clause-different
opened-requires-clause-different c d = distinct_range 6 4

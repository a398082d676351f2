use Rattle.std.proofs.Common.{arith}
use Rattle.scfs_unit.proofs.EnoughLemmas.{distinct_two, below_two}
use Rattle.scfs_unit.proofs.tests.comes_back.Goals as goal

pub opened-requires-clause-below : goal.opened-requires-clause-below
opened-requires-clause-below c = below_two c.args.first c.args.second 4 (omega arith) (omega arith)

pub opened-requires-clause-different : goal.opened-requires-clause-different
opened-requires-clause-different c = distinct_two c.args.first c.args.second c.requires.order

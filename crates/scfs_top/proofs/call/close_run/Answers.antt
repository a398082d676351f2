use Rattle.scfs_top.proofs.RunClosing.{closes_run}
use Rattle.scfs_top.proofs.call.close_run.Goals as goal

pub returns-in-Some-clause-closes : goal.returns-in-Some-clause-closes
returns-in-Some-clause-closes g c = closes_run c.args.end c.in-Some.last _ _ c.close.result c.in-Some.ensures c.close.ensures.closes

use Rattle.scfs_tuples.proofs.SearchLemmas.{one_taken}
use Rattle.scfs_tuples.proofs.trial.Trial.take.Goals as goal

pub returns-clause-gone : goal.returns-clause-gone
returns-clause-gone c = one_taken c.args.self.now.gone _ c.args.slot c.in_ok-insert.ensures.updates.0

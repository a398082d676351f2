use Rattle.scfs_tuples.proofs.TrialLemmas.{none_gone}
use Rattle.scfs_tuples.proofs.trial.Trial.new.Goals as goal

pub returns-clause-gone : goal.returns-clause-gone
returns-clause-gone c = none_gone _ c.new-2.ensures.empty

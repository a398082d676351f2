use Rattle.scfs_tuples.proofs.EntriesLemmas.{apart_filter}
use Rattle.scfs_tuples.proofs.TrialLemmas.{first_met_at, first_rest_at}
use Rattle.scfs_tuples.proofs.trial.Trial.find.Goals as goal

pub returns-clause-first : goal.returns-clause-first
returns-clause-first g c =
    first_met_at c.as_slice.result.now c.args.p.now.wants _ c.as_slice-2.result.now c.args.self.now.bound _ c.in_ok-find.ensures.met c.as_slice.ensures c.as_slice-2.ensures

pub returns-clause-rest : goal.returns-clause-rest
returns-clause-rest g c =
    first_rest_at c.as_slice.result.now c.args.p.now.wants _ c.as_slice-2.result.now c.args.self.now.bound _ c.in_ok-find.ensures.met c.as_slice.ensures c.as_slice-2.ensures
    (apart_filter _ c.args.slots.now c.in_ok-find.ensures.apart)

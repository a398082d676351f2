use Rattle.scfs_anchor.specs.StepPlans.{there}
use Rattle.scfs_anchor.proofs.NameStepLemmas.{conds_split}
use Rattle.scfs_anchor.proofs.name_steps.look.Goals as goal

pub returns : goal.returns
returns c =
    let split = conds_split there c.args.names.now c.requires.below in
    cc (split, c.in_ok-push.ensures.ok, c.in_ok-there.ensures, c.in_ok-conds.ensures.conds, c.in_ok-conds.ensures.at, c.in_ok-conds.ensures.name)

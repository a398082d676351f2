use Rattle.std.proofs.Common.{◌∙◌, subst, sym}
use Rattle.scfs_tuples.specs.Filed.{AreNear}
use Rattle.scfs_tuples.proofs.NearLemmas.{near_first}
use Rattle.scfs_tuples.proofs.search.find.Goals as goal

pub returns-clause-met : goal.returns-clause-met
returns-clause-met g c =
    c.in_ok-find_in.ensures.met
    ∙ near_first c.args.wants.now c.args.bound.now c.args.gone.now c.args.slots.now c.as_slice.result.now
    (subst (AreNear c.args.bound.now c.args.wants.now c.args.slots.now) (sym c.as_slice.ensures.value) c.in_ok-near.ensures.near) c.in_ok-near.ensures.apart

use Rattle.std.proofs.Common.{◌∙◌, ap, subst, sym}
use Rattle.scfs_tuples.specs.Filed.{AreNear, slots_of}
use Rattle.scfs_tuples.proofs.NearLemmas.{near_matches}
use Rattle.scfs_tuples.proofs.search.find_all.Goals as goal

pub returns-clause-found : goal.returns-clause-found
returns-clause-found g c =
    c.in_ok-find_all_in.ensures.found
    ∙ ap slots_of (near_matches c.args.wants.now c.args.bound.now c.args.gone.now c.args.slots.now c.as_slice.result.now
    (subst (AreNear c.args.bound.now c.args.wants.now c.args.slots.now) (sym c.as_slice.ensures.value) c.in_ok-near.ensures.near) c.in_ok-near.ensures.apart)

use Rattle.std.proofs.Common.{◌∙◌, subst, sym}
use Rattle.scfs_tuples.specs.Filed.{AreNear}
use Rattle.scfs_tuples.proofs.NearLemmas.{near_row}
use Rattle.scfs_tuples.proofs.search.row_of.Goals as goal

pub returns-clause-row : goal.returns-clause-row
returns-clause-row g c =
    c.in_ok-row_in.ensures.row
    ∙ near_row c.args.wants.now c.args.bound.now c.args.slots.now c.as_slice.result.now
    (subst (AreNear c.args.bound.now c.args.wants.now c.args.slots.now) (sym c.as_slice.ensures.value) c.in_ok-near.ensures.near) c.in_ok-near.ensures.apart

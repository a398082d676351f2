use Rattle.std.proofs.Common.{◌∙◌, ap}
use Rattle.scfs_tuples.specs.Filed.{tuples_of}
use Rattle.scfs_tuples.proofs.NearLemmas.{all_back}
use Rattle.scfs_tuples.proofs.search.copies.Goals as goal

pub returns : goal.returns
returns c =
    c.in_ok-copies_in.ensures
    ∙ ap tuples_of (all_back c.args.slots.now c.as_slice.result.now (c.as_slice.ensures.value ∙ c.in_ok-all.ensures.slots) c.in_ok-all.ensures.apart)

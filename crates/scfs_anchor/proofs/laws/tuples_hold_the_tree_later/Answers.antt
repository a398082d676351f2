use Rattle.scfs_anchor.proofs.HoldLemmas.{holds_on}
use Rattle.scfs_anchor.proofs.laws.tuples_hold_the_tree_later.Goals as goal

pub returns : goal.returns
returns c = holds_on

use Rattle.scfs_anchor.proofs.HoldLemmas.{empty_holds}
use Rattle.scfs_anchor.proofs.laws.no_tuples_hold_the_empty_tree.Goals as goal

pub returns : goal.returns
returns c = empty_holds

use Rattle.scfs_tuples.proofs.ShelvesLemmas.{filed_empty}
use Rattle.scfs_tuples.proofs.shelves.Shelves.new.Goals as goal

pub returns-clause-filed : goal.returns-clause-filed
returns-clause-filed c = filed_empty _ c.new.ensures.empty c.new-2.ensures c.new-3.ensures c.new-4.ensures c.new-5.ensures.empty

use Rattle.scfs_laws.proofs.NewestOpens.{opens_are_newest_rows, opens_are_newest_closes}
use Rattle.scfs_laws.proofs.laws.opens_are_newest.Goals as goal

pub returns-clause-made : goal.returns-clause-made
returns-clause-made c = opens_are_newest_rows

pub returns-clause-due : goal.returns-clause-due
returns-clause-due c = opens_are_newest_closes

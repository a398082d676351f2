use Rattle.scfs_laws.proofs.AckedLaw.{commits_acknowledged}
use Rattle.scfs_laws.proofs.laws.commits_are_acknowledged.Goals as goal

pub returns : goal.returns
returns c = commits_acknowledged

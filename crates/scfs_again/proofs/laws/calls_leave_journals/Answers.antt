use Rattle.scfs_again.proofs.LeavesLemmas as lemmas
use Rattle.scfs_again.proofs.laws.calls_leave_journals.Goals as goal

pub returns : goal.returns
returns g c = lemmas.calls_leave _

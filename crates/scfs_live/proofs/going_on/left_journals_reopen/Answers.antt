use Rattle.scfs_live.proofs.RunAgainLemmas as lemmas
use Rattle.scfs_live.proofs.going_on.left_journals_reopen.Goals as goal

pub returns : goal.returns
returns g c = lemmas.left_journals_reopen _

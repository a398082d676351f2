use Rattle.scfs_again.proofs.BehindLemmas as lemmas
use Rattle.scfs_again.proofs.laws.second_calls_go_on.Goals as goal

pub returns : goal.returns
returns g c = lemmas.second_calls_go_on _ _

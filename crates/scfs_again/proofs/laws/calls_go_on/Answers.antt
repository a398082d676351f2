use Rattle.scfs_again.proofs.AgainLemmas as lemmas
use Rattle.scfs_again.proofs.laws.calls_go_on.Goals as goal

pub returns : goal.returns
returns g c = lemmas.calls_go_on _

use Rattle.scfs_again.proofs.BehindLemmas as lemmas
use Rattle.scfs_again.proofs.laws.one_rule_goes_on.Goals as goal

pub returns : goal.returns
returns g c = lemmas.one_rule_goes_on _

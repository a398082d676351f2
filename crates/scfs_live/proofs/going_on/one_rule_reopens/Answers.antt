use Rattle.scfs_live.proofs.OneRuleLemmas as lemmas
use Rattle.scfs_live.proofs.going_on.one_rule_reopens.Goals as goal

pub returns : goal.returns
returns g c = lemmas.one_rule_reopens _

use Rattle.scfs_live.proofs.KeptLemmas as lemmas
use Rattle.scfs_live.proofs.going_on.walked_lines_are_kept.Goals as goal

pub returns : goal.returns
returns c = lemmas.walked_are_kept

use Rattle.scfs_live.proofs.DoneLemmas as lemmas
use Rattle.scfs_live.proofs.going_on.walked_events_are_done.Goals as goal

pub returns : goal.returns
returns c = lemmas.walked_are_done

use Rattle.scfs_live.proofs.DrivenDoneLemmas as lemmas
use Rattle.scfs_live.proofs.going_on.driven_events_are_done.Goals as goal

pub returns : goal.returns
returns g c = lemmas.driven_are_done _

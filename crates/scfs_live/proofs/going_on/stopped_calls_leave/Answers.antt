use Rattle.scfs_live.proofs.StoppedLemmas as lemmas
use Rattle.scfs_live.proofs.going_on.stopped_calls_leave.Goals as goal

pub returns : goal.returns
returns g c = lemmas.stopped_calls_leave _

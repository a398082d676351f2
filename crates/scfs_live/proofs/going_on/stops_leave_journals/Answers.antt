use Rattle.scfs_live.proofs.LeavingLemmas as lemmas
use Rattle.scfs_live.proofs.going_on.stops_leave_journals.Goals as goal

pub returns : goal.returns
returns c = lemmas.stops_leave_journals

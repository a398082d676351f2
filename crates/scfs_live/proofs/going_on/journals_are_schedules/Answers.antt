use Rattle.scfs_live.proofs.ScheduledLemmas as lemmas
use Rattle.scfs_live.proofs.going_on.journals_are_schedules.Goals as goal

pub returns : goal.returns
returns c = lemmas.journals_are_schedules

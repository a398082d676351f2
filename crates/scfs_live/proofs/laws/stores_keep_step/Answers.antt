use Rattle.scfs_live.proofs.StepLemmas.{stores_asked_once_more, stores_come_into_step, stores_keep_step, stores_stay_ahead}
use Rattle.scfs_live.proofs.laws.stores_keep_step.Goals as goal

pub returns : goal.returns
returns c = record { keeps = stores_keep_step; comes = stores_come_into_step; stays = stores_stay_ahead; once_more = stores_asked_once_more }

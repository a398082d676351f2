use Rattle.scfs_durable.proofs.Faithful.{stays_truthful}
use Rattle.scfs_durable.proofs.laws.truthful_clouds_stay_so.Goals as goal

pub returns : goal.returns
returns c = stays_truthful

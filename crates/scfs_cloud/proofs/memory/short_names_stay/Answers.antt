use Rattle.scfs_cloud.proofs.StoreLemmas.{short_served}
use Rattle.scfs_cloud.proofs.memory.short_names_stay.Goals as goal

pub returns : goal.returns
returns c = short_served

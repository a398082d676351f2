use Rattle.scfs_durable.proofs.Safe.{always_safe}
use Rattle.scfs_durable.proofs.laws.versions_stay_safe.Goals as goal

pub returns : goal.returns
returns c = always_safe

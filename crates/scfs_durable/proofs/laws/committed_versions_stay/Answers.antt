use Rattle.scfs_durable.proofs.Safe.{committed_are_safe}
use Rattle.scfs_durable.proofs.laws.committed_versions_stay.Goals as goal

pub returns : goal.returns
returns c = committed_are_safe

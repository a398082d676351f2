use Rattle.scfs_answered.proofs.Answered.{safe_versions_opened}
use Rattle.scfs_answered.proofs.laws.safe_versions_are_opened.Goals as goal

pub returns : goal.returns
returns c = safe_versions_opened

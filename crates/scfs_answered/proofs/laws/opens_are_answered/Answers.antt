use Rattle.scfs_answered.proofs.Answered.{opens_answered}
use Rattle.scfs_answered.proofs.laws.opens_are_answered.Goals as goal

pub returns : goal.returns
returns c = opens_answered

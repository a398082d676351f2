use Rattle.scfs_unit.proofs.UnsealLemmas.{AreEnough-some, unseal-some}
use Rattle.scfs_unit.proofs.laws.unsealing_laws.Goals as goal

pub returns : goal.returns
returns c = record { enough = AreEnough-some; gives_back = unseal-some }

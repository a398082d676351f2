use Rattle.scfs_laws.proofs.SoundLaw.{runs_without_clash}
use Rattle.scfs_laws.proofs.clash.runs_without_clash.Goals as goal

pub returns : goal.returns
returns c = runs_without_clash

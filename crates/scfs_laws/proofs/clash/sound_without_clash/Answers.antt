use Rattle.scfs_laws.proofs.SoundLaw.{sound_without_clash}
use Rattle.scfs_laws.proofs.clash.sound_without_clash.Goals as goal

pub returns : goal.returns
returns c = sound_without_clash

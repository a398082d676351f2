use Rattle.scfs_laws.proofs.SoundLaw.{no_clash_before}
use Rattle.scfs_laws.proofs.clash.no_clash_before.Goals as goal

pub returns : goal.returns
returns c = no_clash_before

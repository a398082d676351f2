use Rattle.scfs_laws.proofs.HeldReads.{reads_are_held}
use Rattle.scfs_laws.proofs.laws.reads_are_held.Goals as goal

pub returns : goal.returns
returns c = reads_are_held

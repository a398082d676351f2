use Rattle.scfs_world.proofs.WholeLaw as law
use Rattle.scfs_world.proofs.laws.states_are_whole.Goals as goal

pub returns : goal.returns
returns c = law.states_are_whole

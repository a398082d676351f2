use Rattle.scfs_world.proofs.WholeLaw as law
use Rattle.scfs_world.proofs.laws.standing_worlds_are_shown.Goals as goal

pub returns : goal.returns
returns c = law.standing_worlds_are_shown

use Rattle.scfs_laws.proofs.TwoLayers.{states_alike, is_run}
use Rattle.scfs_laws.proofs.laws.layers_agree.Goals as goal

pub returns-clause-states : goal.returns-clause-states
returns-clause-states c = states_alike

pub returns-clause-run : goal.returns-clause-run
returns-clause-run c = is_run

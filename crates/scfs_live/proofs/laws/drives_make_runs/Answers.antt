use Rattle.scfs_live.proofs.DrivenLemmas.{runs_begin, runs_end, runs_go_on, runs_stop}
use Rattle.scfs_live.proofs.laws.drives_make_runs.Goals as goal

pub returns : goal.returns
returns c = record { begins = runs_begin; goes_on = runs_go_on; stops = runs_stop; ends = runs_end }

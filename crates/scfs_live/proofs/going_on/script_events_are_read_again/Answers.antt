use Rattle.scfs_live.proofs.ScriptLemmas as lemmas
use Rattle.scfs_live.proofs.going_on.script_events_are_read_again.Goals as goal

pub returns : goal.returns
returns c = lemmas.scripts_are_read_again

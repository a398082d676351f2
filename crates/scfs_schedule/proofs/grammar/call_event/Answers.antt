use Rattle.scfs_schedule.proofs.FormLemmas.{call_few}
use Rattle.scfs_schedule.proofs.grammar.call_event.Goals as goal

pub returns-in_default-clause-value : goal.returns-in_default-clause-value
returns-in_default-clause-value c = call_few c.args.header.now c.args.words.now c.in_default.len_below

use Rattle.scfs_schedule.proofs.WrittenLemmas.{one_spelling}
use Rattle.scfs_schedule.proofs.laws.events_have_one_spelling.Goals as goal

pub returns : goal.returns
returns c = one_spelling c.args.header.now c.args.first.now c.args.second.now

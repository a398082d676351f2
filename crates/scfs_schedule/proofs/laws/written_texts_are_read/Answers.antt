use Rattle.scfs_schedule.proofs.WholeLemmas.{schedule_read}
use Rattle.scfs_schedule.proofs.laws.written_texts_are_read.Goals as goal

pub returns : goal.returns
returns c = schedule_read c.args.script c.args.header.now c.args.events.now

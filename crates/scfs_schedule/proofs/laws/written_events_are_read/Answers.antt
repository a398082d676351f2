use Rattle.scfs_schedule.proofs.WrittenLemmas.{event_read}
use Rattle.scfs_schedule.proofs.laws.written_events_are_read.Goals as goal

pub returns : goal.returns
returns c = event_read c.args.header.now c.args.event.now

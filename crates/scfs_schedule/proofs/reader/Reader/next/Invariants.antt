use Rattle.std.proofs.Common.{length}
use Rattle.scfs_schedule.proofs.ReadingLemmas.{Reached}
use Rattle.scfs_schedule.proofs.reader.Reader.next.Given as goal

abbrev pub invariant-lines : goal.invariant-lines
invariant-lines l = Reached l.initial.self l.self

abbrev pub decreases-lines : goal.decreases-lines
decreases-lines l = length l.self.rest

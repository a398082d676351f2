use Rattle.std.proofs.Output.{has_written_of_eq}
use Rattle.scfs_schedule.proofs.SpellingLemmas.{plain_byte, escaped_byte}
use Rattle.scfs_schedule.proofs.spelling.PathByteDisplay.fmt.Goals as goal

pub returns-then-stands_for_itself-clause-writes : goal.returns-then-stands_for_itself-clause-writes
returns-then-stands_for_itself-clause-writes g c = λ plain ok.
    has_written_of_eq _ _ _ _ _ (plain_byte c.args.self.now.0 c.from.result c.stands_for_itself.result c.stands_for_itself.ensures c.if-stands_for_itself.true c.from.ensures) (c.write.ensures.writes plain ok)

pub returns-else-stands_for_itself-clause-writes : goal.returns-else-stands_for_itself-clause-writes
returns-else-stands_for_itself-clause-writes g c = λ plain ok.
    has_written_of_eq _ _ _ _ _ (escaped_byte c.args.self.now.0 c.stands_for_itself.result c.stands_for_itself.ensures c.if-stands_for_itself.false) (c.write-else-stands_for_itself.ensures.writes plain ok)

use Rattle.std.proofs.Common.{sym}
use Rattle.scfs_schedule.proofs.LineLemmas.{last_byte}
use Rattle.scfs_live.proofs.pieces.is_unfinished.Goals as goal

pub returns-in-Some : goal.returns-in-Some
returns-in-Some c = last_byte c.args.text.now c.in-Some.byte.now (sym c.in-Some.ensures.value)

use Rattle.std.proofs.Common.{◌∙◌, ap, sym}
use Rattle.scfs_schedule.specs.Holding.{is_unfinished}
use Rattle.scfs_schedule.proofs.LineLemmas.{last_byte}
use Rattle.scfs_schedule.proofs.held.Held.ends_in_line.Goals as goal

pub returns-in-Some : goal.returns-in-Some
returns-in-Some c = last_byte c.bytes.result.now c.in-Some.byte.now (sym c.in-Some.ensures.value) ∙ ap is_unfinished c.bytes.ensures

use Rattle.std.proofs.Common.{sym}
use Rattle.scfs_live.proofs.LineLemmas.{last_mark}
use Rattle.scfs_live.proofs.finding.is_left_out.Goals as goal

pub returns-in-Some : goal.returns-in-Some
returns-in-Some c = last_mark c.args.line.now c.in-Some.byte.now (sym c.in-Some.ensures.value)

use Rattle.scfs_schedule.proofs.ReadBackLemmas.{line_spelled}
use Rattle.scfs_schedule.proofs.laws.read_lines_are_spelled.Goals as goal

pub returns : goal.returns
returns c = λ event is. line_spelled c.args.header.now c.args.line.now event is

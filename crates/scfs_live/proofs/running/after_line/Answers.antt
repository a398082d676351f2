use Rattle.scfs_live.proofs.WalkLemmas.{header_line_kept, line_kept}
use Rattle.scfs_live.proofs.running.after_line.Goals as goal

pub returns-in-KeepsHeader : goal.returns-in-KeepsHeader
returns-in-KeepsHeader g c = λ header place at.
    header_line_kept _ header place c.args.number c.args.world c.args.awaited c.without_header_line.result c.args.found c.in-KeepsHeader.is c.without_header_line.ensures at

pub returns-in-KeepsLine : goal.returns-in-KeepsLine
returns-in-KeepsLine g c = λ header place at.
    line_kept _ header place c.args.number c.args.world c.args.awaited c.without_line.result c.args.found c.in-KeepsLine.is c.without_line.ensures at

use Rattle.std.proofs.Common.{ap, sym}
use Rattle.scfs_schedule.specs.Splitting.{Splitting}
use Rattle.scfs_schedule.proofs.SplitLemmas.{piece_held}
use Rattle.scfs_schedule.proofs.lines.Lines.feed.Goals as goal

pub returns-clause-takes : goal.returns-clause-takes
returns-clause-takes c =
    let view = c.self.view_is in
    let after = c.take.new.self in
    piece_held c.take.result c.args.self.now _ c.self.inside.held after c.args.piece.now
    (sym (ap (λ (l : Splitting). l.rest) view)) (sym (ap (λ (l : Splitting). l.room) view)) (sym (ap (λ (l : Splitting). l.longer) view))
    c.take.ensures.ok
    (ap (λ (l : Splitting). record l { rest = after.rest; room = after.room; longer = after.longer }) view)

use Rattle.std.proofs.Common.{ap, sym}
use Rattle.scfs_schedule.specs.Reading.{Reading}
use Rattle.scfs_schedule.proofs.ReadingLemmas.{fed_held}
use Rattle.scfs_schedule.proofs.reader.Reader.feed.Goals as goal

pub returns-clause-takes : goal.returns-clause-takes
returns-clause-takes c =
    let view = c.self.view_is in
    let after = c.take.new.self in
    fed_held c.args.self.now c.self.inside.held after _ c.args.piece.now
    (sym (ap (λ (r : Reading). r.rest) view)) (sym (ap (λ (r : Reading). r.room) view)) (sym (ap (λ (r : Reading). r.longer) view))
    c.in_ok-take.ensures.ok
    (ap (λ (r : Reading). record r { rest = after.rest; room = after.room; longer = after.longer }) view)

use Rattle.std.proofs.Common.{take, arith, sym, ◌∙◌, length-take-le}
use Rattle.scfs_top.proofs.edges.feed_piece.Goals as goal

pub returns-in-Ok-feed-clause-takes : goal.returns-in-Ok-feed-clause-takes
returns-in-Ok-feed-clause-takes g c =
    let got = c.in-Ok.ensures.bytes in
    let fed = c.in-Ok-feed.ensures in (
      take c.in-Ok.count c.read.new.buf,
      length-take-le c.in-Ok.count c.read.new.buf got.0,
      omega arith,
      omega (arith, got.0, got.1),
      got.2,
      record { same = fed.takes; to = λ h at. fed.place ∙ at; from = λ h at. sym fed.place ∙ at; lines = λ h at. fed.lines },
    )

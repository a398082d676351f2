use Rattle.std.proofs.Common.{◌∙◌, ap, ◌∷◌, []}
use Rattle.scfs_schedule.specs.declared.types.Line.TheVariants as lines
use Rattle.scfs_world.proofs.SeatLemmas.{hear_does}
use Rattle.scfs_world.proofs.seat.Seat.hear.Goals as goal

pub returns : goal.returns
returns g c = λ space.
    hear_does _ c.args.now space c.args.self.now c.come_back.new.self c.args.net.now c.requires.ready.carried c.come_back.new.net c.come_back.result
    c.args.cloud c.args.given.request c.args.given.answer c.in_ok-lines.lines
    (λ header. c.in_ok-lines.ensures ∙ ap (λ sum. lines.Gave c.args.cloud c.args.given.request sum ∷ [])
    (c.sum_of-sum.ensures header)) c.come_back.ensures

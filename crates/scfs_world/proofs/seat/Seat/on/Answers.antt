use Rattle.scfs_world.proofs.SeatLemmas.{shown_fits, come_does, tell_does, serve_does, postpone_does}
use Rattle.scfs_world.proofs.seat.Seat.on.Goals as goal

pub tell-requires-clause-told : goal.tell-requires-clause-told
tell-requires-clause-told g c = shown_fits c.args.now c.args.space.now c.args.self.now c.args.net.now c.requires.shown

pub returns-in_ok-serve-in-Space : goal.returns-in_ok-serve-in-Space
returns-in_ok-serve-in-Space g c =
    serve_does _ c.args.now c.args.space.now c.args.self.now c.serve.new.self c.args.net.now c.requires.ready.carried c.args.event.now
    c.in-Space.field-0 c.in-Space.is c.serve.new.space c.in_ok-serve-in-Space.field-0 c.in_ok-serve-in-Space.ensures

pub returns-in_ok-postpone-in-Later : goal.returns-in_ok-postpone-in-Later
returns-in_ok-postpone-in-Later g c =
    postpone_does _ c.args.now c.args.space.now c.args.self.now c.postpone.new.self c.args.net.now c.requires.ready.carried c.args.event.now
    c.in-Later.field-0 c.in-Later.is c.in_ok-postpone-in-Later.field-0 c.in_ok-postpone-in-Later.ensures

pub returns-in-Told : goal.returns-in-Told
returns-in-Told g c =
    tell_does _ c.args.now c.args.space.now c.args.self.now c.tell.new.self c.args.net.now c.requires.ready.carried c.args.event.now c.in-Told.field-0
    c.tell.new.net c.tell.result c.in-Told.is c.tell.ensures

pub returns-in_default : goal.returns-in_default
returns-in_default g c =
    come_does _ c.args.now c.args.space.now c.args.self.now c.come.new.self c.args.net.now c.requires.ready.carried c.args.event.now
    c.requires.event.0 c.come.new.net c.come.result
    c.requires.event.1 c.in_default.not-Space c.in_default.not-Later c.in_default.not-Told c.come.ensures

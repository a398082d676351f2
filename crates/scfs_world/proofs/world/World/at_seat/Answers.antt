use Rattle.scfs_world.specs.contracts.world.World.{the_view}
use Rattle.scfs_world.proofs.WorldLemmas.{reads, shown_at, code_ready, event_does}
use Rattle.scfs_world.proofs.world.World.at_seat.Goals as goal

pub on-requires-clause-shown : goal.on-requires-clause-shown
on-requires-clause-shown g c =
    shown_at (the_view c.self.inside) c.self.inside.net c.from.result c.index_mut-seat.result.now
    (reads (the_view c.self.inside) c.args.self.now c.self.view_is c.args.a c.from.result c.index_mut-seat.result.now c.from.ensures
    c.index_mut-seat.ensures.value c.requires.world c.requires.shown c.requires.room c.requires.agent)

pub on-requires-clause-ready : goal.on-requires-clause-ready
on-requires-clause-ready g c =
    code_ready (the_view c.self.inside) c.self.inside.net c.from.result c.index_mut-seat.result.now
    (reads (the_view c.self.inside) c.args.self.now c.self.view_is c.args.a c.from.result c.index_mut-seat.result.now c.from.ensures
    c.index_mut-seat.ensures.value c.requires.world c.requires.shown c.requires.room c.requires.agent)

pub returns : goal.returns
returns g c =
    event_does (the_view c.self.inside) c.args.self.now c.self.view_is c.args.a c.from.result c.index_mut-seat.result.now c.from.ensures
    c.index_mut-seat.ensures.value c.requires.world c.requires.shown c.requires.room c.requires.agent
    _ c.args.event.now c.requires.event c.on.new.self c.on.new.space c.on.new.net c.on.result c.on.ensures

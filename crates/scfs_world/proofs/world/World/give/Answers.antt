use Rattle.std.proofs.Common.{refl, None, Some, arith}
use Rattle.scfs_world.specs.contracts.world.World.{the_view}
use Rattle.scfs_world.proofs.GiveLemmas.{none_does, far_does, near_cloud, near_ready, near_does}
use Rattle.scfs_world.proofs.world.World.give.Goals as goal

pub returns-in_default : goal.returns-in_default
returns-in_default g c =
    none_does (the_view c.self.inside) c.args.self.now c.self.view_is c.requires.world c.args.c None c.in_default.ensures.answer c.give.new.self
    c.in_default.ensures.after _ c.in_ok-one_line.field-0 refl c.in_ok-one_line.ensures

pub returns-then-a-len : goal.returns-then-a-len
returns-then-a-len g c =
    far_does (the_view c.self.inside) c.args.self.now c.self.view_is c.requires.world c.args.c
    (Some c.in-Some.given) c.in-Some.ensures.answer c.give.new.self
    c.in-Some.ensures.after c.in-Some.given refl _ c.new.result (omega (arith, c.if-a-len.true, c.len.ensures, c.from-a.ensures)) c.new.ensures

pub hear-requires-clause-cloud : goal.hear-requires-clause-cloud
hear-requires-clause-cloud g c =
    near_cloud (the_view c.self.inside) c.args.self.now c.self.view_is c.requires.world c.args.c (Some c.in-Some.given) c.in-Some.ensures.answer
    c.give.new.self c.in-Some.ensures.after c.in-Some.given refl c.from-a.result c.index_mut.result.now c.from-a.ensures c.index_mut.ensures.value
    (omega (arith, c.if-a-len.false, c.len.ensures)) c.requires.shown c.requires.room c.requires.cloud

pub hear-requires-clause-ready : goal.hear-requires-clause-ready
hear-requires-clause-ready g c =
    near_ready (the_view c.self.inside) c.args.self.now c.self.view_is c.requires.world c.args.c (Some c.in-Some.given) c.in-Some.ensures.answer
    c.give.new.self c.in-Some.ensures.after c.in-Some.given refl c.from-a.result c.index_mut.result.now c.from-a.ensures c.index_mut.ensures.value
    (omega (arith, c.if-a-len.false, c.len.ensures)) c.requires.shown c.requires.room

pub returns : goal.returns
returns g c =
    near_does (the_view c.self.inside) c.args.self.now c.self.view_is c.requires.world c.args.c (Some c.in-Some.given) c.in-Some.ensures.answer
    c.give.new.self c.in-Some.ensures.after c.in-Some.given refl c.from-a.result c.index_mut.result.now c.from-a.ensures c.index_mut.ensures.value
    (omega (arith, c.if-a-len.false, c.len.ensures)) c.requires.shown c.requires.room _ c.hear.new.self c.hear.new.net c.hear.result c.hear.ensures

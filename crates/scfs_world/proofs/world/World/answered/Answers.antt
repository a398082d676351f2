use Rattle.scfs_world.specs.contracts.world.World.{the_view}
use Rattle.scfs_world.proofs.CloudLemmas.{answered_does}
use Rattle.scfs_world.proofs.world.World.answered.Goals as goal

pub returns : goal.returns
returns c =
    answered_does (the_view c.self.inside) c.args.self.now c.self.view_is c.requires.world c.args.event.now c.answer.new.net c.in_ok-did.ensures.1
    c.in_ok-did.ensures.2 _ c.cloud_of.result c.in_ok-did.did c.in_ok-did_lines.field-0 c.requires.event c.cloud_of.ensures c.in_ok-did.ensures.0
    c.in_ok-did_lines.ensures

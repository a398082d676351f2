use Rattle.scfs_world.specs.contracts.world.World.{the_view}
use Rattle.scfs_world.proofs.CloudLemmas.{later_does}
use Rattle.scfs_world.proofs.world.World.later.Goals as goal

pub returns : goal.returns
returns c =
    later_does (the_view c.self.inside) c.args.self.now c.self.view_is c.args.ticks c.requires.world c.requires.ticks c.new.result c.new.ensures

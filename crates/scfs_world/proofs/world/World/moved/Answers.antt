use Rattle.scfs_world.specs.contracts.world.World.{the_view}
use Rattle.scfs_world.proofs.CloudLemmas.{moved_does}
use Rattle.scfs_world.proofs.world.World.moved.Goals as goal

pub returns : goal.returns
returns c =
    moved_does (the_view c.self.inside) c.args.self.now c.self.view_is c.requires.world c.args.event.now c.shift.new.net c.in_ok-moved.ensures.1
    c.in_ok-moved.ensures.2 _ c.in_ok-moved.moved c.in_ok-moved_lines.field-0 c.requires.event c.in_ok-moved.ensures.0 c.in_ok-moved_lines.ensures

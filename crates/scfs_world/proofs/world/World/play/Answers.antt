use Rattle.std.proofs.Common.{ap, ◌+◌}
use Rattle.scfs_world.specs.State.{counted}
use Rattle.scfs_world.proofs.PlayLemmas.{plays_on}
use Rattle.scfs_world.proofs.world.World.play.Goals as goal

pub returns-clause-plays : goal.returns-clause-plays
returns-clause-plays g c =
    let did = c.in_ok-lines.ensures in
    plays_on _ c.args.self.now (counted c.on.new.self) c.args.event.now c.in_ok-lines.lines c.requires.world c.requires.event c.brings_bytes.ensures
    c.requires.room did.1.header (ap (λ n. n + 1) did.1.events) did.1.world.carried did.0

use Rattle.std.proofs.Common.{◌≢◌, ◌↔◌, [], IsTrue}
use Rattle.scfs_world.specs.State.{SeatState}
use Rattle.scfs_world.specs.contracts.world.World.{the_view}
use Rattle.scfs_world.proofs.WorldLemmas.{seat_there}
use Rattle.scfs_world.proofs.world.World.space_request.Goals as goal

pub returns : goal.returns
returns c =
    seat_there (λ (seat : SeatState). IsTrue c.asks.result ↔ (seat.asked ≢ [])) (the_view c.self.inside) c.args.self.now c.self.view_is c.args.agent
    c.from.result c.index.result.now c.from.ensures c.index.ensures c.requires c.asks.ensures

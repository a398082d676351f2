use Rattle.scfs_live.specs.Asked.{told}
use Rattle.scfs_live.specs.Hearing.{AsksAs}
use Rattle.scfs_live.proofs.HearingLemmas.{at_one_set}
use Rattle.scfs_live.proofs.hearing.ask_one.Goals as goal

pub returns-clause-asked : goal.returns-clause-asked
returns-clause-asked g c =
    let cloud = g.C.Cloud in
    at_one_set (λ (x : g.row.C.Denot). told (cloud.faults x) (cloud.log x) (cloud.store x)) c.args.clouds.now c.args.cloud c.from.result
    c.index-clouds-from.result c.ask_cloud.new.cloud (AsksAs c.args.request.now c.ask_cloud.result) c.from.ensures
    (record { asks = c.ask_cloud.ensures })

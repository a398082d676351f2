use Rattle.scfs_top.specs.declared.play.Played.TheVariants as playeds
use Rattle.scfs_top.proofs.EdgeLemmas.{puts_nothing}
use Rattle.scfs_top.proofs.LeavingLemmas.{played_so, tells_so}
use Rattle.scfs_top.proofs.ReplayLemmas.{replays_closed, replays_fault, replays_short}
use Rattle.scfs_top.proofs.call.replay.Goals as goal

pub returns-in-WriteFault-clause-replays : goal.returns-in-WriteFault-clause-replays
returns-in-WriteFault-clause-replays g c =
    let plays = (played_so _ _ _ _ _ _ c.play.result playeds.WriteFault c.in-WriteFault.is c.play.ensures.plays).plays in
    replays_fault _ _ _ _ _ _ _ _ _ plays (tells_so _ _ _ _ c.play.result.played playeds.WriteFault c.in-WriteFault.is c.play.ensures.tells)

pub returns-in-Memory-clause-replays : goal.returns-in-Memory-clause-replays
returns-in-Memory-clause-replays g c =
    let plays = (played_so _ _ _ _ _ _ c.play.result playeds.Memory c.in-Memory.is c.play.ensures.plays).plays in
    replays_short _ _ _ _ _ _ _ _ _ playeds.Memory plays (λ same. cc) (tells_so _ _ _ _ c.play.result.played playeds.Memory c.in-Memory.is c.play.ensures.tells) _
    (puts_nothing (g.O.Sink.written c.play.new.out))

pub returns-in-Some-clause-replays : goal.returns-in-Some-clause-replays
returns-in-Some-clause-replays g c =
    let end = playeds.Ended c.in-Ended.events c.in-Ended.finish c.in-Ended.filled in
    let plays = (played_so _ _ _ _ _ _ c.play.result end c.in-Ended.is c.play.ensures.plays).plays in
    replays_closed _ _ _ _ _ _ _ _ _ c.in-Ended.events c.in-Ended.finish c.in-Ended.filled plays (tells_so _ _ _ _ c.play.result.played end c.in-Ended.is c.play.ensures.tells) _
    c.in-Some.last c.in-Some.ensures c.close.result c.close.ensures.closes

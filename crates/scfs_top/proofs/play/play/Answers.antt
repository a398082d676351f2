use Rattle.scfs_top.proofs.LeavingLemmas.{without}
use Rattle.scfs_top.proofs.ReplayLemmas.{flushed_to, plays_cut}
use Rattle.scfs_top.proofs.play.play.Goals as goal

pub returns-in-Ok-clause-plays : goal.returns-in-Ok-clause-plays
returns-in-Ok-clause-plays g c =
    let to = c.play_text-played.ensures.plays in
    flushed_to _ _ _ _ _ _ _ c.play_text-played.result.played to.plays c.play_text-played.result.world to.leaves to.whole c.in_default.not-WriteFault c.in-Ok.ensures.bytes

pub returns-clause-plays : goal.returns-clause-plays
returns-clause-plays g c =
    let part = c.in-Err.ensures.bytes in
    without _ _ _ _ _ _ _ _ c.without_world-in-Err.ensures (λ e. cc)
    (plays_cut _ _ _ _ _ _ _ c.play_text-played.result.played c.play_text-played.ensures.plays.plays c.in_default.not-WriteFault
    (record { front = part.0; back = part.1; whole = part.2; more = part.3; puts = part.4 }))

use Rattle.std.proofs.Common.{◌≡◌, List, ℕ, Some, subst, sym}
use Rattle.scfs_schedule.specs.declared.types.Ending.TheVariants as endings
use Rattle.scfs_model.specs.Runs.{actual}
use Rattle.scfs_model.specs.UnitFormat.{under}
use Rattle.scfs_top.specs.Dumping.{IsOutput}
use Rattle.scfs_top.specs.declared.closing.Finish.TheVariants as finishes
use Rattle.scfs_top.specs.declared.play.Played.TheVariants as playeds
use Rattle.scfs_top.proofs.DumpingLemmas.{dumps_closed, dumps_nothing, last_is_whole, of_map}
use Rattle.scfs_top.proofs.EdgeLemmas.{puts_nothing}
use Rattle.scfs_top.proofs.LeavingLemmas.{left_header, left_shows, played_so, tells_so}
use Rattle.scfs_top.proofs.call.dump.Goals as goal

pub output-requires : goal.output-requires
output-requires g c =
    let end = playeds.Ended c.in-Ended.events c.in-Ended.finish c.in-Ended.filled in
    let to = played_so _ _ _ _ _ _ c.play-played.result end c.in-Ended.is c.play-played.ensures.plays in
    last_is_whole c.in-Some.last c.in-Ended.events c.in-Ended.finish c.in-Ended.filled c.play-played.result.world c.in-Some.ensures to.whole

pub returns-in-Memory-clause-dumps : goal.returns-in-Memory-clause-dumps
returns-in-Memory-clause-dumps g c =
    let to = played_so _ _ _ _ _ _ c.play-played.result playeds.Memory c.in-Memory.is c.play-played.ensures.plays in
    dumps_nothing _ _ _ _ _ _ _ _ _ playeds.Memory to.plays (tells_so _ _ _ _ c.play-played.result.played playeds.Memory c.in-Memory.is c.play-played.ensures.tells)
    (puts_nothing (g.O.Sink.written c.args.out.now))

pub returns-in-Ok-clause-dumps : goal.returns-in-Ok-clause-dumps
returns-in-Ok-clause-dumps g c =
    let last = c.in-Some.last in
    let end = playeds.Ended c.in-Ended.events c.in-Ended.finish c.in-Ended.filled in
    let to = played_so _ _ _ _ _ _ c.play-played.result end c.in-Ended.is c.play-played.ensures.plays in
    let header = to.plays.header in
    let past = to.plays.past in
    let of_the_map = λ (whole : Some c.in-Ended.finish ≡ Some (finishes.Text endings.Ended)). of_map c.sound_without_clash.ensures c.layers_agree.ensures.states _ header past
    (left_header c.play-played.result.world header past to.leaves (to.whole whole)) to.plays.known.plays in
    let output = c.in-Ok.ensures (actual (under header) past) (left_shows c.play-played.result.world header past to.leaves) in
    dumps_closed _ _ _ _ _ _ _ _ _ c.in-Ended.events c.in-Ended.finish c.in-Ended.filled to.plays
    (tells_so _ _ _ _ c.play-played.result.played end c.in-Ended.is c.play-played.ensures.tells) last c.in-Some.ensures of_the_map c.as_slice.result.now
    (subst (λ (text : List ℕ). IsOutput (Some last) (actual (under header) past) text) (sym c.as_slice.ensures) output) c.close_with.result c.close_with.ensures.closes

pub returns-in-Err-clause-dumps : goal.returns-in-Err-clause-dumps
returns-in-Err-clause-dumps g c =
    let end = playeds.Ended c.in-Ended.events c.in-Ended.finish c.in-Ended.filled in
    let to = played_so _ _ _ _ _ _ c.play-played.result end c.in-Ended.is c.play-played.ensures.plays in
    dumps_nothing _ _ _ _ _ _ _ _ _ end to.plays (tells_so _ _ _ _ c.play-played.result.played end c.in-Ended.is c.play-played.ensures.tells)
    (puts_nothing (g.O.Sink.written c.args.out.now))

pub returns-in-None-clause-dumps : goal.returns-in-None-clause-dumps
returns-in-None-clause-dumps g c =
    let end = playeds.Ended c.in-Ended.events c.in-Ended.finish c.in-Ended.filled in
    let to = played_so _ _ _ _ _ _ c.play-played.result end c.in-Ended.is c.play-played.ensures.plays in
    dumps_nothing _ _ _ _ _ _ _ _ _ end to.plays (tells_so _ _ _ _ c.play-played.result.played end c.in-Ended.is c.play-played.ensures.tells)
    (puts_nothing (g.O.Sink.written c.args.out.now))

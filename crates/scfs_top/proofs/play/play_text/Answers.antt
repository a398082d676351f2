use Rattle.std.proofs.Common.{◌∷◌, ◌∙◌, ap, subst, arith}
use Rattle.scfs_schedule.specs.declared.types.Header.{Header}
use Rattle.scfs_schedule.specs.Grammar.{IsHeader}
use Rattle.scfs_top.specs.declared.closing.Filled.TheVariants as filleds
use Rattle.scfs_top.specs.declared.intake.Given.{Given}
use Rattle.scfs_top.specs.Giving.{Tells, filled_by}
use Rattle.scfs_top.specs.Playing.{finish_at}
use Rattle.scfs_top.specs.Plays.{finish_of}
use Rattle.scfs_top.proofs.GoingLemmas.{goes_on, leaves_end, plays_fault, plays_finished, plays_large, plays_undone, plays_unread, plays_unwritten}
use Rattle.scfs_top.proofs.HeaderFirst.{at_once_is_no_end}
use Rattle.scfs_top.proofs.LeavingLemmas.{finish_is_no_end, without}
use Rattle.scfs_top.proofs.RunLemmas.{known_next, plays_first, tells_then}
use Rattle.scfs_top.proofs.play.play_text.Goals as goal

pub returns-in-Err-next-clause-plays : goal.returns-in-Err-next-clause-plays
returns-in-Err-next-clause-plays g c =
    let i = c.events.invariant in
    let part = c.in-Err-next.ensures.part in
    without _ _ _ _ _ _ _ _ c.without_world-in-Err-next.ensures (λ e. cc)
    (plays_fault _ _ _ _ _ _ _ _ c.next.new.waiting _ c.next.new.self i.header i.past i.going (ap g.I.Source.left part.1) part.0)

pub returns-in-Ok-Memory-clause-plays : goal.returns-in-Ok-Memory-clause-plays
returns-in-Ok-Memory-clause-plays g c =
    let i = c.events.invariant in
    let on = c.in-Ok-Memory.ensures in
    without _ _ _ _ _ _ _ _ c.without_world-in-Ok-Memory.ensures (λ e. cc)
    (plays_unread _ _ _ _ _ _ _ _ _ _ _ i.header i.past i.going _ (record { more = on.draws.0; draws = on.draws.1; waited = on.draws.2; passes = on.passes }))

pub returns-in-Ok-Ended-clause-plays : goal.returns-in-Ok-Ended-clause-plays
returns-in-Ok-Ended-clause-plays g c =
    let i = c.events.invariant in
    let on = c.in-Ok-Ended.ensures in
    leaves_end _ _ _ _ _ _ _ _ _ _ _ i.header i.past i.going _ (record { more = on.draws.0; draws = on.draws.1; waited = on.draws.2; passes = on.passes })
    c.in-Ok-Ended.ending c.in-Ok-Ended.filled c.events-count.result c.events.world c.in-Ok-Ended.field-0-is (c.events-count.ensures ∙ i.stands.count) i.stands
    (subst (λ (h : Header). IsHeader h) i.stands.by_header i.world.header)

pub returns-in-Finished-clause-plays : goal.returns-in-Finished-clause-plays
returns-in-Finished-clause-plays g c =
    let i = c.events.invariant in
    let on = c.in-Ok-Event.ensures in
    let at = ap (λ n. finish_at c.line.result n c.in-Ok-Event.event) c.events-count.ensures ∙ c.in-Finished.ensures.finish in
    let turn = c.in-Finished.ensures.turns i.header i.past i.stands i.going.known.plays in
    without _ _ _ _ _ _ _ _ c.without_world-in-Finished.ensures (finish_is_no_end c.line.result c.events-count.result c.in-Ok-Event.event c.in-Finished.finish at)
    (plays_finished _ _ _ _ _ _ _ _ _ _ _ i.header i.past i.going _ (record { more = on.draws.0; draws = on.draws.1; waited = on.draws.2; passes = on.passes })
    c.in-Ok-Event.event c.line.result c.events-count.result c.in-Ok-Event.field-0-is c.line.ensures (c.events-count.ensures ∙ i.stands.count) _ _
    c.in-Finished.finish at turn)

pub returns-in-TooLarge-clause-plays : goal.returns-in-TooLarge-clause-plays
returns-in-TooLarge-clause-plays g c =
    let i = c.events.invariant in
    let on = c.in-Ok-Event.ensures in
    let at = ap (λ n. finish_at c.line.result n c.in-Ok-Event.event) c.events-count.ensures ∙ c.in-TooLarge.ensures.finish in
    let turn = c.in-TooLarge.ensures.turns i.header i.past i.stands i.going.known.plays in
    without _ _ _ _ _ _ _ _ c.without_world-in-TooLarge.ensures (λ e. cc)
    (plays_large _ _ _ _ _ _ _ _ _ _ _ i.header i.past i.going _ (record { more = on.draws.0; draws = on.draws.1; waited = on.draws.2; passes = on.passes })
    c.in-Ok-Event.event c.line.result c.events-count.result c.in-Ok-Event.field-0-is c.line.ensures (c.events-count.ensures ∙ i.stands.count) _ _
    at turn.0 turn.1)

pub returns-in-Memory-clause-plays : goal.returns-in-Memory-clause-plays
returns-in-Memory-clause-plays g c =
    let i = c.events.invariant in
    let on = c.in-Ok-Event.ensures in
    let at = ap (λ n. finish_at c.line.result n c.in-Ok-Event.event) c.events-count.ensures ∙ c.in-Memory.ensures.finish in
    let turn = c.in-Memory.ensures.turns i.header i.past i.stands i.going.known.plays in
    without _ _ _ _ _ _ _ _ c.without_world-in-Memory.ensures (λ e. cc)
    (plays_undone _ _ _ _ _ _ _ _ _ _ _ i.header i.past i.going _ (record { more = on.draws.0; draws = on.draws.1; waited = on.draws.2; passes = on.passes })
    c.in-Ok-Event.event c.line.result c.events-count.result c.in-Ok-Event.field-0-is c.line.ensures (c.events-count.ensures ∙ i.stands.count) _ _
    at turn)

pub returns-in-WriteFault-clause-plays : goal.returns-in-WriteFault-clause-plays
returns-in-WriteFault-clause-plays g c =
    let i = c.events.invariant in
    let on = c.in-Ok-Event.ensures in
    let at = ap (λ n. finish_at c.line.result n c.in-Ok-Event.event) c.events-count.ensures ∙ c.in-WriteFault.ensures.finish in
    let turn = c.in-WriteFault.ensures.turns i.header i.past i.stands i.going.known.plays in
    let known = known_next _ i.header i.past c.in-Ok-Event.event turn.0 c.no_clash_before.ensures c.reads_are_held.ensures c.opens_are_newest.ensures.made
    c.versions_stay_safe.ensures (subst (λ (h : Header). IsHeader h) i.stands.by_header i.world.header)
    (omega (arith, i.stands.count, i.few)) i.going.known turn.1 in
    without _ _ _ _ _ _ _ _ c.without_world-in-WriteFault.ensures (λ e. cc)
    (plays_unwritten _ _ _ _ _ _ _ _ _ _ _ i.header i.past i.going _ (record { more = on.draws.0; draws = on.draws.1; waited = on.draws.2; passes = on.passes })
    c.in-Ok-Event.event c.line.result c.events-count.result c.in-Ok-Event.field-0-is c.line.ensures (c.events-count.ensures ∙ i.stands.count) _ _
    turn.0 known turn.1 at turn.2)

pub events-preserved : goal.events-preserved
events-preserved g c =
    let s = g.I.Source in
    let i = c.events.invariant in
    let on = c.in-Ok-Event.ensures in
    let at = ap (λ n. finish_at c.line.result n c.in-Ok-Event.event) c.events-count.ensures ∙ c.in-Done.ensures.finish in
    let turn = c.in-Done.ensures.turns i.header i.past i.stands i.going.known.plays in
    let done = c.play_event.ensures.done c.in-Done.after c.in-Done.is in
    let known = known_next _ i.header i.past c.in-Ok-Event.event turn.0 c.no_clash_before.ensures c.reads_are_held.ensures c.opens_are_newest.ensures.made
    c.versions_stay_safe.ensures (subst (λ (h : Header). IsHeader h) i.stands.by_header i.world.header)
    (omega (arith, i.stands.count, i.few)) i.going.known turn.1 in
    record {
      header = i.header;
      past = turn.0 ∷ i.past;
      going = goes_on _ _ _ _ _ _ _ _ _ _ _ i.header i.past i.going _ (record { more = on.draws.0; draws = on.draws.1; waited = on.draws.2; passes = on.passes })
          c.in-Ok-Event.event c.line.result c.events-count.result c.in-Ok-Event.field-0-is c.line.ensures (c.events-count.ensures ∙ i.stands.count) _ _
          turn.0 known turn.1 at turn.3;
      stands = turn.2;
      world = c.play_event.ensures.world c.in-Done.after c.in-Done.is;
      few = done.2;
      tells = tells_then _ _ _ _ _ _ filleds.Open i.tells (subst (λ (x : Given). Tells (s.ends c.events.input) (s.ends c.next.new.input) (s.faults c.events.input)
          (s.faults c.next.new.input) (filled_by x)) c.in-Ok-Event.field-0-is on.tells);
      later = omega (arith, i.later, on.cause.later, c.play_event.ensures.later);
    }

pub returns-in-Err-clause-plays : goal.returns-in-Err-clause-plays
returns-in-Err-clause-plays g c =
    let b = c.in-Err.ensures.ran in
    without _ _ _ _ _ _ _ _ c.without_world.ensures (at_once_is_no_end b.0 (finish_of c.in-Err.played) b.2)
    (plays_first _ _ _ _ _ _ b.0 c.in-Err.played b.1 b.2)

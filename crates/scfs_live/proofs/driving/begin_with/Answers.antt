use Rattle.std.proofs.Common.{◌∙◌, ap, arith, subst, sym}
use Rattle.scfs_schedule.specs.declared.types.Header.{Header}
use Rattle.scfs_model.specs.UnitFormat.{under}
use Rattle.scfs_live.specs.Able.{Fits}
use Rattle.scfs_live.specs.Driving.{Driver, begun}
use Rattle.scfs_live.proofs.FitsLemmas.{begun_fits}
use Rattle.scfs_live.proofs.GoingLemmas.{first_ended, first_full, first_on, first_wanting}
use Rattle.scfs_live.proofs.TurnLemmas.{nothing_written}
use Rattle.scfs_live.proofs.driving.begin_with.Goals as goal

pub returns-then-events-eq-EVENTS_LIMIT-clause-ended : goal.returns-then-events-eq-EVENTS_LIMIT-clause-ended
returns-then-events-eq-EVENTS_LIMIT-clause-ended g c = λ header past clouds stands played.
    first_full _ header past c.args.event.now c.requires.event.script played _ _ _ _ clouds (omega (arith, stands.count))
    (nothing_written (g.J.Sink.written c.args.journal.now) (g.O.Sink.written c.args.out.now))

pub returns-in-Err-clause-ended : goal.returns-in-Err-clause-ended
returns-in-Err-clause-ended g c = λ header past clouds stands played.
    first_wanting _ header past c.args.event.now c.requires.event.script played _ _ _ _ clouds (omega (arith, stands.count, c.requires.room))
    (nothing_written (g.J.Sink.written c.args.journal.now) (g.O.Sink.written c.args.out.now))

pub returns-in-Ok-turn-clause-begun : goal.returns-in-Ok-turn-clause-begun
returns-in-Ok-turn-clause-begun g c = λ header past clouds stands played.
    let event = c.args.event.now in
    first_on _ header past event c.requires.event.script played _ _ _ _ clouds c.in-Ok-turn.world c.in-Ok.driver
    (c.in-Ok.ensures ∙ ap (λ (h : Header). begun (under h) event) (c.header.ensures ∙ stands.by_header))
    (c.in-Ok-turn.ensures.turned header past stands played)

pub returns-in-Ok-turn-clause-driver : goal.returns-in-Ok-turn-clause-driver
returns-in-Ok-turn-clause-driver g c =
    subst (λ (d : Driver). Fits c.args.world.header d)
    (sym (c.in-Ok.ensures ∙ ap (λ (h : Header). begun (under h) c.args.event.now) c.header.ensures))
    (begun_fits c.args.world.header c.args.event.now c.requires.event.done.fits)

pub returns-in-Err-turn-clause-ended : goal.returns-in-Err-turn-clause-ended
returns-in-Err-turn-clause-ended g c = λ header past clouds stands played.
    first_ended _ header past c.args.event.now c.requires.event.script played _ _ _ _ clouds (omega (arith, stands.count, c.requires.room)) c.in-Err-turn.end (c.in-Err-turn.ensures.turned header past stands played)

use Rattle.std.proofs.Common.{refl, arith}
use Rattle.scfs_live.proofs.WalkLemmas.{event_done, too_large_next}
use Rattle.scfs_live.proofs.running.step.Goals as goal

pub returns-in-Ok-after_event : goal.returns-in-Ok-after_event
returns-in-Ok-after_event g c = λ header place number stands plays.
    let on = c.in-Ok.ensures.plays header place.past stands plays in
    event_done _ header place number c.args.event.now c.in-Ok.stepped.world c.in-Ok.stepped.lines c.in-Ok-after_event.running on.0
    c.requires.built (omega (arith, stands.count, c.requires.room)) on.1 on.2 on.3 on.4 c.in-Ok.ensures.world c.in-Ok-after_event.ensures

pub returns-in-TooLarge : goal.returns-in-TooLarge
returns-in-TooLarge g c = λ header place number stands plays. (
  c.args.event.now,
  refl,
  c.requires.built,
  omega (arith, stands.count, c.requires.room),
  too_large_next _ header place.past c.args.world c.args.event.now c.states_are_whole.ensures stands plays.happens (omega (arith, stands.count, c.requires.room))
      (c.in-Err.ensures.too_large c.in-TooLarge.is),
)

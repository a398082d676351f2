use Rattle.std.proofs.Common.{ℕ, arith, refl}
use Rattle.scfs_policy.specs.declared.rank.RankFacts.{RankFacts}
use Rattle.scfs_live.proofs.TurnLemmas.{nothing_written, too_large_next, turned_by}
use Rattle.scfs_live.proofs.driving.turn.Goals as goal

pub returns-in-Ok-clause-turned : goal.returns-in-Ok-clause-turned
returns-in-Ok-clause-turned g c = λ header past stands played.
    let allows : RankFacts → ℕ → Type 0 = λ facts rank. g.R.Fn.post c.args.rank.now (facts, tt) rank in
    let on = c.in-Ok.ensures.plays header past stands played in
    turned_by allows header past c.args.event.now c.in-Ok.stepped.world c.in-Ok.stepped.lines
    (record { entry = on.0; same = on.1; said = on.2; stands = on.3; plays = on.4; few = omega (arith, stands.count, c.requires.room) })
    _ _ _ _ c.write_event.result c.write_event.ensures.writes c.write_event.ensures.world

pub returns-in-TooLarge-clause-turned : goal.returns-in-TooLarge-clause-turned
returns-in-TooLarge-clause-turned g c = λ header past stands played.
    let allows : RankFacts → ℕ → Type 0 = λ facts rank. g.R.Fn.post c.args.rank.now (facts, tt) rank in (
      c.args.event.now,
      refl,
      too_large_next allows header past c.args.world c.args.event.now c.states_are_whole.ensures stands played.happens (omega (arith, stands.count, c.requires.room))
          (c.in-Err.ensures.too_large c.in-TooLarge.is),
      nothing_written (g.J.Sink.written c.args.journal.now) (g.O.Sink.written c.args.out.now),
    )

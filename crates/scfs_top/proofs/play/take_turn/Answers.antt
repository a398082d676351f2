use Rattle.std.proofs.Common.{ℕ, arith}
use Rattle.scfs_policy.specs.declared.rank.RankFacts.{RankFacts}
use Rattle.scfs_top.proofs.EdgeLemmas.{passes_nothing}
use Rattle.scfs_top.proofs.TurnLemmas.{too_large_next, pushed_turn}
use Rattle.scfs_top.proofs.play.take_turn.Goals as goal

pub returns-in-Ok-clause-turns : goal.returns-in-Ok-clause-turns
returns-in-Ok-clause-turns g c = λ header past stands played.
    let on = c.in-Ok.ensures.plays header past stands played in
    let pushed = c.pass_lines.ensures in
    pushed_turn _ header past c.args.event.now c.in-Ok.stepped.world c.in-Ok.stepped.lines (g.O.Sink.written c.args.out.now) (g.O.Sink.written c.pass_lines.new.out)
    c.args.waiting.now c.pass_lines.new.waiting c.pass_lines.result
    (record { entry = on.0; next = record { same = on.1; plays = on.4; permits = on.5 }; said = on.2; stands = on.3 })
    (record { done = pushed.done; goes_on = pushed.goes_on; small = pushed.small; part = pushed.part; nothing = pushed.nothing })

pub returns-in-TooLarge-clause-turns : goal.returns-in-TooLarge-clause-turns
returns-in-TooLarge-clause-turns g c = λ header past stands played.
    let allows : RankFacts → ℕ → Type 0 = λ facts rank. g.R.Fn.post c.args.rank.now (facts, tt) rank in (
      too_large_next allows header past c.args.world c.args.event.now c.states_are_whole.ensures stands played.happens (omega (arith, stands.count, c.requires.room))
          (c.in-Err.ensures.too_large c.in-TooLarge.is),
      passes_nothing (g.O.Sink.written c.args.out.now) c.args.waiting.now,
    )

use Rattle.std.proofs.Common.{ℕ}
use Rattle.scfs_policy.specs.declared.rank.RankFacts.{RankFacts}
use Rattle.scfs_live.proofs.AdvanceLemmas.{advanced_by, heard_with}
use Rattle.scfs_live.proofs.TurnLemmas.{nothing_written}
use Rattle.scfs_live.proofs.driving.advance.Goals as goal

pub returns-in-Ok-clause-advanced : goal.returns-in-Ok-clause-advanced
returns-in-Ok-clause-advanced g c = λ header past stands played.
    let allows : RankFacts → ℕ → Type 0 = λ facts rank. g.R.Fn.post c.args.rank.now (facts, tt) rank in
    advanced_by allows header past c.args.next _ _ c.in-Ok.event
    (record { is = c.in-Ok.ensures.event; heard = heard_with c.args.next _ _ _ _ _ stands.clouds c.in-Ok.ensures.heard })
    _ _ _ _ c.turn.result (c.turn.ensures.turned header past stands played)

pub returns-in-Err-clause-advanced : goal.returns-in-Err-clause-advanced
returns-in-Err-clause-advanced g c = λ header past stands played.
    (_, heard_with c.args.next _ _ _ _ _ stands.clouds c.in-Err.ensures.heard, nothing_written (g.J.Sink.written c.args.journal.now) (g.O.Sink.written c.args.out.now))

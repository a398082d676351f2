use Rattle.std.proofs.Common.{ℕ, [], cond, IfOk, refl, sym, subst}
use Rattle.scfs_policy.specs.declared.rank.RankFacts.{RankFacts}
use Rattle.scfs_model.specs.Layers.{rows}
use Rattle.scfs_model.specs.Runs.{Answers}
use Rattle.scfs_model.specs.Agents.{Calls, Hears, Turns, Starts}
use Rattle.scfs_model.specs.Reactions.{starts}
use Rattle.scfs_agent.specs.State.{setup, given_now}
use Rattle.scfs_agent.specs.Telling.{pending_step, reads_version}
use Rattle.scfs_agent.specs.Reacting.{Reacts}
use Rattle.scfs_agent.specs.declared.types.Input.{Input}
use Rattle.scfs_agent.proofs.ObeyLemmas.{does_settled, does_alone, does_tell}
use Rattle.scfs_agent.proofs.ReactedLemmas.{all_hears_begun, all_turns_begun, one_begun}
use Rattle.scfs_agent.proofs.agent.Agent.obey.Goals as goal

pub returns-in-Call-clause-reacts : goal.returns-in-Call-clause-reacts
returns-in-Call-clause-reacts g c =
    let old = c.args.self.now in
    let allows : RankFacts → ℕ → Type 0 = λ facts rank. g.R.Fn.post c.args.rank.now (facts, tt) rank in
    subst (λ (i : Input). IfOk c.call.result (λ given. Reacts allows c.args.now old.header old.no old.agent c.call.new.self.agent given i))
    (sym c.in-Call.is)
    (does_settled allows c.args.now old c.call.new.self c.may_ask.ensures (Calls c.in-Call.call) _ c.call.result tt refl c.call.ensures.gives
    c.call.ensures.after)

pub returns-in_ok-ranks-in-Space-clause-reacts : goal.returns-in_ok-ranks-in-Space-clause-reacts
returns-in_ok-ranks-in-Space-clause-reacts g c =
    let old = c.args.self.now in
    let allows : RankFacts → ℕ → Type 0 = λ facts rank. g.R.Fn.post c.args.rank.now (facts, tt) rank in
    subst (λ (i : Input). IfOk c.told.result (λ given. Reacts allows c.args.now old.header old.no old.agent c.told.new.self.agent given i))
    (sym c.in-Space.is)
    (does_tell allows c.args.now old c.told.new.self c.may_ask.ensures c.in-Space.request c.in-Space.reply c.as_slice.result.now c.told.result
    c.requires.room.closed
    (subst (Answers allows (cond (reads_version (pending_step old.agent.pending c.in-Space.request) c.in-Space.reply.result) old.agent.tallies []))
    (sym c.as_slice.ensures)
    c.in_ok-ranks-in-Space.ensures.answers) c.told.ensures.gives c.told.ensures.after)

pub returns-in-Cloud-clause-reacts : goal.returns-in-Cloud-clause-reacts
returns-in-Cloud-clause-reacts g c =
    let old = c.args.self.now in
    let allows : RankFacts → ℕ → Type 0 = λ facts rank. g.R.Fn.post c.args.rank.now (facts, tt) rank in
    subst (λ (i : Input). IfOk c.heard.result (λ given. Reacts allows c.args.now old.header old.no old.agent c.heard.new.self.agent given i))
    (sym c.in-Cloud.is)
    (does_alone allows c.args.now old c.heard.new.self c.may_ask.ensures (Hears c.in-Cloud.cloud c.in-Cloud.request c.in-Cloud.answer) _
    c.heard.result tt refl
    (all_hears_begun (setup old) old.no old.agent c.in-Cloud.cloud c.in-Cloud.request c.in-Cloud.answer c.requires.room.closed) c.heard.ensures.gives
    c.heard.ensures.after)

pub returns-in-Turn-clause-reacts : goal.returns-in-Turn-clause-reacts
returns-in-Turn-clause-reacts g c =
    let old = c.args.self.now in
    let allows : RankFacts → ℕ → Type 0 = λ facts rank. g.R.Fn.post c.args.rank.now (facts, tt) rank in
    subst (λ (i : Input). IfOk c.turn.result (λ given. Reacts allows c.args.now old.header old.no old.agent c.turn.new.self.agent given i))
    (sym c.in-Turn.is)
    (does_alone allows c.args.now old c.turn.new.self c.may_ask.ensures Turns _ c.turn.result tt refl
    (all_turns_begun (setup old) old.no old.agent (given_now c.args.now []) c.requires.room.closed) c.turn.ensures.gives c.turn.ensures.after)

pub returns-in-Start-clause-reacts : goal.returns-in-Start-clause-reacts
returns-in-Start-clause-reacts g c =
    let old = c.args.self.now in
    let allows : RankFacts → ℕ → Type 0 = λ facts rank. g.R.Fn.post c.args.rank.now (facts, tt) rank in
    subst (λ (i : Input). IfOk c.start.result (λ given. Reacts allows c.args.now old.header old.no old.agent c.start.new.self.agent given i))
    (sym c.in-Start.is)
    (does_alone allows c.args.now old c.start.new.self c.may_ask.ensures Starts (starts (setup old) rows old.no old.agent) c.start.result tt refl
    (one_begun (setup old) old.no old.agent.closed c.requires.room.closed) c.start.ensures.gives c.start.ensures.after)

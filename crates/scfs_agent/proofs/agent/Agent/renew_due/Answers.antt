use Rattle.std.proofs.Common.{sym, ◌∙◌, subst, ◌≤◌}
use Rattle.scfs_agent.specs.State.{AgentState}
use Rattle.scfs_agent.specs.Keeping.{AreLeases}
use Rattle.scfs_agent.proofs.RenewalLemmas.{IsRenewing, renewing_first, renewing_more, renewing_fewer, renewed_gives, renewed_after}
use Rattle.scfs_agent.proofs.agent.Agent.renew_due.Goals as goal

pub each-init : goal.each-init
each-init c =
    let old = c.args.self.now in
    let are = subst (λ (a : AgentState). AreLeases a.inputs a.agent.leases) c.self.view_is c.self.invariant.leased in
    let few = subst (λ (a : AgentState). a.inputs ≤ 1000000) c.self.view_is c.self.invariant.counted in
    subst (IsRenewing old old c.args.now 0) (sym c.new-given.ensures) (renewing_first old c.args.now old.inputs are few)

pub each-smaller : goal.each-smaller
each-smaller c =
    renewing_fewer c.args.self.now c.each.self c.args.now c.each.after c.each.given c.each.invariant c.in-Some.session c.next_due.ensures.rising
    (sym c.next_due.ensures.due
    ∙ c.in-Some.is) c.renew.new.self c.in_ok-asked.asked c.extend.new.all c.in_ok-asked.ensures.after c.in_ok-asked.ensures.gives
    c.in_ok-extend.ensures c.in_ok-asked.ensures.asks

pub each-preserved : goal.each-preserved
each-preserved c =
    renewing_more c.args.self.now c.each.self c.args.now c.each.after c.each.given c.each.invariant c.in-Some.session c.next_due.ensures.rising
    (sym c.next_due.ensures.due
    ∙ c.in-Some.is) c.renew.new.self c.in_ok-asked.asked c.extend.new.all c.in_ok-asked.ensures.after c.in_ok-asked.ensures.gives
    c.in_ok-extend.ensures c.in_ok-asked.ensures.asks

pub returns-clause-gives : goal.returns-clause-gives
returns-clause-gives c =
    renewed_gives c.args.self.now c.each.self c.args.now c.each.after c.each.given c.each.invariant (sym c.next_due.ensures.due ∙ c.in_default.is)

pub returns-clause-after : goal.returns-clause-after
returns-clause-after c =
    renewed_after c.args.self.now c.each.self c.args.now c.each.after c.each.given c.each.invariant (sym c.next_due.ensures.due ∙ c.in_default.is)

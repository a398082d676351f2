use Rattle.std.proofs.Common.{◌≤◌, map, sym, ap, subst, arith}
use Rattle.scfs_agent.specs.State.{AgentState}
use Rattle.scfs_agent.specs.Views.{request_of}
use Rattle.scfs_agent.specs.Keeping.{AreLeases, calls_in}
use Rattle.scfs_agent.proofs.KeptLemmas.{unleased_are}
use Rattle.scfs_agent.proofs.agent.Agent.give_up.Goals as goal

pub invariant_of-self : goal.invariant_of-self
invariant_of-self c =
    let inside = c.self.inside in
    let leased : AreLeases inside.inputs c.given_back.new.self =
    subst (AreLeases inside.inputs) (sym c.given_back.ensures) (unleased_are inside.inputs c.args.session inside.leases c.self.invariant.leased) in
    let waits : calls_in (map request_of inside.pending) ≤ 0 =
    omega (arith, ap (λ (a : AgentState). calls_in a.agent.pending) c.self.view_is, c.requires.calls) in
    assumption (c.self.invariant, leased, waits)

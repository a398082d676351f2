use Rattle.std.proofs.Common.{◌≤◌, ◌+◌, length, false, sym, ap, ◌∙◌, subst}
use Rattle.scfs_lease.specs.Leases.{with_lease}
use Rattle.scfs_agent.specs.State.{AgentState}
use Rattle.scfs_agent.specs.Keeping.{AreLeases}
use Rattle.scfs_agent.proofs.KeptLemmas.{kept_leases, leased_are}
use Rattle.scfs_agent.proofs.agent.Agent.lease.Goals as goal

pub invariant_of-self-2 : goal.invariant_of-self-2
invariant_of-self-2 c =
    let inside = c.self.inside in
    let room = subst (λ (a : AgentState). length a.agent.leases + 1 ≤ a.inputs) (sym c.self.view_is) c.requires.room in
    kept_leases c.self.invariant _
    (subst (AreLeases inside.inputs)
    (sym (c.in_ok-taken.ensures
    ∙ ap (with_lease (record { session = c.args.session; until = c.args.until; asked = false })) c.replace-leases.ensures.value))
    (leased_are inside.inputs c.args.session c.args.until inside.leases c.requires.session room c.self.invariant.leased))

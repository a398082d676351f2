use Rattle.std.proofs.Common.{sym, subst}
use Rattle.scfs_agent.specs.Keeping.{AreLeases}
use Rattle.scfs_agent.proofs.KeptLemmas.{kept_leases, renewal_are}
use Rattle.scfs_agent.proofs.agent.Agent.renew.Goals as goal

pub invariant_of-self : goal.invariant_of-self
invariant_of-self c =
    kept_leases c.self.invariant _
    (subst (AreLeases c.self.inside.inputs) (sym c.asked.ensures)
    (renewal_are c.self.inside.inputs c.args.session c.self.inside.leases c.self.invariant.leased))

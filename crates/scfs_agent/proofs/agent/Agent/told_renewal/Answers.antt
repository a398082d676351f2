use Rattle.std.proofs.Common.{sym, subst}
use Rattle.scfs_agent.specs.Keeping.{AreLeases}
use Rattle.scfs_agent.proofs.KeptLemmas.{kept_leases, unleased_are, ended_are}
use Rattle.scfs_agent.proofs.agent.Agent.told_renewal.Goals as goal

pub invariant_of-self : goal.invariant_of-self
invariant_of-self c =
    kept_leases c.self.invariant _
    (subst (AreLeases c.self.inside.inputs) (sym c.lapsed.ensures)
    (unleased_are c.self.inside.inputs c.args.session c.self.inside.leases c.self.invariant.leased))

pub invariant_of-self-in-Did : goal.invariant_of-self-in-Did
invariant_of-self-in-Did c =
    kept_leases c.self.invariant _
    (subst (AreLeases c.self.inside.inputs) (sym c.renewed.ensures)
    (ended_are c.self.inside.inputs c.args.session _ c.self.inside.leases c.self.invariant.leased))

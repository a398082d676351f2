use Rattle.std.proofs.Common.{length}
use Rattle.scfs_agent.proofs.RenewalLemmas.{IsRenewing, due}
use Rattle.scfs_agent.proofs.agent.Agent.renew_due.Given as goal

abbrev pub invariant-each : goal.invariant-each
invariant-each l = IsRenewing l.fn.self l.self l.now l.after l.given

abbrev pub decreases-each : goal.decreases-each
decreases-each l = length (due l.now l.self.header.lease l.after l.self.agent.leases)

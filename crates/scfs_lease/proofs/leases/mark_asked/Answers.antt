use Rattle.scfs_lease.specs.Leases.{renewal_asked}
use Rattle.scfs_lease.proofs.Rising.{lease_more}
use Rattle.scfs_lease.proofs.leases.mark_asked.Goals as goal

pub loop-held-preserved : goal.loop-held-preserved
loop-held-preserved c =
    lease_more (renewal_asked c.args.session) c.args.leases.now c.loop-held.leases c.loop-held.held-index c.asking.result _
    c.asking.ensures c.loop-held-test.true c.loop-held.auto.leases c.loop-held.invariant

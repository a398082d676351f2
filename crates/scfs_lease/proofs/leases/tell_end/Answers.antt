use Rattle.scfs_lease.specs.Leases.{end_told}
use Rattle.scfs_lease.proofs.Rising.{lease_more}
use Rattle.scfs_lease.proofs.leases.tell_end.Goals as goal

pub loop-held-preserved : goal.loop-held-preserved
loop-held-preserved c =
    lease_more (end_told c.args.session c.args.until) c.args.leases.now c.loop-held.leases c.loop-held.held-index c.told.result _
    c.told.ensures c.loop-held-test.true c.loop-held.auto.leases c.loop-held.invariant

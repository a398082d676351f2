use Rattle.std.proofs.Common.{◌≡◌, ◌∙◌, ap, subst}
use Rattle.scfs_lease.specs.Leases.{IsRising, first_due}
use Rattle.scfs_lease.proofs.Rising.{least_due}
use Rattle.scfs_lease.proofs.leases.Leases.due.Goals as goal

pub returns : goal.returns
returns c =
    let rising = subst IsRising c.self.view_is c.self.invariant in
    let first : c.first_due.result ≡ first_due c.args.now c.args.lease c.args.after c.args.self.now =
    c.first_due.ensures ∙ ap (first_due c.args.now c.args.lease c.args.after) (c.deref.ensures.value ∙ c.self.view_is) in
    record { first = first; least = rw first (least_due c.args.now c.args.lease c.args.after c.args.self.now rising); rising = rising }

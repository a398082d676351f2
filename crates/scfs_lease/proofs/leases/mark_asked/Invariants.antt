use Rattle.std.proofs.Common.{◌≡◌, ◌++◌, take, drop}
use Rattle.scfs_lease.specs.Leases.{with_renewal}
use Rattle.scfs_lease.proofs.leases.mark_asked.Given as goal

abbrev pub invariant-loop-held : goal.invariant-loop-held
invariant-loop-held l =
    l.leases ≡ with_renewal l.session (take l.held-index l.initial.leases) ++ drop l.held-index l.initial.leases

use Rattle.std.proofs.Common.{◌≡◌, ◌++◌, take, drop}
use Rattle.scfs_lease.specs.Leases.{with_end}
use Rattle.scfs_lease.proofs.leases.tell_end.Given as goal

abbrev pub invariant-loop-held : goal.invariant-loop-held
invariant-loop-held l =
    l.leases ≡ with_end l.session l.until (take l.held-index l.initial.leases) ++ drop l.held-index l.initial.leases

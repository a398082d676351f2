use Rattle.std.proofs.Common.{◌≡◌, ◌∙◌, false, ltb, sym, subst}
use Rattle.std.specs.Prelude.{count_by}
use Rattle.scfs_lease.specs.declared.leases.Lease.{Lease}
use Rattle.scfs_lease.specs.Leases.{IsRising}
use Rattle.scfs_lease.proofs.Rising.{placed, placed_rises}
use Rattle.scfs_lease.proofs.leases.Leases.taken.Goals as goal

pub returns : goal.returns
returns c =
    let at : c.place-place.result ≡ count_by (λ (l : Lease). ltb l.session c.args.session) c.self.inside.held.items = rw c.self.view_is c.place-place.ensures in
    c.in_ok-insert.ensures.items
    ∙ placed (record { session = c.args.session; until = c.args.until; asked = false }) c.args.self.now c.self.inside.held.items c.place-place.result
    c.self.invariant (c.self.view_is ∙ c.given_back.ensures) at

pub invariant_of-self-2 : goal.invariant_of-self-2
invariant_of-self-2 c =
    subst IsRising (sym (returns c))
    (placed_rises (record { session = c.args.session; until = c.args.until; asked = false }) c.args.self.now c.self.inside.held.items
    c.self.invariant (c.self.view_is ∙ c.given_back.ensures))

use Rattle.std.proofs.Common.{◌≡◌, length, arith}
use Rattle.std.specs.Vec.{with_items}
use Rattle.std.proofs.lemmas.List.{with_items_is}
use Rattle.scfs_lease.proofs.Rising.{asked_keeps}
use Rattle.scfs_lease.proofs.leases.Leases.asked.Goals as goal

pub invariant_of-self : goal.invariant_of-self
invariant_of-self c =
    let held = c.self.inside.held in
    let new = c.mark_asked.new.leases in
    let long : length new ≡ held.len = omega arith in
    asked_keeps c.args.session held.items c.deref_mut.result.now new (with_items held new).items c.self.invariant
    c.deref_mut.ensures.value c.mark_asked.ensures (with_items_is held new long)

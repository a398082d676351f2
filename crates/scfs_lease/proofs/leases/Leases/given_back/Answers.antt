use Rattle.std.proofs.Common.{◌≡◌, ◌∙◌, not, eqb, ap, sym, subst, rules}
use Rattle.std.proofs.lemmas.Fn.{filter_same}
use Rattle.scfs_lease.specs.declared.leases.Lease.{Lease}
use Rattle.scfs_lease.specs.Leases.{IsRising, without_lease}
use Rattle.scfs_lease.proofs.Rising.{rising_without}
use Rattle.scfs_lease.proofs.leases.Leases.given_back.Goals as goal

left : (c : goal.After-retain) → c.retain.new.self.items ≡ without_lease c.args.session c.self.inside.held.items
left c = filter_same _ (λ (l : Lease). not (eqb l.session c.args.session)) _ (λ x b f' k. search rules) _ _ c.retain.ensures.filtered

pub invariant_of-self : goal.invariant_of-self
invariant_of-self c = subst IsRising (sym (left c)) (rising_without c.args.session c.self.inside.held.items c.self.invariant)

pub returns : goal.returns
returns c = left c ∙ ap (without_lease c.args.session) c.self.view_is

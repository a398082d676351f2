use Rattle.std.proofs.Common.{◌≡◌, subst}
use Rattle.scfs_tuples.specs.Filed.{IsEnded, live_entries}
use Rattle.scfs_tuples.proofs.EndedLemmas.{is_ended, later_ends, no_end, none_ended, untrue}
use Rattle.scfs_tuples.proofs.slots.Slots.ended.Goals as goal

pub returns-then-until-now : goal.returns-then-until-now
returns-then-until-now c =
    subst (IsEnded c.args.now c.in-Some.field-0.now.1) c.self.view_is
    (is_ended c.args.now c.in-Some.field-0.now.0 c.in-Some.field-0.now.1 c.self.inside.shelves.by_end _ c.self.invariant.apart c.self.invariant.ends
    c.in-Some.ensures.member c.if-until-now.true)

pub returns-else-until-now : goal.returns-else-until-now
returns-else-until-now c =
    subst (λ es. live_entries c.args.now es ≡ es) c.self.view_is
    (none_ended c.args.now c.self.inside.shelves.by_end _ c.self.invariant.apart c.self.invariant.ends
    (λ u s h. later_ends c.args.now c.in-Some.field-0.now.0 c.in-Some.field-0.now.1 u s c.if-until-now.false (c.in-Some.ensures.least (u, s) h)))

pub returns-in-None : goal.returns-in-None
returns-in-None c =
    subst (λ es. live_entries c.args.now es ≡ es) c.self.view_is
    (no_end c.args.now c.self.inside.shelves.by_end _ c.self.invariant.apart c.self.invariant.ends (λ h. untrue (c.in-None.ensures.variant.1 h)))

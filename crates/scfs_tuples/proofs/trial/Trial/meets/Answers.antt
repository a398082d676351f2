use Rattle.std.proofs.Common.{◌∙◌, ap, refl}
use Rattle.scfs_tuples.specs.Trial.{match_of}
use Rattle.scfs_tuples.proofs.TrialLemmas.{need_met, need_missed, none_met, none_missed, rest_met, take_met, take_missed, with_cond}
use Rattle.scfs_tuples.proofs.trial.Trial.meets.Goals as goal

pub returns-in-Some-clause-tests : goal.returns-in-Some-clause-tests
returns-in-Some-clause-tests g c =
    with_cond c.args.cond.now _ c.args.slots.now c.args.self.now _ _ c.in-Need.is
    (need_met c.in-Need.p c.args.slots.now c.args.self.now c.in-Some.met (c.in_ok-met-in-Need.ensures.first ∙ ap match_of c.in-Some.is))

pub returns-in-None-clause-tests : goal.returns-in-None-clause-tests
returns-in-None-clause-tests g c =
    with_cond c.args.cond.now _ c.args.slots.now c.args.self.now _ _ c.in-Need.is
    (need_missed c.in-Need.p c.args.slots.now c.args.self.now (c.in_ok-met-in-Need.ensures.first ∙ ap match_of c.in-None.is))

pub returns-in-Some-2-clause-tests : goal.returns-in-Some-2-clause-tests
returns-in-Some-2-clause-tests g c =
    with_cond c.args.cond.now _ c.args.slots.now c.args.self.now _ _ c.in-NoneOf.is
    (none_met c.in-NoneOf.p c.args.slots.now c.args.self.now c.in-Some-2.met (c.in_ok-met-in-NoneOf.ensures.first ∙ ap match_of c.in-Some-2.is))

pub returns-in-None-2-clause-tests : goal.returns-in-None-2-clause-tests
returns-in-None-2-clause-tests g c =
    with_cond c.args.cond.now _ c.args.slots.now c.args.self.now _ _ c.in-NoneOf.is
    (none_missed c.in-NoneOf.p c.args.slots.now c.args.self.now (c.in_ok-met-in-NoneOf.ensures.first ∙ ap match_of c.in-None-2.is))

pub returns-in-None-3-clause-tests : goal.returns-in-None-3-clause-tests
returns-in-None-3-clause-tests g c =
    with_cond c.args.cond.now _ c.args.slots.now c.args.self.now _ _ c.in-Take.is
    (take_missed c.in-Take.p c.args.slots.now c.args.self.now (c.in_ok-met-in-Take.ensures.first ∙ ap match_of c.in-None-3.is))

pub returns-in_ok-take-in-Some-3-clause-tests : goal.returns-in_ok-take-in-Some-3-clause-tests
returns-in_ok-take-in-Some-3-clause-tests g c =
    with_cond c.args.cond.now _ c.args.slots.now c.args.self.now _ _ c.in-Take.is
    (take_met c.in-Take.p c.args.slots.now c.args.self.now _ c.in-Some-3.met (c.in_ok-met-in-Take.ensures.first ∙ ap match_of c.in-Some-3.is)
    (rest_met c.in_ok-met-in-Take.field-0 c.in-Some-3.met c.in-Take.p c.args.self.now c.args.slots.now c.in-Some-3.is c.in_ok-met-in-Take.ensures.rest)
    (c.in_ok-take-in-Some-3.ensures.gone c.args.slots.now) refl (ap (λ t. t.taken) c.in_ok-take-in-Some-3.ensures.others))

use Rattle.std.proofs.Common.{◌≡◌, map}
use Rattle.scfs_anchor.specs.Plans.{Condition, reach, file, before_last}
use Rattle.scfs_anchor.specs.Shapes.{version}
use Rattle.scfs_tuples.specs.declared.types.Want.TheVariants.{Any, Bind}
use Rattle.std.proofs.Common.{◌∷◌, []}
use Rattle.scfs_anchor.proofs.StepLemmas.{same_step}
use Rattle.std.proofs.Common.{subst, sym}
use Rattle.scfs_tuples.specs.Steps.{IsStep}
use Rattle.scfs_tuples.specs.declared.types.Step.{Step}
use Rattle.scfs_anchor.proofs.StepRules.{versions_is_step}
use Rattle.scfs_anchor.proofs.steps.versions.Goals as goal

pub returns-clause-step : goal.returns-clause-step
returns-clause-step c =
    let names = c.args.path.now in
    let conds : c.conds.inside.items.items ≡ map (λ (x : Condition). x.cond) (reach file 0 names) = cc (c.conds.view_is, c.in_ok-conds.ensures.conds, c.names.ensures.names) in
    let all : c.in_ok-alone.field-0 ≡ version (Bind (before_last names)) Any ∷ [] = cc (c.in_ok-alone.ensures, c.in_ok-rows.ensures, c.in_ok-conds.ensures.id, c.names.ensures.names) in
    same_step _ _ _ _ _ _ conds all c.new.ensures

pub returns-clause-allowed : goal.returns-clause-allowed
returns-clause-allowed c = subst (λ (s : Step). IsStep s) (sym (returns-clause-step c)) (versions_is_step c.args.path.now c.requires)

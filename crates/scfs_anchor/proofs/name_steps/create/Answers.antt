use Rattle.std.proofs.Common.{◌≡◌, [], ◌∷◌, map, sym, subst}
use Rattle.scfs_tuples.specs.declared.types.Step.{Step}
use Rattle.scfs_tuples.specs.Steps.{IsStep}
use Rattle.scfs_anchor.specs.Plans.{Condition, reach}
use Rattle.scfs_anchor.proofs.StepLemmas.{same_step}
use Rattle.scfs_anchor.specs.StepPlans.{free, new_file}
use Rattle.scfs_anchor.proofs.NameStepLemmas.{conds_split, create_is_step}
use Rattle.scfs_anchor.proofs.name_steps.create.Goals as goal

pub returns-clause-step : goal.returns-clause-step
returns-clause-step c =
    let names = c.args.path.now in
    let split = conds_split free names c.requires in
    let conds : c.conds-2.inside.items.items ≡ map (λ (x : Condition). x.cond) (reach free 0 names) = cc (split, c.conds-2.view_is, c.in_ok-push.ensures.ok, c.in_ok-free.ensures, c.in_ok-conds.ensures.conds, c.in_ok-conds.ensures.at, c.in_ok-conds.ensures.name, c.names.ensures.names) in
    let puts : c.from_vec.result ≡ new_file names c.args.id ∷ [] = cc (c.from_vec.ensures, c.in_ok-vec.ensures.items, c.in_ok-file.ensures, c.in_ok-conds.ensures.at, c.in_ok-conds.ensures.name, c.names.ensures.names) in
    same_step _ _ _ _ _ _ conds c.new.ensures puts

pub returns-clause-allowed : goal.returns-clause-allowed
returns-clause-allowed c = subst (λ (s : Step). IsStep s) (sym (returns-clause-step c)) (create_is_step c.args.path.now c.args.id c.requires)

use Rattle.std.proofs.Common.{◌≡◌, ◌++◌, ◌∷◌, [], map, None}
use Rattle.scfs_tuples.specs.declared.types.Want.TheVariants.{Any, Bind}
use Rattle.scfs_anchor.specs.Shapes.{lock, new_lock}
use Rattle.scfs_tuples.specs.declared.types.Give.TheVariants.{Var}
use Rattle.scfs_anchor.specs.Plans.{Condition, reach, file, unlocked, before_last, sight}
use Rattle.scfs_anchor.proofs.StepLemmas.{conds_append, same_step}
use Rattle.std.proofs.Common.{subst, sym}
use Rattle.scfs_tuples.specs.Steps.{IsStep}
use Rattle.scfs_tuples.specs.declared.types.Step.{Step}
use Rattle.scfs_anchor.proofs.StepRules.{open_write_is_step}
use Rattle.scfs_anchor.proofs.steps.open_write.Goals as goal

pub returns-clause-step : goal.returns-clause-step
returns-clause-step c =
    let names = c.args.path.now in
    let on = reach file 0 names in
    let free = unlocked (lock (Bind (before_last names)) Any Any Any) ∷ [] in
    let joined = conds_append on free in
    let conds : c.conds-2.inside.items.items ≡ map (λ (x : Condition). x.cond) (on ++ free) = cc (joined, c.conds-2.view_is, c.in_ok-push.ensures.ok, c.in_ok-any_lock.ensures, c.in_ok-conds.ensures.conds, c.in_ok-conds.ensures.id, c.names.ensures.names) in
    let all : c.in_ok-sight.field-0 ≡ sight (before_last names) None = cc (c.in_ok-sight.ensures, c.in_ok-conds.ensures.id, c.names.ensures.names) in
    let puts : c.in_ok-alone.field-0 ≡ new_lock (Var (before_last names)) c.args.agent c.args.incarnation c.args.session c.args.lease ∷ [] = cc (c.in_ok-alone.ensures, c.in_ok-taken.ensures, c.in_ok-conds.ensures.id, c.names.ensures.names) in
    same_step _ _ _ _ _ _ conds all puts

pub returns-clause-allowed : goal.returns-clause-allowed
returns-clause-allowed c =
    λ short. subst (λ (s : Step). IsStep s) (sym (returns-clause-step c)) (open_write_is_step c.args.path.now c.args.agent c.args.incarnation c.args.session c.args.lease c.requires short)

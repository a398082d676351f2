use Rattle.std.proofs.Common.{◌≡◌, ◌++◌, map}
use Rattle.scfs_anchor.specs.Plans.{Condition, reach, file, wanted_version, before_last, sight}
use Rattle.scfs_anchor.proofs.StepLemmas.{conds_append, same_step}
use Rattle.std.proofs.Common.{subst, sym}
use Rattle.scfs_tuples.specs.Steps.{IsStep}
use Rattle.scfs_tuples.specs.declared.types.Step.{Step}
use Rattle.scfs_anchor.proofs.StepRules.{open_read_is_step}
use Rattle.scfs_anchor.proofs.steps.open_read.Goals as goal

pub returns-clause-step : goal.returns-clause-step
returns-clause-step c =
    let names = c.args.path.now in
    let on = reach file 0 names in
    let wanted = wanted_version (before_last names) c.args.version in
    let joined = conds_append on wanted in
    let conds : c.conds.inside.items.items ≡ map (λ (x : Condition). x.cond) (on ++ wanted) = cc (joined, c.conds.view_is, c.in_ok-ask_version.ensures, c.in_ok-conds.ensures.conds, c.in_ok-conds.ensures.id, c.names.ensures.names) in
    let all : c.in_ok-sight.field-0 ≡ sight (before_last names) c.args.version = cc (c.in_ok-sight.ensures, c.in_ok-conds.ensures.id, c.names.ensures.names) in
    same_step _ _ _ _ _ _ conds all c.new.ensures

pub returns-clause-allowed : goal.returns-clause-allowed
returns-clause-allowed c = subst (λ (s : Step). IsStep s) (sym (returns-clause-step c)) (open_read_is_step c.args.path.now c.args.version c.requires)

use Rattle.std.proofs.Common.{◌≡◌, [], ◌∷◌, ◌∙◌, arith}
use Rattle.std.proofs.lemmas.Grind.{common_steps}
use Rattle.scfs_anchor.proofs.StepLemmas.{last_reached}
use Rattle.scfs_anchor.proofs.conditions.reach_file.Goals as goal

pub returns-then-is_empty-clause-conds : goal.returns-then-is_empty-clause-conds
returns-then-is_empty-clause-conds c =
    let parts : c.names.rest.now ≡ c.in-Some.name.now ∷ c.in-Some.others.now = grind (arith, common_steps) in
    let none : c.in-Some.others.now ≡ [] = grind (arith, common_steps) in
    c.in_ok-ask_file.ensures
    ∙ last_reached c.names.conds c.names.at c.names.rest.now c.in-Some.others.now c.in-Some.name.now c.as_slice.result.now _ parts none c.as_slice.ensures c.names.invariant.conds

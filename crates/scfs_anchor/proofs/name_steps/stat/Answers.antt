use Rattle.std.proofs.Common.{◌≡◌, ℕ, List, map, sym, ap, ◌∙◌}
use Rattle.scfs_anchor.specs.Plans.{Condition, reach}
use Rattle.scfs_anchor.specs.StepPlans.{there}
use Rattle.scfs_anchor.proofs.NameStepLemmas.{stat_follows}
use Rattle.scfs_anchor.proofs.name_steps.stat.Goals as goal
use Rattle.scfs_anchor.proofs.name_steps.stat.Goals.{then-is_root, else-is_root+in_ok-conds}

pub returns-clause-allowed : goal.returns-clause-allowed
returns-clause-allowed c =
    let of : List (List ℕ) → _ = λ (names : List (List ℕ)). map (λ (x : Condition). x.cond) (reach there 0 names) in
    let conds : c.if-is_root.conds ≡ of c.args.path.now = elim c.if-is_root.branch [
      | then-is_root w ↦ w.conds-is ∙ w.new-conds.ensures ∙ sym (ap of (c.is_root.ensures.0 w.if-is_root.true))
      | else-is_root+in_ok-conds w ↦ w.conds-is ∙ w.in_ok-conds.ensures ∙ ap of w.names.ensures.names
    ] in
    stat_follows c.args.path.now c.if-is_root.conds c.new-2.result conds c.new-2.ensures

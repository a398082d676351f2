use Rattle.std.proofs.Common.{List, ◌∷◌, [], ◌++◌, ap, sym, ◌∙◌}
use Rattle.scfs_policy.specs.declared.rank.RankFacts.{RankFacts}
use Rattle.scfs_agent.proofs.CloudLists.{record_of, new_tallies_more}
use Rattle.scfs_agent.proofs.agent.no_tallies.Goals as goal

pub loop-cloud-preserved : goal.loop-cloud-preserved
loop-cloud-preserved c =
    c.in_ok-push.ensures.ok ∙ ap (λ (xs : List RankFacts). xs ++ record_of c.loop-cloud.cloud ∷ []) c.loop-cloud.invariant
    ∙ sym (new_tallies_more c.loop-cloud.cloud)

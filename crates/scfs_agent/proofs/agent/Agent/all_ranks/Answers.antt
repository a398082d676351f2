use Rattle.std.proofs.Common.{◌≡◌, ℕ, ◌+◌, ◌*◌, List, [], length, ap, ◌∙◌, subst, arith}
use Rattle.std.proofs.lemmas.List.{length-map}
use Rattle.scfs_policy.specs.declared.rank.RankFacts.{RankFacts}
use Rattle.scfs_model.specs.Runs.{Answers}
use Rattle.scfs_agent.specs.State.{AgentState}
use Rattle.std.proofs.lemmas.Grind.{common_steps}
use Rattle.scfs_agent.proofs.CloudLists.{length-below}
use Rattle.scfs_agent.proofs.RankLemmas.{answers_end}
use Rattle.scfs_agent.proofs.agent.Agent.all_ranks.Goals as goal

pub returns-clause-answers : goal.returns-clause-answers
returns-clause-answers g c =
    let none : c.each.rest.now ≡ [] = grind (arith, common_steps) in
    let same : c.as_slice-rest.result.now ≡ c.args.self.now.agent.tallies =
    c.as_slice-rest.ensures ∙ ap (λ (a : AgentState). a.agent.tallies) c.self.view_is in
    subst (λ (facts : List RankFacts). Answers (λ x rank. g.R.Fn.post c.args.rank.now (x, tt) rank) facts c.each.ranks) same
    (answers_end (λ x rank. g.R.Fn.post c.args.rank.now (x, tt) rank) c.as_slice-rest.result.now c.each.rest.now c.each.ranks none
    c.each.invariant.answers)

pub returns-clause-count : goal.returns-clause-count
returns-clause-count g c =
    let none : length c.each.rest.now ≡ 0 = grind (arith, common_steps) in
    let clouds = ap (λ (xs : List ℕ). length xs) c.self.invariant.tallied.clouds in
    let f : c.self.inside.header.f ≡ c.args.self.now.header.f = ap (λ (a : AgentState). a.header.f) c.self.view_is in
    omega (
      arith,
      none,
      c.each.invariant.count,
      ap length c.as_slice-rest.ensures,
      length-map c.self.inside.tallies (λ (x : RankFacts). x.cloud),
      clouds,
      length-below (3 * c.self.inside.header.f + 1),
      f,
    )

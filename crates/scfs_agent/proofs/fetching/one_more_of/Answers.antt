use Rattle.std.proofs.Common.{◌≡◌, ◌<◌, ◌∷◌, subst, arith}
use Rattle.std.specs.List.{All}
use Rattle.std.proofs.lemmas.Grind.{common_steps}
use Rattle.std.proofs.lemmas.List.Elements.{All-tail}
use Rattle.scfs_policy.specs.declared.rank.RankFacts.{RankFacts}
use Rattle.scfs_agent.proofs.fetching.one_more_of.Goals as goal

pub each-preserved : goal.each-preserved
each-preserved c =
    let parts : c.each.rest.now ≡ c.in-Some.facts.now ∷ c.in-Some.others.now = grind (arith, common_steps) in
    let Short : RankFacts → Type 0 = λ x. (x.good < 4294967295) × (x.bad < 4294967295) in
    record {
      counted = grind (arith, common_steps);
      room = All-tail Short c.in-Some.facts.now c.in-Some.others.now (subst (All Short) parts c.each.invariant.room);
    }

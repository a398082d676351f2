use Rattle.std.proofs.Common.{List, map, sym, subst}
use Rattle.scfs_policy.specs.declared.rank.RankFacts.{RankFacts}
use Rattle.scfs_model.specs.Opens.{one_more}
use Rattle.scfs_agent.specs.State.{AgentState}
use Rattle.scfs_agent.specs.Keeping.{AreTallies, HaveRoom}
use Rattle.scfs_agent.proofs.KeptLemmas.{kept_tallies, tallies_more}
use Rattle.scfs_agent.proofs.agent.Agent.tally.Goals as goal

pub invariant_of-self : goal.invariant_of-self
invariant_of-self c =
    let inside = c.self.inside in
    let room : HaveRoom inside.inputs inside.tallies =
    subst (λ (a : AgentState). HaveRoom a.inputs a.agent.tallies) (sym c.self.view_is) c.requires in
    kept_tallies c.self.invariant c.in_ok-self-inside.field-0
    (subst (AreTallies inside.header.f inside.inputs) (sym c.in_ok-self-inside.ensures)
    (subst (λ (ts : List RankFacts). AreTallies inside.header.f inside.inputs (map (one_more c.args.cloud c.args.is_good) ts))
    (sym c.as_slice.ensures)
    (tallies_more inside.header.f inside.inputs c.args.cloud c.args.is_good inside.tallies c.self.invariant.tallied room)))

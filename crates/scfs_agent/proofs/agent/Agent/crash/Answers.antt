use Rattle.scfs_agent.proofs.KeptLemmas.{kept_none}
use Rattle.scfs_agent.proofs.agent.Agent.crash.Goals as goal

pub invariant_of-self-2 : goal.invariant_of-self-2
invariant_of-self-2 c =
    let kept = c.self.invariant in
    kept_none _ _ _ _ _ _ _ _ _ _ _ _ _ kept.is_header kept.member kept.counted kept.started kept.drawn kept.opened kept.made kept.begun tt
    c.in_ok-self-inside.ensures c.in_ok-self-inside-2.ensures c.in_ok-self-inside-3.ensures c.new-3.ensures

use Rattle.std.proofs.Common.{arith, subst}
use Rattle.scfs_agent.specs.Asking.{MayAsk}
use Rattle.scfs_agent.specs.State.{AgentState}
use Rattle.scfs_agent.proofs.KeptLemmas.{closes_in}
use Rattle.scfs_agent.proofs.agent.Agent.may_ask.Goals as goal

pub returns : goal.returns
returns c =
    let kept = c.self.invariant in
    subst (λ (a : AgentState). MayAsk a.no a.agent) c.self.view_is
    (record {
      number = omega (arith, kept.member, kept.is_header.agents.1);
      incarnation = omega (arith, kept.started, kept.counted);
      opens = omega (arith, kept.opened, kept.counted);
      files = omega (arith, kept.made, kept.counted);
      closes = closes_in _ _ _ _ _ kept.working;
    })

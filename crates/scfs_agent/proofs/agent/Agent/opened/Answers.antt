use Rattle.std.proofs.Common.{sym, ap, ◌∙◌, subst}
use Rattle.scfs_agent.specs.State.{AgentState}
use Rattle.scfs_agent.specs.Keeping.{HaveBases, calls_in}
use Rattle.scfs_agent.proofs.KeptLemmas.{kept_idle, opened_bases}
use Rattle.scfs_agent.proofs.agent.Agent.opened.Goals as goal

pub invariant_of-self-2 : goal.invariant_of-self-2
invariant_of-self-2 c =
    kept_idle c.self.invariant _
    (subst HaveBases (sym c.in_ok-add.ensures)
    (opened_bases c.replace-sessions.result c.args.session _ (subst HaveBases (sym c.replace-sessions.ensures.value) c.self.invariant.bases)
    c.requires.base))
    (ap (λ (a : AgentState). calls_in a.agent.pending) c.self.view_is ∙ c.requires.free.calls)

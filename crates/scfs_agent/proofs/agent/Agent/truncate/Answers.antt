use Rattle.std.proofs.Common.{sym, subst}
use Rattle.scfs_session.specs.Contents.{resized}
use Rattle.scfs_agent.specs.Keeping.{HaveBases}
use Rattle.scfs_agent.proofs.KeptLemmas.{kept_sessions, changed_bases}
use Rattle.scfs_agent.proofs.agent.Agent.truncate.Goals as goal

pub invariant_of-self-in-Ok : goal.invariant_of-self-in-Ok
invariant_of-self-in-Ok c =
    kept_sessions c.self.invariant _
    (subst HaveBases (sym c.in_ok-answer.ensures.after)
    (changed_bases c.replace-sessions.result c.args.session c.args.size (λ contents. resized contents c.args.size)
    (subst HaveBases (sym c.replace-sessions.ensures.value) c.self.invariant.bases)))

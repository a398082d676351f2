use Rattle.std.proofs.Common.{◌+◌, length, sym, subst}
use Rattle.scfs_session.specs.Contents.{written}
use Rattle.scfs_agent.specs.Keeping.{HaveBases}
use Rattle.scfs_agent.proofs.KeptLemmas.{kept_sessions, changed_bases}
use Rattle.scfs_agent.proofs.agent.Agent.write.Goals as goal

pub invariant_of-self-in-Ok : goal.invariant_of-self-in-Ok
invariant_of-self-in-Ok c =
    kept_sessions c.self.invariant _
    (subst HaveBases (sym c.in_ok-answer.ensures.after)
    (changed_bases c.replace-sessions.result c.args.session (c.args.offset + length c.args.bytes.now)
    (λ contents. written contents c.args.offset c.args.bytes.now)
    (subst HaveBases (sym c.replace-sessions.ensures.value) c.self.invariant.bases)))

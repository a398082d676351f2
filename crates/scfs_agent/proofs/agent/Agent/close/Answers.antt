use Rattle.std.proofs.Common.{sym, subst}
use Rattle.scfs_agent.specs.Keeping.{HaveBases}
use Rattle.scfs_agent.specs.Views.{left_session}
use Rattle.scfs_agent.proofs.KeptLemmas.{kept_sessions, ended_bases, left_base}
use Rattle.scfs_agent.proofs.CallLemmas.{close_none_after}
use Rattle.scfs_agent.proofs.ToldLemmas.{on_ok_so}
use Rattle.scfs_agent.proofs.agent.Agent.close.Goals as goal

pub invariant_of-self : goal.invariant_of-self
invariant_of-self c =
    kept_sessions c.self.invariant _
    (subst HaveBases (sym c.take.ensures.after) (ended_bases c.self.inside.sessions c.args.session c.self.invariant.bases))

pub invariant_of-self-then-left : goal.invariant_of-self-then-left
invariant_of-self-then-left c =
    kept_sessions c.self.invariant _
    (subst HaveBases (sym c.take.ensures.after) (ended_bases c.self.inside.sessions c.args.session c.self.invariant.bases))

pub invariant_of-self-else-left : goal.invariant_of-self-else-left
invariant_of-self-else-left c =
    kept_sessions c.self.invariant _
    (subst HaveBases (sym c.take.ensures.after) (ended_bases c.self.inside.sessions c.args.session c.self.invariant.bases))

pub begin-requires-clause-base : goal.begin-requires-clause-base
begin-requires-clause-base c =
    left_base c.self.inside.sessions c.args.session (left_session c.in-Ok.left) c.self.invariant.bases c.in-Ok.ensures.answer

pub returns-in-Err-clause-after : goal.returns-in-Err-clause-after
returns-in-Err-clause-after c =
    on_ok_so c.refuse.result
    (close_none_after c.args.self.now _ c.self.view_is c.args.session c.requires.idle.free.closed _ c.take.ensures.after c.in-Err.why
    c.in-Err.ensures.answer.0
    c.in-Err.ensures.answer.1)

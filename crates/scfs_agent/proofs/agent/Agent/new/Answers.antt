use Rattle.std.proofs.Common.{◌<◌, ◌∙◌, length, arith, ap, sym, subst}
use Rattle.scfs_schedule.specs.Grammar.{IsHeader}
use Rattle.scfs_schedule.specs.declared.types.Header.{Header}
use Rattle.scfs_model.specs.Agents.{no_tallies}
use Rattle.scfs_model.specs.UnitFormat.{under}
use Rattle.scfs_agent.specs.declared.work.Work.TheVariants as works
use Rattle.scfs_agent.proofs.KeptLemmas.{kept_none}
use Rattle.scfs_agent.proofs.agent.Agent.new.Goals as goal

pub invariant_of-result : goal.invariant_of-result
invariant_of-result c =
    let same = sym c.in_ok-copy.ensures in
    kept_none _ c.args.no 0 0 0 0 0 0 works.Idle _ _ _ _ (subst IsHeader same c.requires.header)
    (subst (λ (h : Header). c.args.no < length h.agents) same c.requires.no)
    (omega arith) (omega arith) (omega arith) (omega arith) (omega arith) (omega arith) tt c.in_ok-new.ensures c.in_ok-new-2.ensures
    (c.in_ok-no_tallies.ensures ∙ ap (λ (h : Header). no_tallies (under h)) same) c.new-3.ensures

use Rattle.std.proofs.Common.{Bool, List, [], ◌∷◌, ap, ◌∙◌}
use Rattle.scfs_tuples.specs.declared.types.Field.{Field}
use Rattle.scfs_schedule.specs.declared.types.Line.{Line}
use Rattle.scfs_agent.specs.State.{AgentState}
use Rattle.scfs_agent.specs.Telling.{stat_line}
use Rattle.scfs_agent.specs.declared.types.Output.TheVariants as outputs
use Rattle.scfs_agent.proofs.ToldLemmas.{look_done, is_root, root_is}
use Rattle.scfs_agent.proofs.HandingLemmas.{gives_by}
use Rattle.scfs_agent.proofs.agent.Agent.told_look.Goals as goal

pub returns-in-Did-clause-gives : goal.returns-in-Did-clause-gives
returns-in-Did-clause-gives c = λ r is fits.
    let old = c.args.self.now in
    let bound = c.in-Did.bound in
    gives_by c.alone.result _ _
    (ap (λ (line : Line). outputs.Line line ∷ [])
    (c.stat_line-line.ensures ∙ ap (λ (xs : List Field). stat_line c.self.inside.no c.is_root.result xs) c.as_slice.ensures
    ∙ ap (λ (b : Bool). stat_line c.self.inside.no b bound) (root_is c.args.path.now c.is_root.result c.is_root.ensures)
    ∙ ap (λ (a : AgentState). stat_line a.no (is_root c.args.path.now) bound) c.self.view_is
    ∙ look_done old.no c.args.path.now r c.args.reply.now bound _ _ is fits c.in-Did.is)) c.alone.ensures

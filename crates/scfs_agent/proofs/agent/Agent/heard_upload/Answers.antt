use Rattle.std.proofs.Common.{◌≡◌, Some, true, ap}
use Rattle.std.specs.Prelude.{◌&&◌}
use Rattle.std.proofs.Common.{arith}
use Rattle.std.proofs.lemmas.Grind.{common_steps}
use Rattle.scfs_model.specs.Asked.{is_answer_to}
use Rattle.scfs_model.specs.Layers.{Row}
use Rattle.scfs_model.specs.Storing.{is_ack}
use Rattle.scfs_model.specs.Agents.{For_close, Reaction}
use Rattle.scfs_agent.specs.Views.{asked_of}
use Rattle.scfs_agent.specs.Outputs.{outputs_of}
use Rattle.scfs_agent.proofs.AckLemmas.{upload_more, acked_as}
use Rattle.scfs_agent.proofs.HandingLemmas.{gives_by, after_by}
use Rattle.scfs_agent.proofs.agent.Agent.heard_upload.Goals as goal

pub stores-requires-clause-upload : goal.stores-requires-clause-upload
stores-requires-clause-upload c =
    upload_more _ _ _ _ c.args.upload c.acked-progress.new.self c.args.cloud c.requires.upload c.requires.cloud c.acked-progress.ensures.after

pub returns-clause-gives : goal.returns-clause-gives
returns-clause-gives c =
    let old = c.args.self.now in
    let mine : (is_ack c.args.answer.now && is_answer_to (asked_of c.args.upload.puts) c.args.cloud c.args.request) ≡ true =
    grind (arith, common_steps) in
    gives_by c.stores.result _ _
    (ap (λ (r : Reaction Row). outputs_of old r) (acked_as old (record old.agent {
      waiting =
          Some For_close;
    }) c.args.upload old.inputs c.requires.upload
    c.args.cloud c.requires.cloud c.args.request c.args.answer.now mine c.acked-progress.new.self c.acked-progress.result
    c.acked-progress.ensures.after
    c.acked-progress.ensures.answer)) c.stores.ensures.gives

pub returns-clause-after : goal.returns-clause-after
returns-clause-after c =
    let old = c.args.self.now in
    let mine : (is_ack c.args.answer.now && is_answer_to (asked_of c.args.upload.puts) c.args.cloud c.args.request) ≡ true =
    grind (arith, common_steps) in
    after_by c.stores.result _ _ _ (ap (λ (r : Reaction Row). record old {
      agent =
          r.agent;
    }) (acked_as old (record old.agent { waiting = Some For_close }) c.args.upload old.inputs
    c.requires.upload c.args.cloud c.requires.cloud c.args.request c.args.answer.now mine c.acked-progress.new.self c.acked-progress.result
    c.acked-progress.ensures.after c.acked-progress.ensures.answer)) c.stores.ensures.after

use Rattle.std.proofs.Common.{List, sym, ap, ◌∙◌, subst}
use Rattle.scfs_agent.specs.State.{AgentState}
use Rattle.scfs_agent.specs.Views.{asked_of}
use Rattle.scfs_agent.specs.Keeping.{IsUpload}
use Rattle.scfs_agent.specs.Outputs.{put_body, sent_outputs, sent_to}
use Rattle.scfs_agent.specs.declared.work.Asked.{Asked}
use Rattle.scfs_agent.specs.declared.work.Upload.{Upload}
use Rattle.scfs_agent.proofs.AckLemmas.{upload_on}
use Rattle.scfs_agent.proofs.AskingLemmas.{fits}
use Rattle.scfs_agent.proofs.agent.Agent.ask_puts.Goals as goal

pub goes_on-requires-clause-upload : goal.goes_on-requires-clause-upload
goes_on-requires-clause-upload c =
    let after : Upload = record c.args.upload { puts = c.append.new.all } in
    subst (λ (a : AgentState). IsUpload a.no a.agent.incarnation a.header.f a.inputs after) (sym c.self.view_is)
    (upload_on _ _ _ _ c.append.new.all c.args.upload c.requires.upload)

pub returns-clause-asks : goal.returns-clause-asks
returns-clause-asks c =
    let u = c.args.upload in
    fits c.args.self.now _ c.self.view_is c.args.clouds.now c.in_ok-puts.puts c.in_ok-puts.ensures.numbers (put_body u.row.upload u.unit)
    c.in_ok-given.given
    (c.in_ok-given.ensures
    ∙ ap (λ (xs : List Asked). sent_outputs (sent_to (put_body u.row.upload u.unit) (asked_of xs))) c.as_slice.ensures) c.requires.clouds

use Rattle.std.proofs.Common.{◌≡◌, List, ◌++◌, length, sym, ap, ◌∙◌, subst, arith}
use Rattle.scfs_schedule.specs.declared.types.Header.{Header}
use Rattle.scfs_agent.specs.State.{AgentState}
use Rattle.scfs_agent.specs.Views.{asked_of}
use Rattle.scfs_agent.specs.Keeping.{IsFetch, calls_in}
use Rattle.scfs_agent.specs.Outputs.{get_body, sent_outputs, sent_to}
use Rattle.scfs_agent.specs.declared.work.Asked.{Asked}
use Rattle.scfs_agent.proofs.ReadingLemmas.{gets_asked}
use Rattle.scfs_agent.proofs.KeptLemmas.{kept_work}
use Rattle.scfs_agent.proofs.AskingLemmas.{fits}
use Rattle.scfs_agent.proofs.agent.Agent.ask_gets.Goals as goal

pub invariant_of-self : goal.invariant_of-self
invariant_of-self c =
    let inside = c.self.inside in
    let requests : inside.requests ≡ c.args.self.now.agent.requests = ap (λ (a : AgentState). a.agent.requests) c.self.view_is in
    let inputs : inside.inputs ≡ c.args.self.now.inputs = ap (λ (a : AgentState). a.inputs) c.self.view_is in
    let count : c.len.result ≡ length c.args.clouds.now = c.len.ensures ∙ c.in_ok-gets.ensures.count in
    let joined = c.in_ok-append.ensures ∙ ap (λ (xs : List Asked). c.args.fetch.gets ++ xs) c.as_slice-2.ensures in
    kept_work c.self.invariant _ _ (omega (arith, count, requests, inputs, c.requires.few, c.requires.room))
    (subst (λ (h : Header). IsFetch h.f (record c.args.fetch { gets = c.append.new.all })) (sym (ap (λ (a : AgentState). a.header) c.self.view_is))
    (gets_asked c.args.self.now.header.f c.args.fetch c.args.clouds.now c.requires.fetch c.append.new.all c.in_ok-gets.gets
    inside.no inside.incarnation inside.requests joined c.in_ok-gets.ensures.numbers))
    (ap (λ (a : AgentState). calls_in a.agent.pending) c.self.view_is ∙ c.requires.free.calls)

pub returns-clause-asks : goal.returns-clause-asks
returns-clause-asks c =
    let row = c.args.fetch.row in
    fits c.args.self.now _ c.self.view_is c.args.clouds.now c.in_ok-gets.gets c.in_ok-gets.ensures.numbers
    (get_body c.self.inside.header.f row.upload row.length)
    c.in_ok-given.given (c.in_ok-given.ensures
    ∙ ap (λ (xs : List Asked). sent_outputs (sent_to (get_body c.self.inside.header.f row.upload row.length) (asked_of xs))) c.as_slice.ensures)
    c.requires.clouds

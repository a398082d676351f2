use Rattle.std.proofs.Common.{◌≡◌, ◌+◌, ◌*◌, ◌∙◌, List, Option, IfOk, OnOk, true, length, ap, sym, subst, refl}
use Rattle.scfs_model.specs.Layers.{Row}
use Rattle.scfs_model.specs.Agents.{Request}
use Rattle.scfs_agent.specs.State.{AgentState, given_now}
use Rattle.scfs_agent.specs.Views.{life_of, closed_in}
use Rattle.scfs_agent.specs.Keeping.{FitsAsking}
use Rattle.scfs_agent.specs.Telling.{FitsReply, pending_step, reads_version}
use Rattle.scfs_agent.specs.declared.types.Output.{Output}
use Rattle.scfs_agent.specs.declared.work.Pending.{Pending}
use Rattle.scfs_agent.proofs.KeptLemmas.{kept_told}
use Rattle.scfs_agent.proofs.PendingLemmas.{All-get, fewer_calls, step_then, found_there, told_then, untold_did}
use Rattle.scfs_agent.proofs.agent.Agent.told.Goals as goal

pub returns-then-at-len-clause-gives : goal.returns-then-at-len-clause-gives
returns-then-at-len-clause-gives c = λ o is.
    c.new.ensures ∙ ap (λ (p : List Output × AgentState). p.0)
    (untold_did c.args.request c.self.inside.pending c.as_slice.result.now c.place_of-at.result c.as_slice.ensures c.place_of-at.ensures.place
    c.args.self.now _
    c.self.view_is refl (given_now c.args.now c.args.ranks.now) o (c.if-at-len.true ∙ c.len.ensures))

pub returns-then-at-len-clause-after : goal.returns-then-at-len-clause-after
returns-then-at-len-clause-after c = λ o is.
    ap (λ (p : List Output × AgentState). p.1)
    (untold_did c.args.request c.self.inside.pending c.as_slice.result.now c.place_of-at.result c.as_slice.ensures c.place_of-at.ensures.place
    c.args.self.now _
    c.self.view_is refl (given_now c.args.now c.args.ranks.now) o (c.if-at-len.true ∙ c.len.ensures))

pub invariant_of-self : goal.invariant_of-self
invariant_of-self c =
    kept_told c.self.invariant _ _ c.remove-asking.ensures.rest
    (fewer_calls c.args.request c.self.inside.pending c.as_slice.result.now c.place_of-at.result c.as_slice.ensures c.place_of-at.ensures.place
    c.remove-asking.result
    c.remove-asking.ensures.item c.remove-asking.new.self c.remove-asking.ensures.rest
    c.self.inside.work c.self.invariant.waits)

pub told_step-requires-clause-asking : goal.told_step-requires-clause-asking
told_step-requires-clause-asking c =
    All-get (λ (x : Pending). FitsAsking x.asking) c.self.inside.pending c.place_of-at.result c.remove-asking.result c.self.invariant.fitting
    c.remove-asking.ensures.item

pub told_step-requires-clause-reply : goal.told_step-requires-clause-reply
told_step-requires-clause-reply c =
    found_there c.args.request c.self.inside.pending c.as_slice.result.now c.place_of-at.result c.as_slice.ensures c.place_of-at.ensures.place
    c.remove-asking.result
    c.remove-asking.ensures.item c.remove-asking.new.self c.remove-asking.ensures.rest
    c.args.self.now _ c.self.view_is refl (λ (p : Option (Request Row)). FitsReply p c.args.reply.now) c.requires.reply

pub told_step-requires-clause-call : goal.told_step-requires-clause-call
told_step-requires-clause-call c = λ call.
    let step =
    step_then c.args.request c.self.inside.pending c.as_slice.result.now c.place_of-at.result c.as_slice.ensures c.place_of-at.ensures.place
    c.remove-asking.result
    c.remove-asking.ensures.item c.remove-asking.new.self c.remove-asking.ensures.rest
    c.self.inside.work c.self.invariant.waits call in
    record { life = ap life_of step.0; closed = ap closed_in step.0; calls = step.1 }

pub told_step-requires-clause-ranks : goal.told_step-requires-clause-ranks
told_step-requires-clause-ranks c =
    found_there c.args.request c.self.inside.pending c.as_slice.result.now c.place_of-at.result c.as_slice.ensures c.place_of-at.ensures.place
    c.remove-asking.result
    c.remove-asking.ensures.item c.remove-asking.new.self c.remove-asking.ensures.rest
    c.args.self.now _ c.self.view_is refl
    (λ (p : Option (Request Row)). reads_version p c.args.reply.now.result ≡ true → length c.args.ranks.now ≡ 3 * c.self.inside.header.f + 1)
    (subst (λ (a : AgentState). reads_version (pending_step c.args.self.now.agent.pending c.args.request) c.args.reply.now.result ≡ true
    → length c.args.ranks.now ≡ 3 * a.header.f + 1) (sym c.self.view_is) c.requires.ranks)

pub returns-clause-gives : goal.returns-clause-gives
returns-clause-gives c =
    told_then c.args.request c.self.inside.pending c.as_slice.result.now c.place_of-at.result c.as_slice.ensures c.place_of-at.ensures.place
    c.remove-asking.result
    c.remove-asking.ensures.item c.remove-asking.new.self c.remove-asking.ensures.rest
    c.args.self.now _ c.self.view_is refl (given_now c.args.now c.args.ranks.now) c.args.reply.now
    (λ (p : List Output × AgentState). IfOk c.told_step.result (λ given. given ≡ p.0)) c.told_step.ensures.gives

pub returns-clause-after : goal.returns-clause-after
returns-clause-after c =
    told_then c.args.request c.self.inside.pending c.as_slice.result.now c.place_of-at.result c.as_slice.ensures c.place_of-at.ensures.place
    c.remove-asking.result
    c.remove-asking.ensures.item c.remove-asking.new.self c.remove-asking.ensures.rest
    c.args.self.now _ c.self.view_is refl (given_now c.args.now c.args.ranks.now) c.args.reply.now
    (λ (p : List Output × AgentState). OnOk c.told_step.result (c.told_step.new.self ≡ p.1)) c.told_step.ensures.after

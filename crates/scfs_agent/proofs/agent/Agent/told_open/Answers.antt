use Rattle.std.proofs.Common.{◌≡◌, ◌+◌, ℕ, List, Bool, IfOk, OnOk, sym, ap, ◌∙◌, subst, arith}
use Rattle.scfs_model.specs.Layers.{Row}
use Rattle.scfs_model.specs.Leases.{leased}
use Rattle.scfs_model.specs.Walks.{OrRefusal}
use Rattle.scfs_model.specs.SessionSteps.{Session_outcome}
use Rattle.scfs_anchor.specs.StepReplies.{IsSessionReply, FitsSessions}
use Rattle.scfs_agent.specs.State.{AgentState, given_now}
use Rattle.scfs_agent.specs.Telling.{open_step}
use Rattle.scfs_agent.specs.declared.types.Output.{Output}
use Rattle.scfs_agent.proofs.ToldLemmas.{did_is, with_lock, lock_fits, open_did}
use Rattle.scfs_agent.proofs.agent.Agent.told_open.Goals as goal
use Rattle.scfs_agent.proofs.agent.Agent.told_open.Goals.{then-writes+in_ok-lease-in-Did, else-writes}

-- the agent that a lock was told to
locked : (c : goal.After-saw) (names : List (List ℕ)) (r : OrRefusal (Session_outcome Row))
    → IsSessionReply c.args.self.now.header.lease c.args.request (open_step c.args.writes names c.args.session) r c.args.reply.now
    → FitsSessions (open_step c.args.writes names c.args.session) r
    → c.if-writes.self ≡ record c.args.self.now {
      agent = with_lock c.args.writes c.args.self.now.agent c.args.session (c.args.reply.now.now + c.args.self.now.header.lease);
    }
locked c names r is fits =
    let old = c.args.self.now in
    let lock : Bool → ℕ → AgentState = λ b until. record old { agent = with_lock b old.agent c.args.session until } in
    elim c.if-writes.branch [
      | then-writes+in_ok-lease-in-Did w ↦
          let fit = lock_fits old.header.lease c.args.request c.args.writes names c.args.session r c.args.reply.now is fits
          (did_is c.args.reply.now.result _ _ _ c.in-Did.is) w.if-writes.true in
          let until : w.saturating_add.result ≡ c.args.reply.now.now + old.header.lease =
          omega (arith, fit, w.saturating_add.ensures, ap (λ (a : AgentState). a.header.lease) w.lease.view_is) in
          w.self-is ∙ w.in_ok-lease-in-Did.ensures ∙ ap (λ (n : ℕ). record old { agent = leased old.agent c.args.session n }) until
          ∙ ap (λ (b : Bool). lock b (c.args.reply.now.now + old.header.lease)) (sym w.if-writes.true)
      | else-writes w ↦ w.self-is ∙ ap (λ (b : Bool). lock b (c.args.reply.now.now + old.header.lease)) (sym w.if-writes.false)
    ]

pub returns-after-writes-clause-gives : goal.returns-after-writes-clause-gives
returns-after-writes-clause-gives c = λ names r same is fits.
    subst (λ (p : List Output × AgentState). IfOk c.saw.result (λ given. given ≡ p.0))
    (open_did c.args.self.now c.if-writes.self (given_now c.args.now c.args.ranks.now) c.args.request c.args.writes names c.args.session r
    c.args.reply.now
    c.sight_of-seen.result is (did_is c.args.reply.now.result _ _ _ c.in-Did.is) c.sight_of-seen.ensures (locked c names r is fits))
    c.saw.ensures.gives

pub returns-after-writes-clause-after : goal.returns-after-writes-clause-after
returns-after-writes-clause-after c = λ names r same is fits.
    subst (λ (p : List Output × AgentState). OnOk c.saw.result (c.saw.new.self ≡ p.1))
    (open_did c.args.self.now c.if-writes.self (given_now c.args.now c.args.ranks.now) c.args.request c.args.writes names c.args.session r
    c.args.reply.now
    c.sight_of-seen.result is (did_is c.args.reply.now.result _ _ _ c.in-Did.is) c.sight_of-seen.ensures (locked c names r is fits))
    c.saw.ensures.after

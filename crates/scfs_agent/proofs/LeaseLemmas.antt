-- What renewals ask and leave, and what an agent is told of locks.
use Rattle.std.proofs.Common.{◌≡◌, ℕ, ◌^◌, ◌<◌, List, [], ◌∷◌, ◌++◌, Option, Some, None, Ok, Err, refl, sym, ap, ◌∙◌, append_assoc}
use Rattle.std.specs.Prelude.{filter, ◌&&◌, not}
use Rattle.std.proofs.lemmas.List.{map-append, append-nil}
use Rattle.scfs_base.specs.declared.naming.FileId.{FileId}
use Rattle.scfs_lease.specs.declared.leases.Lease.{Lease}
use Rattle.scfs_lease.specs.Leases.{is_due}
use Rattle.scfs_anchor.specs.Tree.{Each}
use Rattle.scfs_model.specs.Lists.{if_some}
use Rattle.scfs_model.specs.Layers.{Row, rows}
use Rattle.scfs_model.specs.Walks.{OrRefusal}
use Rattle.scfs_model.specs.LockSteps.{Lock_step, Unlock, Unlock_all, Renew, Lock_outcome, Frees, Renews}
use Rattle.scfs_model.specs.Agents.{Agent, Reaction, silent, followed}
use Rattle.scfs_model.specs.Leases.{file_of, renews, renews_all, renews_due}
use Rattle.scfs_model.specs.Opens.{open_turns}
use Rattle.scfs_model.specs.Closes.{upload_turns}
use Rattle.scfs_model.specs.Reactions.{to_work, turns}
use Rattle.scfs_agent.specs.State.{AgentState, setup, given_now}
use Rattle.scfs_agent.specs.declared.types.Output.{Output}
use Rattle.scfs_model.specs.Told.{told_locks}
use Rattle.scfs_agent.specs.Asking.{CanBeAsked}
use Rattle.scfs_agent.specs.Outputs.{outputs_by, outputs_of, step_output}

-- steps are all that renewals ask, and they leave the agent's closed sessions
pub record HasRenewed (a : ℕ) (agent : Agent Row) (r : Reaction Row) : Type 0 where
  pub says : r.says ≡ []
  pub sent : r.sent ≡ []
  pub ranked : r.ranked ≡ []
  pub closed : r.agent.closed ≡ agent.closed
  pub incarnation : r.agent.incarnation ≡ agent.incarnation
  pub asked : a < 2 ^ 8 → agent.incarnation < 2 ^ 24 → Each CanBeAsked r.steps

pub renewed : (a : ℕ) (agent : Agent Row) (leases : List Lease) → HasRenewed a agent (renews_all rows a agent leases)
renewed a agent [] = record { says = refl; sent = refl; ranked = refl; closed = refl; incarnation = refl; asked = λ small fits. tt }
renewed a agent (l ∷ rest) =
    elim (file_of rows agent l.session agent.waiting) as (λ (file : Option FileId).
    HasRenewed a agent (followed (if_some file (silent agent) (renews rows a agent l.session)) (λ next. renews_all rows a next rest))) [
      | None ↦ renewed a agent rest
      | Some file ↦
          let others = renewed a (renews rows a agent l.session file).agent rest in
          record {
            says = others.says;
            sent = others.sent;
            ranked = others.ranked;
            closed = others.closed;
            incarnation = others.incarnation;
            asked = λ small fits. (((small, fits), tt), others.asked small fits);
          }
    ]

-- the outputs of one after the other, where the first asks steps alone
pub outputs_followed : (a lease : ℕ) (first second : Reaction Row) → first.says ≡ [] → first.sent ≡ []
    → outputs_by a lease (followed first (λ (next : Agent Row). second)) ≡ outputs_by a lease first ++ outputs_by a lease second
outputs_followed a lease first second silent unsent =
    simp (unsent, silent, map-append (step_output lease) first.steps second.steps, append-nil, append_assoc)

-- a turn gives what the renewals give, and then what its work does
abbrev work : AgentState → Reaction Row
work a = to_work a.agent (open_turns (setup a) rows a.no) (upload_turns (setup a) a.no)

pub turned_gives : (old middle : AgentState) (now : ℕ) (given more all : List Output) → given
    ≡ outputs_of old (renews_due rows old.no old.agent now old.header.lease)
    → middle ≡ record old { agent = (renews_due rows old.no old.agent now old.header.lease).agent } → more ≡ outputs_of middle (work middle) → all
    ≡ given ++ more
    → all ≡ outputs_of old (turns (setup old) rows old.no old.agent (given_now now []))
turned_gives old middle now given more all first left second joined =
    let due = filter (λ (l : Lease). is_due now old.header.lease l && not l.asked) old.agent.leases in
    let r = renews_all rows old.no old.agent due in
    joined
    ∙ ap (λ (xs : List Output). xs ++ more) first
    ∙ ap (λ (xs : List Output). outputs_of old r ++ xs) (second ∙ ap (λ (a : AgentState). outputs_of a (work a)) left)
    ∙ sym (outputs_followed old.no old.header.lease r (work (record old { agent = r.agent })) (renewed old.no old.agent due).says
    (renewed old.no old.agent due).sent)

-- what is told of locks asks nothing, and leaves the closed sessions
pub record IsCalm (agent : Agent Row) (r : Reaction Row) : Type 0 where
  pub ranked : r.ranked ≡ []
  pub steps : r.steps ≡ []
  pub closed : r.agent.closed ≡ agent.closed

pub told_calm : (agent : Agent Row) (x : Lock_step) (r : OrRefusal Lock_outcome) → IsCalm agent (told_locks agent x r)
told_calm agent (Unlock file h) r = record { ranked = refl; steps = refl; closed = refl }
told_calm agent Unlock_all (Ok (Frees count)) = record { ranked = refl; steps = refl; closed = refl }
told_calm agent Unlock_all (Ok (Renews l)) = record { ranked = refl; steps = refl; closed = refl }
told_calm agent Unlock_all (Err why) = record { ranked = refl; steps = refl; closed = refl }
told_calm agent (Renew file h) (Ok (Frees count)) = record { ranked = refl; steps = refl; closed = refl }
told_calm agent (Renew file h) (Ok (Renews l)) = record { ranked = refl; steps = refl; closed = refl }
told_calm agent (Renew file h) (Err why) = record { ranked = refl; steps = refl; closed = refl }

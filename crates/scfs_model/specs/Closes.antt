use Rattle.std.specs.Prelude.{ℕ, ◌+◌, List, [], ◌∷◌, ◌++◌, if◌then◌else◌, Some}
use Rattle.scfs_base.specs.declared.naming.RequestNo.{RequestNo}
use Rattle.scfs_base.specs.declared.cloud.CloudAnswer.{CloudAnswer}
use Rattle.scfs_base.specs.declared.cloud.CloudRequest.TheVariants as requests
use Rattle.scfs_schedule.specs.declared.types.Refusal.TheVariants as refusals
use Rattle.scfs_model.specs.Lists.{below}
use Rattle.scfs_model.specs.Names.{upload_no, upload_name}
use Rattle.scfs_model.specs.Format.{Setup, clouds_of, sealed, object_at}
use Rattle.scfs_model.specs.Versions.{Versions}
use Rattle.scfs_model.specs.LockSteps.{Unlock}
use Rattle.scfs_model.specs.SessionSteps.{Commit}
use Rattle.scfs_model.specs.Steps.{On_locks, On_sessions}
use Rattle.scfs_model.specs.Next.{Next, Goes_on, Asks, Has, Gives_up}
use Rattle.scfs_model.specs.Storing.{Storing, is_new_ack, with_ack, store_on, store_turn}
use Rattle.scfs_model.specs.Sayings as says
use Rattle.scfs_model.specs.Leases.{unleased}
use Rattle.scfs_model.specs.Agents.{Upload, Closed, Agent, Reaction, silent, answered, followed, asks_step, next_asked, asks_clouds}

-- The first closed session is uploaded. Below, the agent is given without it.

-- it goes on with its upload like this
abbrev pub goes_on : {V : Type 0} → Agent V → Closed V → Upload V → Agent V
goes_on agent x u = record agent { closed = (record x { upload = Some u }) ∷ agent.closed }

-- its upload, stored so far
abbrev pub with_storing : {V : Type 0} → Upload V → Storing → Upload V
with_storing u storing = record u { storing = storing }

module _ {V : Type 0} (s : Setup) (a : ℕ) where
  -- Puts of its objects are asked
  abbrev pub asks_puts : Agent V → Closed V → Upload V → (clouds : List ℕ) → Reaction V
  asks_puts agent x u clouds =
      let puts = next_asked a agent clouds in
      asks_clouds (goes_on agent x (with_storing u (record u.storing { puts = u.storing.puts ++ puts }))) puts
      (λ c. requests.Put u.storing.name (object_at u.storing.unit c))

  -- it is given up: the call that closed it is answered, and its lock is given back
  abbrev pub falls_short : Agent V → Closed V → (acks : ℕ) → Reaction V
  falls_short agent x acks =
      followed (answered (unleased agent x.number) (says.Refuses (refusals.Short acks)))
      (λ next. asks_step a next (On_locks (Unlock x.session.file x.number)))

  -- what becomes of it
  abbrev pub stores : Agent V → Closed V → Upload V → Next (Unit {0}) → Reaction V
  stores agent x u Goes_on = silent (goes_on agent x u)
  stores agent x u (Asks clouds) = asks_puts agent x u clouds
  stores agent x u (Has enough) = asks_step a (goes_on agent x u) (On_sessions (Commit x.number u.version))
  stores agent x u (Gives_up acks) = falls_short agent x acks

  -- a cloud's answer
  abbrev pub upload_hears : Agent V → Closed V → Upload V → (c : ℕ) → RequestNo → CloudAnswer → Reaction V
  upload_hears agent x u c request answer =
      if is_new_ack u.storing c request answer
      then stores agent x (with_storing u (with_ack u.storing c)) (store_on s u.storing)
      else stores agent x u Goes_on

  -- a turn
  abbrev pub upload_turns : Agent V → Closed V → Upload V → Reaction V
  upload_turns agent x u =
      stores agent x (with_storing u (record u.storing { turns = u.storing.turns + 1 })) (store_turn s u.storing)

-- its upload begins: it is drawn and sealed, and its Puts are asked of all clouds
abbrev pub begins : {V : Type 0} → Setup → Versions V → (a : ℕ) → Agent V → Closed V → Reaction V
begins s vs a agent x =
    let no = upload_no a agent.incarnation (agent.uploads + 1) in
    let unit = sealed s no x.session.contents in
    asks_puts s a (record agent { uploads = agent.uploads + 1 }) x
    (record {
      version = vs.closed x.session no unit;
      storing = record { name = upload_name no; unit = unit; puts = []; acked = []; turns = 0 };
    })
    (below (clouds_of s))

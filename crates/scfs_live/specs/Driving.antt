-- Which event of a live run comes next: the event that was given; then what settling demands; then a further turn of the agent
-- whose call is unanswered.
use Rattle.std.specs.Prelude.{ℕ, zero, suc, List, [], ◌∷◌, ◌++◌, length, if◌then◌else◌, Option, Some, None}
use Rattle.std.specs.List.{flat_map}
use Rattle.scfs_base.specs.declared.cloud.CloudAnswer.{CloudAnswer}
use Rattle.scfs_schedule.specs.declared.types.Event.{Event}
use Rattle.scfs_schedule.specs.declared.types.Event.TheVariants as events
use Rattle.scfs_model.specs.Format.{Setup, clouds_of}
use Rattle.scfs_model.specs.Lists.{below}
use Rattle.scfs_live.specs.Limits.{driven_turns}
use Rattle.scfs_live.specs.Waits.{Waits, step_waits, reply_waits, call_waits, request_waits, answer_waits}
use Rattle.scfs_live.specs.declared.driver.Next.{Next}
use Rattle.scfs_live.specs.declared.driver.Next.TheVariants.{Does, Hears}
use Rattle.scfs_live.specs.declared.driver.Work.{Work}
use Rattle.scfs_live.specs.declared.driver.Work.TheVariants.{Serve, Tell, TellRest, Ask, Hand, HandRest}

abbrev pub agent_work : (a : ℕ) → List Work
agent_work a = Serve a ∷ TellRest a ∷ []

abbrev pub cloud_work : (c : ℕ) → List Work
cloud_work c = Ask c ∷ HandRest c ∷ []

-- a whole round of settling: each agent in order, then each cloud
abbrev pub round : Setup → List Work
round s = flat_map agent_work (below (length s.header.agents)) ++ flat_map cloud_work (below (clouds_of s))

-- what a round does next, and what is left of it then; none where nothing of it is to be done
abbrev pub next_work : Waits → List Work → Option (Next × List Work)
next_work w [] = None
next_work w (Serve a ∷ rest) = if step_waits w a then Some (Does (events.Space a), Tell a ∷ Serve a ∷ rest) else next_work w rest
next_work w (Tell a ∷ rest) = Some (Does (events.Told a), rest)
next_work w (TellRest a ∷ rest) = if reply_waits w a then Some (Does (events.Told a), TellRest a ∷ rest) else next_work w rest
next_work w (Ask c ∷ rest) = if request_waits w c then Some (Hears c, Hand c ∷ Ask c ∷ rest) else next_work w rest
next_work w (Hand c ∷ rest) = Some (Does (events.Give c), rest)
next_work w (HandRest c ∷ rest) = if answer_waits w c then Some (Does (events.Give c), HandRest c ∷ rest) else next_work w rest

-- where driving is: the event that was given, while it is not done; what is left of the round; the agent whose call is driven, and
-- how many turns it may still have
pub record Driver : Type 0 where
  pub given : Option Event
  pub work : List Work
  pub called : Option ℕ
  pub turns : ℕ

-- driving begins with an event, or with none
abbrev pub begins_with : Setup → Option Event → Driver
begins_with s given = record { given = given; work = round s; called = None; turns = 0 }

-- the agent whose call an event is
abbrev pub agent_called : Event → Option ℕ
agent_called (events.Call a call) = Some a
agent_called other = None

-- after the event that was given
abbrev pub begun : Setup → Event → Driver
begun s event = record { given = None; work = round s; called = agent_called event; turns = driven_turns }

abbrev pub next_turn : Setup → Driver → (a : ℕ) → (turns : ℕ) → Option (Next × Driver)
next_turn s d a zero = None
next_turn s d a (suc turns) = Some (Does (events.Turn a), record d { work = round s; turns = turns })

-- with all settled: a turn of the agent whose call is unanswered
abbrev pub next_settled : Setup → Waits → Driver → Option ℕ → Option (Next × Driver)
next_settled s w d None = None
next_settled s w d (Some a) = if call_waits w a then next_turn s d a d.turns else None

abbrev pub with_work : Driver → Next × List Work → Next × Driver
with_work d step = (step.0, record d { work = step.1 })

abbrev pub or_settled : Setup → Waits → Driver → Option (Next × List Work) → Option (Next × Driver)
or_settled s w d None = next_settled s w d d.called
or_settled s w d (Some step) = Some (with_work d step)

-- the rest of the round, or where nothing of it is to be done a whole round anew; where nothing of that is, all is settled
abbrev pub or_anew : Setup → Waits → Driver → Option (Next × List Work) → Option (Next × Driver)
or_anew s w d None = or_settled s w d (next_work w (round s))
or_anew s w d (Some step) = Some (with_work d step)

abbrev pub or_given : Setup → Waits → Driver → Option Event → Option (Next × Driver)
or_given s w d None = or_anew s w d (next_work w d.work)
or_given s w d (Some event) = Some (Does event, begun s event)

-- What comes next, and where driving is then: the event that was given; else the rest of the round; else a round anew; else, with all
-- settled, a turn of the agent whose call is unanswered. None where no turn is to come.
abbrev pub next_within : Setup → Waits → Driver → Option (Next × Driver)
next_within s w d = or_given s w d d.given

-- the event that comes, where the cloud that is asked answers so
abbrev pub event_of : Next → CloudAnswer → Event
event_of (Does event) answer = event
event_of (Hears c) answer = events.Say c answer

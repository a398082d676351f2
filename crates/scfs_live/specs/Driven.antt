-- Histories that driving makes: of one event, and of a whole script.
use Rattle.std.specs.Prelude.{◌≡◌, List, [], ◌∷◌, ◌++◌, Option, Some, None}
use Rattle.scfs_base.specs.declared.cloud.CloudAnswer.{CloudAnswer}
use Rattle.scfs_base.specs.declared.cloud.CloudAnswer.TheVariants as answers
use Rattle.scfs_schedule.specs.declared.types.Event.{Event}
use Rattle.scfs_schedule.specs.declared.types.Event.TheVariants as events
use Rattle.scfs_model.specs.Format.{Setup}
use Rattle.scfs_model.specs.History.{History}
use Rattle.scfs_live.specs.declared.driver.Next.{Next}
use Rattle.scfs_live.specs.declared.driver.Next.TheVariants.{Does}
use Rattle.scfs_live.specs.Driving.{Driver, begins_with, begun, next_within, event_of}
use Rattle.scfs_live.specs.Waits.{Waits, waits_after}

-- the answer that an event says
abbrev pub answer_in : Event → CloudAnswer
answer_in (events.Say c answer) = answer
answer_in other = answers.Fail

-- after a history an event comes next, and driving goes from where it was to where it is
pub record ComesNext (s : Setup) (before : Driver) (past : History) (event : Event) (after : Driver) : Type 0 where
  pub next : Next
  pub due : next_within s (waits_after s past) before ≡ Some (next, after)
  pub is : event ≡ event_of next (answer_in event)

-- new events behind a history are those that driving makes, from where it was to where it is
abbrev pub IsDrivenFrom : Setup → Driver → (new past : History) → Driver → Type 0
IsDrivenFrom s before [] past after = before ≡ after
IsDrivenFrom s before (e ∷ new) past after =
    (between : Driver) × IsDrivenFrom s before new past between × ComesNext s between (new ++ past) e.event after

-- what comes next after a history, by where driving is
abbrev pub IsDueIn : Setup → Driver → History → Next → Type 0
IsDueIn s d past next = (beyond : Driver) × (next_within s (waits_after s past) d ≡ Some (next, beyond))

-- no event comes next after a history: all is settled, and no turn is to come
abbrev pub IsSettled : Setup → Driver → (past : History) → Type 0
IsSettled s d past = next_within s (waits_after s past) d ≡ None

-- a driver, and the events of its script that are still to come
pub record Live : Type 0 where
  pub driver : Driver
  pub script : List Event

-- before the first event of a script all that waits is settled
abbrev pub first_live : Setup → (script : List Event) → Live
first_live s script = record { driver = begins_with s None; script = script }

abbrev pub next_of_script : Setup → List Event → Option (Next × Live)
next_of_script s [] = None
next_of_script s (event ∷ script) = Some (Does event, record { driver = begun s event; script = script })

abbrev pub or_script : Setup → (script : List Event) → Option (Next × Driver) → Option (Next × Live)
or_script s script None = next_of_script s script
or_script s script (Some x) = Some (x.0, record { driver = x.1; script = script })

-- what comes next: what driving demands, else the script's next event; none where the run of the script ends
abbrev pub next : Setup → Waits → Live → Option (Next × Live)
next s w l = or_script s l.script (next_within s w l.driver)

abbrev pub next_by : Setup → History → Option Live → Option (Next × Live)
next_by s past None = None
next_by s past (Some l) = next s (waits_after s past) l

abbrev pub live_in : Option (Next × Live) → Option Live
live_in None = None
live_in (Some x) = Some x.1

abbrev pub event_in : CloudAnswer → Option (Next × Live) → Option Event
event_in answer None = None
event_in answer (Some x) = Some (event_of x.0 answer)

-- where the run of a script is that began after an old history, once these events came
abbrev pub live_after : Setup → (script : List Event) → (new old : History) → Option Live
live_after s script [] old = Some (first_live s script)
live_after s script (e ∷ new) old = live_in (next_by s (new ++ old) (live_after s script new old))

-- the event that comes next after these, where a cloud that is asked answers so; none where the run ends
abbrev pub next_event : Setup → (script : List Event) → (new old : History) → CloudAnswer → Option Event
next_event s script new old answer = event_in answer (next_by s (new ++ old) (live_after s script new old))

-- the new events behind an old history are those of a script's run: each is the one that comes next, with the answer that it says
abbrev pub IsDriven : Setup → (script : List Event) → (new old : History) → Type 0
IsDriven s script [] old = Unit {0}
IsDriven s script (e ∷ new) old = (next_event s script new old (answer_in e.event) ≡ Some e.event) × IsDriven s script new old

-- and no further event comes
abbrev pub IsWhole : Setup → (script : List Event) → (new old : History) → Type 0
IsWhole s script new old = next_event s script new old answers.Fail ≡ None

-- what comes next behind the new events of a script's run
abbrev pub IsDueNext : Setup → (script : List Event) → (new old : History) → Next → Type 0
IsDueNext s script new old next = (beyond : Live) × (next_by s (new ++ old) (live_after s script new old) ≡ Some (next, beyond))

-- a script's run so far: its new events, and where it is
pub record IsLive (s : Setup) (script : List Event) (new old : History) (live : Live) : Type 0 where
  pub driven : IsDriven s script new old
  pub at : live_after s script new old ≡ Some live

-- The run of a script by drives. The first is given no event.
abbrev pub RunsBegin : Type 0
RunsBegin =
    (s : Setup) (script : List Event) (new old : History) (driver : Driver) → IsDrivenFrom s (begins_with s None) new old driver
    → IsLive s script new old (record { driver = driver; script = script })

-- Where a drive came to its end, the next is given the script's next event, and comes to its end as well.
abbrev pub RunsGoOn : Type 0
RunsGoOn =
    (s : Setup) (script : List Event) (new old : History) (driver : Driver) (event : Event) (rest : List Event) (more : History) (after : Driver)
    → IsLive s script new old (record { driver = driver; script = event ∷ rest }) → IsSettled s driver (new ++ old)
    → IsDrivenFrom s (begins_with s (Some event)) more (new ++ old) after → IsSettled s after (more ++ (new ++ old))
    → IsLive s script (more ++ new) old (record { driver = after; script = rest })

-- Or it ends before: its events are those of the script's run.
abbrev pub RunsStop : Type 0
RunsStop =
    (s : Setup) (script : List Event) (new old : History) (driver : Driver) (event : Event) (rest : List Event) (more : History) (after : Driver)
    → IsLive s script new old (record { driver = driver; script = event ∷ rest }) → IsSettled s driver (new ++ old)
    → IsDrivenFrom s (begins_with s (Some event)) more (new ++ old) after → IsDriven s script (more ++ new) old

-- Where the last drive came to its end and no event of the script is left, the run is whole.
abbrev pub RunsEnd : Type 0
RunsEnd =
    (s : Setup) (script : List Event) (new old : History) (driver : Driver) → IsLive s script new old (record { driver = driver; script = [] })
    → IsSettled s driver (new ++ old) → IsWhole s script new old

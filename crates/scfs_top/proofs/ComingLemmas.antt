-- A script's run by drives: which event comes next.
use Rattle.std.proofs.Common.{◌≡◌, List, [], ◌∷◌, ◌++◌, Option, Some, None, refl, ap, ◌∙◌, sym, subst, append_assoc}
use Rattle.scfs_base.specs.declared.cloud.CloudAnswer.TheVariants as answers
use Rattle.scfs_schedule.specs.declared.types.Event.{Event}
use Rattle.scfs_model.specs.Format.{Setup}
use Rattle.scfs_model.specs.History.{Entry, History}
use Rattle.scfs_live.specs.declared.driver.Next.{Next}
use Rattle.scfs_live.specs.Driving.{Driver, begins_with, next_within}
use Rattle.scfs_live.specs.Driven.{ComesNext, IsDriven, IsDrivenFrom, IsDueIn, IsDueNext, IsSettled, IsWhole, Live, answer_in, event_in, live_after, live_in, next_by, or_script}
use Rattle.scfs_live.specs.Waits.{waits_after}

-- new events are those of a script's run, and what comes next is what a driver demands, and then these events of the script
pub record IsComing (s : Setup) (script : List Event) (new old : History) (driver : Driver) (rest : List Event) : Type 0 where
  pub driven : IsDriven s script new old
  pub comes : next_by s (new ++ old) (live_after s script new old) ≡ or_script s rest (next_within s (waits_after s (new ++ old)) driver)

-- a run begins with a drive that is given no event
pub coming_first : (s : Setup) (script : List Event) (old : History) → IsComing s script [] old (begins_with s None) script
coming_first s script old = record { driven = tt; comes = refl }

module _ (s : Setup) (script rest : List Event) (old : History) where
  -- an event more of a drive
  coming_event : (new : History) (driver after : Driver) (e : Entry) → IsComing s script new old driver rest → ComesNext s driver (new ++ old) e.event after
      → IsComing s script (e ∷ new) old after rest
  coming_event new driver after e is comes =
      let by : next_by s (new ++ old) (live_after s script new old) ≡ Some (comes.next, record { driver = after; script = rest }) =
      is.comes ∙ ap (or_script s rest) comes.due in
      record {
        driven = (ap (event_in (answer_in e.event)) by ∙ ap Some (sym comes.is), is.driven);
        comes = ap (λ (x : Option (Next × Live)). next_by s (e ∷ (new ++ old)) (live_in x)) by;
      }

  -- the events of a drive
  pub coming_more : (more new : History) (driver after : Driver) → IsComing s script new old driver rest → IsDrivenFrom s driver more (new ++ old) after
      → IsComing s script (more ++ new) old after rest
  coming_more [] new driver after is driven = subst (λ (d : Driver). IsComing s script new old d rest) driven is
  coming_more (e ∷ more) new driver after is driven =
      let comes = subst (λ (h : History). ComesNext s driven.0 h e.event after) (sym (append_assoc more new old)) driven.2 in
      coming_event (more ++ new) driven.0 after e (coming_more more new driver driven.0 is driven.1) comes

  -- where all is settled, the next event of the script is given to a drive
  pub coming_given : (new : History) (driver : Driver) (event : Event) → IsComing s script new old driver (event ∷ rest) → IsSettled s driver (new ++ old)
      → IsComing s script new old (begins_with s (Some event)) rest
  coming_given new driver event is settled = record { driven = is.driven; comes = is.comes ∙ ap (or_script s (event ∷ rest)) settled }

  -- what comes next in a drive comes next in the run
  pub coming_due : (new : History) (driver : Driver) (next : Next) → IsComing s script new old driver rest → IsDueIn s driver (new ++ old) next
      → IsDueNext s script new old next
  coming_due new driver next is due = (record { driver = due.0; script = rest }, is.comes ∙ ap (or_script s rest) due.1)

-- where all is settled and no event of the script is left, the run is whole
pub coming_whole : (s : Setup) (script : List Event) (new old : History) (driver : Driver) → IsComing s script new old driver [] → IsSettled s driver (new ++ old)
    → IsWhole s script new old
coming_whole s script new old driver is settled = ap (event_in answers.Fail) (is.comes ∙ ap (or_script s []) settled)

-- a drive that was given an event and came to its end did at least that
pub some_done : (s : Setup) (event : Event) (more past : History) (after : Driver) → IsDrivenFrom s (begins_with s (Some event)) more past after
    → IsSettled s after (more ++ past) → more ≡ [] → ⊥
some_done s event [] past after driven settled none =
    let settled' : IsSettled s (begins_with s (Some event)) past = subst (λ (d : Driver). IsSettled s d past) (sym driven) settled in cc
some_done s event (e ∷ more) past after driven settled none = cc

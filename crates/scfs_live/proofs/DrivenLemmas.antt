-- A script's run by drives: first with no event, then with each event of the script in turn.
use Rattle.std.proofs.Common.{◌≡◌, ◌⊎◌, inl, inr, List, [], ◌∷◌, ◌++◌, Option, Some, None, refl, ap, ◌∙◌, sym, subst, append_assoc, append-nil}
use Rattle.scfs_base.specs.declared.cloud.CloudAnswer.TheVariants as answers
use Rattle.scfs_schedule.specs.declared.types.Event.{Event}
use Rattle.scfs_model.specs.Format.{Setup}
use Rattle.scfs_model.specs.History.{Entry, History}
use Rattle.scfs_live.specs.declared.driver.Next.{Next}
use Rattle.scfs_live.specs.Driving.{Driver, begins_with, event_of, next_within}
use Rattle.scfs_live.specs.Driven.{ComesNext, IsDriven, IsDrivenFrom, IsLive, IsSettled, Live, RunsBegin, RunsEnd, RunsGoOn, RunsStop, answer_in, event_in, live_after, live_in, next, next_by, or_script}
use Rattle.scfs_live.specs.Waits.{waits_after}

module _ (s : Setup) (script : List Event) where
  -- one event more, which comes next by this
  live_more : (new old : History) (live : Live) (e : Entry) (comes : Next) (after : Live) → IsLive s script new old live
      → next s (waits_after s (new ++ old)) live ≡ Some (comes, after) → e.event ≡ event_of comes (answer_in e.event)
      → IsLive s script (e ∷ new) old after
  live_more new old live e comes after is due it =
      let by : next_by s (new ++ old) (live_after s script new old) ≡ Some (comes, after) = ap (next_by s (new ++ old)) is.at ∙ due in
      record {
        driven = (ap (event_in (answer_in e.event)) by ∙ ap Some (sym it), is.driven);
        at = ap live_in by;
      }

  -- events that driving makes
  live_driven : (more new old : History) (rest : List Event) (driver after : Driver) → IsLive s script new old (record { driver = driver; script = rest })
      → IsDrivenFrom s driver more (new ++ old) after → IsLive s script (more ++ new) old (record { driver = after; script = rest })
  live_driven [] new old rest driver after is driven = subst (λ (d : Driver). IsLive s script new old (record { driver = d; script = rest })) driven is
  live_driven (e ∷ more) new old rest driver after is driven =
      let comes = driven.2 in
      let same : more ++ (new ++ old) ≡ (more ++ new) ++ old = sym (append_assoc more new old) in
      let due : next_within s (waits_after s ((more ++ new) ++ old)) driven.0 ≡ Some (comes.next, after) =
      subst (λ (h : History). next_within s (waits_after s h) driven.0 ≡ Some (comes.next, after)) same comes.due in
      live_more (more ++ new) old (record { driver = driven.0; script = rest }) e comes.next (record { driver = after; script = rest })
      (live_driven more new old rest driver driven.0 is driven.1) (ap (or_script s rest) due) comes.is

  -- the first event of a drive with an event, where all was settled before
  live_given : (new old : History) (rest : List Event) (driver after : Driver) (event : Event) (e : Entry)
      → IsLive s script new old (record { driver = driver; script = event ∷ rest }) → IsSettled s driver (new ++ old)
      → ComesNext s (begins_with s (Some event)) (new ++ old) e.event after
      → IsLive s script (e ∷ new) old (record { driver = after; script = rest })
  live_given new old rest driver after event e is settled comes =
      live_more new old (record { driver = driver; script = event ∷ rest }) e comes.next (record { driver = after; script = rest }) is
      (ap (or_script s (event ∷ rest)) settled ∙ ap (or_script s rest) comes.due) comes.is

  -- where an event was given, it may not be done; else the run goes on
  abbrev GivenTo : (more new old : History) (rest : List Event) (event : Event) (after : Driver) → Type 0
  GivenTo more new old rest event after =
      IsDriven s script (more ++ new) old
      × (((more ≡ []) × (begins_with s (Some event) ≡ after)) ⊎ IsLive s script (more ++ new) old (record { driver = after; script = rest }))

  given_more : (more new old : History) (rest : List Event) (driver between after : Driver) (event : Event) (e : Entry)
      → IsLive s script new old (record { driver = driver; script = event ∷ rest }) → IsSettled s driver (new ++ old)
      → GivenTo more new old rest event between → ComesNext s between (more ++ (new ++ old)) e.event after
      → IsLive s script ((e ∷ more) ++ new) old (record { driver = after; script = rest })
  given_more [] new old rest driver between after event e is settled (done, inl undone) comes =
      live_given new old rest driver after event e is settled
      (subst (λ (d : Driver). ComesNext s d (new ++ old) e.event after) (sym undone.1) comes)
  given_more (x ∷ more) new old rest driver between after event e is settled (done, inl undone) comes = let none = undone.0 in cc
  given_more more new old rest driver between after event e is settled (done, inr live) comes =
      let same : more ++ (new ++ old) ≡ (more ++ new) ++ old = sym (append_assoc more new old) in
      let due : next_within s (waits_after s ((more ++ new) ++ old)) between ≡ Some (comes.next, after) =
      subst (λ (h : History). next_within s (waits_after s h) between ≡ Some (comes.next, after)) same comes.due in
      live_more (more ++ new) old (record { driver = between; script = rest }) e comes.next (record { driver = after; script = rest })
      live (ap (or_script s rest) due) comes.is

  given_driven : (more new old : History) (rest : List Event) (driver after : Driver) (event : Event)
      → IsLive s script new old (record { driver = driver; script = event ∷ rest }) → IsSettled s driver (new ++ old)
      → IsDrivenFrom s (begins_with s (Some event)) more (new ++ old) after → GivenTo more new old rest event after
  given_driven [] new old rest driver after event is settled driven = (is.driven, inl (refl, driven))
  given_driven (e ∷ more) new old rest driver after event is settled driven =
      let so_far = given_driven more new old rest driver driven.0 event is settled driven.1 in
      let live = given_more more new old rest driver driven.0 after event e is settled so_far driven.2 in
      (live.driven, inr live)

  must_be_done : (past : History) (event : Event) (after : Driver) → begins_with s (Some event) ≡ after → IsSettled s after past → ⊥
  must_be_done past event after same settled =
      let settled' : IsSettled s (begins_with s (Some event)) past = subst (λ (d : Driver). IsSettled s d past) (sym same) settled in cc

  given_settled : (more new old : History) (rest : List Event) (after : Driver) (event : Event) → GivenTo more new old rest event after
      → IsSettled s after (more ++ (new ++ old)) → IsLive s script (more ++ new) old (record { driver = after; script = rest })
  given_settled more new old rest after event (done, inl undone) settled = absurd (must_be_done (more ++ (new ++ old)) event after undone.1 settled)
  given_settled more new old rest after event (done, inr live) settled = live

pub runs_begin : RunsBegin
runs_begin s script new old driver driven =
    subst (λ (h : History). IsLive s script h old (record { driver = driver; script = script })) (append-nil new)
    (live_driven s script new [] old script (begins_with s None) driver (record { driven = tt; at = refl }) driven)

pub runs_go_on : RunsGoOn
runs_go_on s script new old driver event rest more after is settled driven ended =
    given_settled s script more new old rest after event (given_driven s script more new old rest driver after event is settled driven) ended

pub runs_stop : RunsStop
runs_stop s script new old driver event rest more after is settled driven =
    (given_driven s script more new old rest driver after event is settled driven).0

pub runs_end : RunsEnd
runs_end s script new old driver is settled =
    ap (λ (l : Option Live). event_in answers.Fail (next_by s (new ++ old) l)) is.at ∙ ap (λ (x : Option (Next × Driver)). event_in answers.Fail (or_script s [] x)) settled

-- Events that the run of a script made are read again from their lines.
use Rattle.std.proofs.Common.{◌≡◌, ◌<◌, ◌≤◌, ◌^◌, ◌*◌, ◌⊎◌, ℕ, ◌+◌, zero, suc, List, [], ◌∷◌, ◌++◌, Bool, true, false, Option, Some, None, refl, subst, length, inl, inr, arith}
use Rattle.std.specs.Prelude.{if◌then◌else◌, IfSome}
use Rattle.scfs_anchor.specs.Tree.{Each}
use Rattle.scfs_base.specs.Limits.{events_limit}
use Rattle.scfs_base.specs.declared.cloud.CloudAnswer.{CloudAnswer}
use Rattle.scfs_policy.specs.declared.rank.RankFacts.{RankFacts}
use Rattle.scfs_schedule.specs.Grammar.{IsEvent, IsHeader}
use Rattle.scfs_schedule.specs.declared.types.Event.{Event}
use Rattle.scfs_schedule.specs.declared.types.Event.TheVariants as events
use Rattle.scfs_schedule.specs.declared.types.Header.{Header}
use Rattle.scfs_schedule.proofs.WrittenLemmas.{event_read}
use Rattle.scfs_model.specs.Format.{Setup}
use Rattle.scfs_model.specs.History.{Entry, History}
use Rattle.scfs_model.specs.UnitFormat.{under}
use Rattle.scfs_laws.specs.Laws.{AreEvents}
use Rattle.scfs_world.specs.Built.{is_built}
use Rattle.scfs_live.specs.Driven.{IsDriven, Live, answer_in, event_in, first_live, live_after, live_in, next, next_by, next_of_script, or_script}
use Rattle.scfs_live.specs.Driving.{Driver, begun, event_of, next_settled, next_turn, next_within, next_work, or_anew, or_given, or_settled, round, with_work}
use Rattle.scfs_live.specs.GoingOn.{AreDone}
use Rattle.scfs_live.specs.Stopped.{DrivenAreDone, IsGiven, IsReadAgain, SaysBytes}
use Rattle.scfs_live.specs.Waits.{Waits, answer_waits, call_waits, reply_waits, request_waits, step_waits, waits_after}
use Rattle.scfs_live.specs.declared.driver.Next.{Next}
use Rattle.scfs_live.specs.declared.driver.Next.TheVariants.{Does, Hears}
use Rattle.scfs_live.specs.declared.driver.Work.{Work}
use Rattle.scfs_live.specs.declared.driver.Work.TheVariants.{Serve, Tell, TellRest, Ask, Hand, HandRest}

if_cases : {X : Type 0} (b : Bool) (x y : X) (other : Option X) → (if b then Some x else other) ≡ Some y → (x ≡ y) ⊎ (other ≡ Some y)
if_cases true x y other is = inl cc
if_cases false x y other is = inr is

if_some : {X : Type 0} (b : Bool) (y : X) (o : Option X) → (if b then o else None) ≡ Some y → o ≡ Some y
if_some true y o is = is
if_some false y o is = cc

-- what holds of the events of settling, of turns, of what clouds say, and of a script's events, holds of all events that a run makes
module _ (P : Event → Type 0) (space : (a : ℕ) → P (events.Space a)) (told : (a : ℕ) → P (events.Told a)) (give : (c : ℕ) → P (events.Give c))
    (turn : (a : ℕ) → P (events.Turn a)) (say : (c : ℕ) (answer : CloudAnswer) → P (events.Say c answer)) where
  -- it holds of what comes next, whatever is answered
  abbrev HoldsNext : Next → Type 0
  HoldsNext n = (answer : CloudAnswer) → P (event_of n answer)

  module _ (w : Waits) where
    work_holds : (work : List Work) (x : Next × List Work) → next_work w work ≡ Some x → HoldsNext x.0
    work_holds [] x is = cc
    work_holds (Serve a ∷ rest) x is =
        elim (if_cases (step_waits w a) (Does (events.Space a), Tell a ∷ Serve a ∷ rest) x (next_work w rest) is) [
          | inl h ↦ subst (λ (y : Next × List Work). HoldsNext y.0) h (λ answer. space a)
          | inr h ↦ work_holds rest x h
        ]
    work_holds (Tell a ∷ rest) x is =
        subst (λ (y : Next × List Work). HoldsNext y.0) (let same : (Does (events.Told a), rest) ≡ x = cc in same) (λ answer. told a)
    work_holds (TellRest a ∷ rest) x is =
        elim (if_cases (reply_waits w a) (Does (events.Told a), TellRest a ∷ rest) x (next_work w rest) is) [
          | inl h ↦ subst (λ (y : Next × List Work). HoldsNext y.0) h (λ answer. told a)
          | inr h ↦ work_holds rest x h
        ]
    work_holds (Ask c ∷ rest) x is =
        elim (if_cases (request_waits w c) (Hears c, Hand c ∷ Ask c ∷ rest) x (next_work w rest) is) [
          | inl h ↦ subst (λ (y : Next × List Work). HoldsNext y.0) h (λ answer. say c answer)
          | inr h ↦ work_holds rest x h
        ]
    work_holds (Hand c ∷ rest) x is =
        subst (λ (y : Next × List Work). HoldsNext y.0) (let same : (Does (events.Give c), rest) ≡ x = cc in same) (λ answer. give c)
    work_holds (HandRest c ∷ rest) x is =
        elim (if_cases (answer_waits w c) (Does (events.Give c), HandRest c ∷ rest) x (next_work w rest) is) [
          | inl h ↦ subst (λ (y : Next × List Work). HoldsNext y.0) h (λ answer. give c)
          | inr h ↦ work_holds rest x h
        ]

    -- of what comes next, and of what the driver was given then
    abbrev Fine : Next × Driver → Type 0
    Fine x = HoldsNext x.0 × IfSome x.1.given P

    module _ (s : Setup) (d : Driver) (given : IfSome d.given P) (x : Next × Driver) where
      step_holds : (step : Next × List Work) → HoldsNext step.0 → with_work d step ≡ x → Fine x
      step_holds step holds same = subst Fine same (holds, given)

      turn_holds : (a turns : ℕ) → next_turn s d a turns ≡ Some x → Fine x
      turn_holds a zero is = cc
      turn_holds a (suc turns) is =
          let made : Next × Driver = (Does (events.Turn a), record d { work = round s; turns = turns }) in
          let same : made ≡ x = cc in
          subst Fine same ((λ answer. turn a), given)

      settled_holds : (called : Option ℕ) → next_settled s w d called ≡ Some x → Fine x
      settled_holds None is = cc
      settled_holds (Some a) is = turn_holds a d.turns (if_some (call_waits w a) x (next_turn s d a d.turns) is)

      or_settled_holds : (o : Option (Next × List Work)) → next_work w (round s) ≡ o → or_settled s w d o ≡ Some x → Fine x
      or_settled_holds None from is = settled_holds d.called is
      or_settled_holds (Some step) from is = step_holds step (work_holds (round s) step from) (let same : with_work d step ≡ x = cc in same)

      or_anew_holds : (o : Option (Next × List Work)) → next_work w d.work ≡ o → or_anew s w d o ≡ Some x → Fine x
      or_anew_holds None from is = or_settled_holds (next_work w (round s)) refl is
      or_anew_holds (Some step) from is = step_holds step (work_holds d.work step from) (let same : with_work d step ≡ x = cc in same)

      or_given_holds : (o : Option Event) → IfSome o P → or_given s w d o ≡ Some x → Fine x
      or_given_holds None holds is = or_anew_holds (next_work w d.work) refl is
      or_given_holds (Some event) holds is =
          let made : Next × Driver = (Does event, begun s event) in
          let same : made ≡ x = cc in
          subst Fine same ((λ answer. holds), tt)

      next_holds : next_within s w d ≡ Some x → Fine x
      next_holds is = or_given_holds d.given given is

    -- of what comes next in the run of a script, and of what is to come
    abbrev IsLiveSo : Live → Type 0
    IsLiveSo l = IfSome l.driver.given P × Each P l.script

    abbrev FineLive : Next × Live → Type 0
    FineLive y = HoldsNext y.0 × IsLiveSo y.1

    module _ (s : Setup) (y : Next × Live) where
      script_holds : (script : List Event) → Each P script → next_of_script s script ≡ Some y → FineLive y
      script_holds [] each is = cc
      script_holds (event ∷ script) each is =
          let made : Next × Live = (Does event, record { driver = begun s event; script = script }) in
          let same : made ≡ y = cc in
          subst FineLive same ((λ answer. each.0), (tt, each.1))

      or_script_holds : (l : Live) → IsLiveSo l → (o : Option (Next × Driver)) → next_within s w l.driver ≡ o → or_script s l.script o ≡ Some y → FineLive y
      or_script_holds l so None from is = script_holds l.script so.1 is
      or_script_holds l so (Some x) from is =
          let fine = next_holds s l.driver so.0 x from in
          let made : Next × Live = (x.0, record { driver = x.1; script = l.script }) in
          let same : made ≡ y = cc in
          subst FineLive same (fine.0, (fine.1, so.1))

      live_holds : (l : Live) → IsLiveSo l → next s w l ≡ Some y → FineLive y
      live_holds l so is = or_script_holds l so (next_within s w l.driver) refl is

  abbrev IsSo : Live → Type 0
  IsSo l = IfSome l.driver.given P × Each P l.script

  -- wherever the run is
  abbrev AllSo : Option Live → Type 0
  AllSo o = (l : Live) → o ≡ Some l → IsSo l

  module _ (s : Setup) (past : History) (answer : CloudAnswer) (event : Event) where
    by_next : (l : Live) → IsSo l → (o : Option (Next × Live)) → next s (waits_after s past) l ≡ o → event_in answer o ≡ Some event → P event × AllSo (live_in o)
    by_next l so None from is = cc
    by_next l so (Some y) from is =
        let fine = live_holds (waits_after s past) s y l so from in
        let same : event_of y.0 answer ≡ event = cc in
        (subst P same (fine.0 answer), λ l' at. (let there : y.1 ≡ l' = cc in subst IsSo there fine.1))

    one_event : (o : Option Live) → AllSo o → event_in answer (next_by s past o) ≡ Some event → P event × AllSo (live_in (next_by s past o))
    one_event None so is = cc
    one_event (Some l) so is = by_next l (so l refl) (next s (waits_after s past) l) refl is

  driven_so : (s : Setup) (script : List Event) (new old : History) → Each P script → IsDriven s script new old
      → Each (λ (e : Entry). P e.event) new × AllSo (live_after s script new old)
  driven_so s script [] old each driven = (tt, λ l at. (let there : first_live s script ≡ l = cc in subst IsSo there (tt, each)))
  driven_so s script (e ∷ new) old each driven =
      let before = driven_so s script new old each driven.1 in
      let one = one_event s (new ++ old) (answer_in e.event) e.event (live_after s script new old) before.1 driven.0 in
      ((one.0, before.0), one.1)

-- an event can be done, and is read again from its line where it is of the header and says bytes
abbrev Holds : Header → Event → Type 0
Holds header event = (is_built event ≡ true) × (IsEvent header event → SaysBytes event → IsReadAgain header event)

module _ (header : Header) (is : IsHeader header) where
  agent_range : (a : ℕ) → a < length header.agents → a < 2 ^ 64
  agent_range a there = omega (arith, there, is.agents.1)

  cloud_range : (c : ℕ) → c < 3 * header.f + 1 → c < 2 ^ 64
  cloud_range c there = omega (arith, there, is.f.1)

  given_holds : (script : List Event) → Each (IsGiven header) script → Each (Holds header) script
  given_holds [] each = tt
  given_holds (event ∷ script) each = ((each.0.built, λ of bytes. each.0.again), given_holds script each.1)

  pub driven_holds : (script : List Event) (new old : History) → Each (IsGiven header) script → IsDriven (under header) script new old
      → Each (λ (e : Entry). Holds header e.event) new
  driven_holds script new old each driven =
      (driven_so (Holds header) (λ a. (refl, λ of bytes. event_read header (events.Space a) of (agent_range a of)))
      (λ a. (refl, λ of bytes. event_read header (events.Told a) of (agent_range a of)))
      (λ c. (refl, λ of bytes. event_read header (events.Give c) of (cloud_range c of)))
      (λ a. (refl, λ of bytes. event_read header (events.Turn a) of (agent_range a of)))
      (λ c answer. (refl, λ of bytes. event_read header (events.Say c answer) of (cloud_range c of.0, bytes)))
      (under header) script new old (given_holds script each) driven).0

  pub holding_are_done : (new old : History) → Each (λ (e : Entry). Holds header e.event) new → Each (λ (e : Entry). SaysBytes e.event) new
      → AreEvents header (new ++ old) → length (new ++ old) ≤ events_limit → AreDone header old → AreDone header (new ++ old)
  holding_are_done [] old each bytes are few done = done
  holding_are_done (e ∷ new) old each bytes are few done = (
    each.0.1 are.0 bytes.0,
    each.0.0,
    omega (arith, few),
    holding_are_done new old each.1 bytes.1 are.2 (omega (arith, few)) done,
  )

pub driven_are_done : (allows : RankFacts → ℕ → Type 0) → DrivenAreDone allows
driven_are_done allows header script new old were done =
    holding_are_done header were.header_is new old (driven_holds header were.header_is script new old were.given were.driven) were.said were.plays.events were.few done

-- What comes next can be done.
use Rattle.std.proofs.Common.{◌≡◌, ◌<◌, ◌≤◌, ℕ, ◌+◌, ◌*◌, zero, suc, List, [], ◌∷◌, ◌++◌, Bool, true, false, Option, Some, None, refl, subst, ◌⊎◌, inl, inr, arith, length}
use Rattle.std.specs.Prelude.{if◌then◌else◌, IfSome}
use Rattle.std.specs.List.{flat_map, range_with_len}
use Rattle.scfs_anchor.specs.Tree.{Each}
use Rattle.scfs_schedule.specs.Grammar.{IsEvent, IsScriptEvent}
use Rattle.scfs_schedule.specs.declared.types.Event.{Event}
use Rattle.scfs_schedule.specs.declared.types.Event.TheVariants as events
use Rattle.scfs_schedule.specs.declared.types.Header.{Header}
use Rattle.scfs_model.specs.UnitFormat.{under}
use Rattle.scfs_live.specs.Able.{CanBeNext, Fits}
use Rattle.scfs_live.specs.Driving.{Driver, agent_called, agent_work, begins_with, begun, cloud_work, next_settled, next_turn, next_within, next_work, or_anew, or_given, or_settled, round, with_work}
use Rattle.scfs_live.specs.Given.{IsWork}
use Rattle.scfs_live.specs.Waits.{Waits, answer_waits, call_waits, reply_waits, request_waits, step_waits}
use Rattle.scfs_live.specs.declared.driver.Next.{Next}
use Rattle.scfs_live.specs.declared.driver.Next.TheVariants.{Does, Hears}
use Rattle.scfs_live.specs.declared.driver.Work.{Work}
use Rattle.scfs_live.specs.declared.driver.Work.TheVariants.{Serve, Tell, TellRest, Ask, Hand, HandRest}
use Rattle.scfs_live.proofs.StoreLemmas.{IsQuiet}

-- what comes next is no cloud's answer, or a cloud is asked for one
abbrev pub IsQuietNext : Next → Type 0
IsQuietNext (Does event) = IsQuiet event
IsQuietNext (Hears c) = Unit {0}

if_cases : {X : Type 0} (b : Bool) (x y : X) (other : Option X) → (if b then Some x else other) ≡ Some y → ((b ≡ true) × (x ≡ y)) ⊎ (other ≡ Some y)
if_cases true x y other is = inl (refl, cc)
if_cases false x y other is = inr is

if_some : {X : Type 0} (b : Bool) (y : X) (o : Option X) → (if b then o else None) ≡ Some y → o ≡ Some y
if_some true y o is = is
if_some false y o is = cc

each_both : {X : Type 0} (P : X → Type 0) (xs ys : List X) → Each P xs → Each P ys → Each P (xs ++ ys)
each_both P [] ys left right = right
each_both P (x ∷ xs) ys left right = (left.0, each_both P xs ys left.1 right)

agents_fit : (n m a k : ℕ) → a + k ≤ n → Each (IsWork n m) (flat_map agent_work (range_with_len a k))
agents_fit n m a zero within = tt
agents_fit n m a (suc k) within = (omega arith, (omega arith, agents_fit n m (a + 1) k (omega arith)))

clouds_fit : (n m c k : ℕ) → c + k ≤ m → Each (IsWork n m) (flat_map cloud_work (range_with_len c k))
clouds_fit n m c zero within = tt
clouds_fit n m c (suc k) within = (omega arith, (omega arith, clouds_fit n m (c + 1) k (omega arith)))

agent_fits : (header : Header) (event : Event) → IsEvent header event → IfSome (agent_called event) (λ a. a < length header.agents)
agent_fits header (events.Call a call) fits = fits
agent_fits header other fits = tt

pub script_quiet : (event : Event) → IsScriptEvent event → IsQuiet event
script_quiet (events.Call a call) script = tt
script_quiet (events.Turn a) script = tt
script_quiet (events.Tick n) script = tt
script_quiet (events.Crash a) script = tt
script_quiet (events.Start a) script = tt
script_quiet event script = absurd script

module _ (header : Header) where
  abbrev Works : List Work → Type 0
  Works work = Each (IsWork (length header.agents) (3 * header.f + 1)) work

  round_fits : Works (round (under header))
  round_fits =
      each_both (IsWork (length header.agents) (3 * header.f + 1)) (flat_map agent_work (range_with_len 0 (length header.agents)))
      (flat_map cloud_work (range_with_len 0 (3 * header.f + 1)))
      (agents_fit (length header.agents) (3 * header.f + 1) 0 (length header.agents) (omega arith))
      (clouds_fit (length header.agents) (3 * header.f + 1) 0 (3 * header.f + 1) (omega arith))

  pub settling_fits : Fits header (begins_with (under header) None)
  settling_fits = record { given = refl; work = round_fits; called = tt }

  pub begun_fits : (event : Event) → IsEvent header event → Fits header (begun (under header) event)
  begun_fits event fits = record { given = refl; work = round_fits; called = agent_fits header event fits }

  module _ (w : Waits) where
    -- of what a round does next, and of what is left of it
    abbrev FineWork : Next × List Work → Type 0
    FineWork x = CanBeNext header w x.0 × IsQuietNext x.0 × Works x.1

    work_fits : (work : List Work) (x : Next × List Work) → Works work → next_work w work ≡ Some x → FineWork x
    work_fits [] x fits is = cc
    work_fits (Serve a ∷ rest) x fits is =
        elim (if_cases (step_waits w a) (Does (events.Space a), Tell a ∷ Serve a ∷ rest) x (next_work w rest) is) [
          | inl h ↦ subst FineWork h.1 (record { fits = fits.0; built = refl }, tt, (fits.0, fits))
          | inr h ↦ work_fits rest x fits.1 h
        ]
    work_fits (Tell a ∷ rest) x fits is =
        subst FineWork (let same : (Does (events.Told a), rest) ≡ x = cc in same) (record { fits = fits.0; built = refl }, tt, fits.1)
    work_fits (TellRest a ∷ rest) x fits is =
        elim (if_cases (reply_waits w a) (Does (events.Told a), TellRest a ∷ rest) x (next_work w rest) is) [
          | inl h ↦ subst FineWork h.1 (record { fits = fits.0; built = refl }, tt, fits)
          | inr h ↦ work_fits rest x fits.1 h
        ]
    work_fits (Ask c ∷ rest) x fits is =
        elim (if_cases (request_waits w c) (Hears c, Hand c ∷ Ask c ∷ rest) x (next_work w rest) is) [
          | inl h ↦ subst FineWork h.1 ((fits.0, h.0), tt, (fits.0, fits))
          | inr h ↦ work_fits rest x fits.1 h
        ]
    work_fits (Hand c ∷ rest) x fits is =
        subst FineWork (let same : (Does (events.Give c), rest) ≡ x = cc in same) (record { fits = fits.0; built = refl }, tt, fits.1)
    work_fits (HandRest c ∷ rest) x fits is =
        elim (if_cases (answer_waits w c) (Does (events.Give c), HandRest c ∷ rest) x (next_work w rest) is) [
          | inl h ↦ subst FineWork h.1 (record { fits = fits.0; built = refl }, tt, fits)
          | inr h ↦ work_fits rest x fits.1 h
        ]

    -- of what comes next, and of the driver then
    abbrev pub FineNext : Next × Driver → Type 0
    FineNext x = CanBeNext header w x.0 × IsQuietNext x.0 × Fits header x.1

    module _ (d : Driver) (fits : Fits header d) (x : Next × Driver) where
      step_fits : (step : Next × List Work) → FineWork step → with_work d step ≡ x → FineNext x
      step_fits step fine same = subst FineNext same (fine.0, fine.1, record { given = fits.given; work = fine.2; called = fits.called })

      turn_fits : (a turns : ℕ) → a < length header.agents → next_turn (under header) d a turns ≡ Some x → FineNext x
      turn_fits a zero there is = cc
      turn_fits a (suc turns) there is =
          let made : Next × Driver = (Does (events.Turn a), record d { work = round (under header); turns = turns }) in
          let same : made ≡ x = cc in
          subst FineNext same (record { fits = there; built = refl }, tt, record { given = fits.given; work = round_fits; called = fits.called })

      settled_fits : (called : Option ℕ) → IfSome called (λ a. a < length header.agents) → next_settled (under header) w d called ≡ Some x → FineNext x
      settled_fits None there is = cc
      settled_fits (Some a) there is = turn_fits a d.turns there (if_some (call_waits w a) x (next_turn (under header) d a d.turns) is)

      or_settled_fits : (o : Option (Next × List Work)) → next_work w (round (under header)) ≡ o → or_settled (under header) w d o ≡ Some x → FineNext x
      or_settled_fits None from is = settled_fits d.called fits.called is
      or_settled_fits (Some step) from is = step_fits step (work_fits (round (under header)) step round_fits from) (let same : with_work d step ≡ x = cc in same)

      or_anew_fits : (o : Option (Next × List Work)) → next_work w d.work ≡ o → or_anew (under header) w d o ≡ Some x → FineNext x
      or_anew_fits None from is = or_settled_fits (next_work w (round (under header))) refl is
      or_anew_fits (Some step) from is = step_fits step (work_fits d.work step fits.work from) (let same : with_work d step ≡ x = cc in same)

      pub next_fits : next_within (under header) w d ≡ Some x → FineNext x
      next_fits is =
          or_anew_fits (next_work w d.work) refl (subst (λ (o : Option Event). or_given (under header) w d o ≡ Some x) fits.given is)

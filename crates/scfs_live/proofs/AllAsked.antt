-- What all real clouds were asked, from event to event.
use Rattle.std.proofs.Common.{◌≡◌, ◌≤◌, ◌⊎◌, ⊎_elim, ℕ, List, [], ◌∷◌, ◌++◌, Some, Ok, refl, ap, ◌∙◌, sym, subst, inl, inr, arith, length}
use Rattle.std.specs.Prelude.{slice_get}
use Rattle.std.proofs.lemmas.Bool.Decides.{eqb_tells}
use Rattle.std.proofs.lemmas.Option.{slice_get_within, slice_get_cases}
use Rattle.scfs_base.specs.declared.cloud.CloudAnswer.{CloudAnswer}
use Rattle.scfs_schedule.specs.declared.types.Event.TheVariants as events
use Rattle.scfs_net.specs.Queues.{cloud_at}
use Rattle.scfs_net.specs.declared.messages.Asked.{Asked}
use Rattle.scfs_cloud.specs.declared.cloud.Exchange.{Exchange}
use Rattle.scfs_model.specs.Clouds.{net}
use Rattle.scfs_model.specs.Format.{Setup, clouds_of}
use Rattle.scfs_model.specs.History.{Entry, History}
use Rattle.scfs_live.specs.Asked.{AreAsked, IsAsked, Told, answered_oldest, exchange_at, exchanges}
use Rattle.scfs_live.specs.Hearing.{AsksOldest, AtOne}
use Rattle.scfs_live.proofs.AskedLemmas.{asked_elsewhere, asked_quiet, asked_then, asked_there, exchange_there, exchanges_then}
use Rattle.scfs_live.proofs.ExchangeLemmas.{nothing_logged, nothing_stored}
use Rattle.scfs_live.proofs.StoreLemmas.{IsQuiet, far_waits}

-- equally long lists have an item at the same places
found_too : {X : Type 0} (xs ys : List X) (c : ℕ) (x : X) → length ys ≡ length xs → slice_get xs c ≡ Some x → (y : X) × (slice_get ys c ≡ Some y)
found_too xs ys c x same there =
    elim (slice_get_cases ys c).1 [
      | inl found ↦ (found.0, found.2)
      | inr past ↦ absurd (omega (arith, slice_get_within xs c x there, past.0, same))
    ]

same_item : {X : Type 0} (xs ys : List X) (c : ℕ) (x y : X) → slice_get ys c ≡ slice_get xs c → slice_get xs c ≡ Some x → slice_get ys c ≡ Some y → x ≡ y
same_item xs ys c x y same left right = let both : Some x ≡ Some y = sym left ∙ sym same ∙ right in cc

-- where neither list can have an item at a place, they are the same there
none_there : {X : Type 0} (xs ys : List X) (c : ℕ) → length ys ≡ length xs
    → ((x y : X) → slice_get xs c ≡ Some x → slice_get ys c ≡ Some y → ⊥) → slice_get ys c ≡ slice_get xs c
none_there xs ys c same none =
    elim (slice_get_cases xs c).1 [
      | inl found ↦ absurd (let too = found_too xs ys c found.0 same found.2 in none found.0 too.0 found.2 too.1)
      | inr past ↦
          elim (slice_get_cases ys c).1 [
            | inl found ↦ absurd (omega (arith, slice_get_within ys c found.0 found.2, past.0, same))
            | inr past' ↦ past'.1 ∙ sym past.1
          ]
    ]

-- nothing was asked yet
pub are_asked_none : (s : Setup) (past : History) (clouds : List Told) → AreAsked s [] past clouds clouds
are_asked_none s past clouds = record {
  same = refl;
  each = λ c was is left right.
      let x : was ≡ is = same_item clouds clouds c was is refl left right in
      subst (λ (now : Told). IsAsked s [] past c was now) x
      (record { later = omega arith; failed = λ none. absurd none; logged = nothing_logged was.log; stored = nothing_stored was.store });
  stays = λ c none. refl;
}

parts_nil : (xs ys : List Exchange) → xs ++ ys ≡ [] → (xs ≡ []) × (ys ≡ [])
parts_nil [] ys is = (refl, is)
parts_nil (x ∷ xs) ys is = cc

-- each cloud was asked these, and then those
pub are_asked_then : (s : Setup) (new old : History) (before mid now : List Told) → AreAsked s new old before mid → (more : History)
    → AreAsked s more (new ++ old) mid now → AreAsked s (more ++ new) old before now
are_asked_then s new old before mid now p more q = record {
  same = q.same ∙ p.same;
  each = λ c was is left right.
      let m = found_too before mid c was p.same left in
      asked_then s more new old c was m.0 is (p.each c was m.0 left m.1) (q.each c m.0 is m.1 right);
  stays = λ c none.
      ⊎_elim
      (λ (nothing : exchanges s c (more ++ new) old ≡ []).
      let parts = parts_nil (exchanges s c new old) (exchanges s c more (new ++ old)) (exchanges_then s c more new old ∙ nothing) in
      q.stays c (inl parts.1) ∙ p.stays c (inl parts.0))
      (λ (far : clouds_of s ≤ c). q.stays c (inr far) ∙ p.stays c (inr far))
      none;
}

-- over one event
module _ (s : Setup) (past : History) (e : Entry) (mid : List Told) where
  -- that records nothing
  pub all_asked_quiet : IsQuiet e.event → AreAsked s (e ∷ []) past mid mid
  all_asked_quiet quiet = record {
    same = refl;
    each = λ c was is left right.
        subst (λ (now : Told). IsAsked s (e ∷ []) past c was now) (same_item mid mid c was is refl left right) (asked_quiet s past e c was quiet);
    stays = λ c none. refl;
  }

  asked_from : (q : List Asked) (c : ℕ) (answer : CloudAnswer) (was now : Told) → (cloud_at (net s past) c).requests ≡ q → e.event ≡ events.Say c answer
      → AsksOldest q (Ok answer) was now → IsAsked s (e ∷ []) past c was now
  asked_from [] c answer was now some said asks = absurd asks
  asked_from (oldest ∷ waiting) c answer was now some said asks = asked_there s past e c was now oldest waiting answer some said asks

  -- no request waits at a cloud of which its answer records nothing, or that is none of the run's
  none_waits : (q : List Asked) (c : ℕ) (answer : CloudAnswer) → answered_oldest q answer ≡ [] → q ≡ []
  none_waits [] c answer none = refl
  none_waits (oldest ∷ waiting) c answer none = cc

  module _ (d : ℕ) (answer : CloudAnswer) (said : e.event ≡ events.Say d answer) (now : List Told)
      (at : AtOne d (AsksOldest (cloud_at (net s past) d).requests (Ok answer)) mid now) where
    idle : (exchanges s d (e ∷ []) past ≡ []) ⊎ (clouds_of s ≤ d) → (cloud_at (net s past) d).requests ≡ []
    idle none =
        ⊎_elim
        (λ (nothing : exchange_at d (net s past) e.event ≡ []).
        none_waits (cloud_at (net s past) d).requests d answer
        (sym (exchange_there d (net s past) answer) ∙ sym (ap (exchange_at d (net s past)) said) ∙ nothing))
        (λ far. far_waits s past d far)
        none

    stays_there : (exchanges s d (e ∷ []) past ≡ []) ⊎ (clouds_of s ≤ d) → slice_get now d ≡ slice_get mid d
    stays_there none =
        none_there mid now d at.same
        (λ was is left right. subst (λ (q : List Asked). AsksOldest q (Ok answer) was is) (idle none) (at.there was is left right))

    -- cloud d answered its oldest request, and the event records that
    pub all_asked_there : AreAsked s (e ∷ []) past mid now
    all_asked_there = record {
      same = at.same;
      each = λ c was is left right.
          elim (eqb_tells d c) [
            | inl same ↦
                let here : d ≡ c = same.1 in
                subst (λ k. IsAsked s (e ∷ []) past k was is) here
                (asked_from (cloud_at (net s past) d).requests d answer was is refl said
                (at.there was is (subst (λ k. slice_get mid k ≡ Some was) (sym here) left) (subst (λ k. slice_get now k ≡ Some is) (sym here) right)))
            | inr differ ↦
                subst (λ (t : Told). IsAsked s (e ∷ []) past c was t)
                (same_item mid now c was is (at.others c (λ h. differ.1 (sym h))) left right)
                (asked_elsewhere s past e c was d answer said differ.1)
          ];
      stays = λ c none.
          elim (eqb_tells d c) [
            | inl same ↦
                let here : d ≡ c = same.1 in
                subst (λ k. slice_get now k ≡ slice_get mid k) here
                (stays_there (subst (λ k. (exchanges s k (e ∷ []) past ≡ []) ⊎ (clouds_of s ≤ k)) (sym here) none))
            | inr differ ↦ at.others c (λ h. differ.1 (sym h))
          ];
    }

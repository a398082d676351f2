-- The clouds that tell their stores keep step over a run.
use Rattle.std.proofs.Common.{◌≡◌, ◌≢◌, ◌⊎◌, inl, inr, ⊎_elim, ℕ, ◌<◌, ◌≤◌, ◌^◌, List, [], ◌∷◌, ◌++◌, All, Option, Some, Result, Ok, refl, ap, ◌∙◌, sym, subst, arith, length, get_or}
use Rattle.std.specs.Prelude.{slice_get}
use Rattle.std.specs.Map.{keys_of}
use Rattle.std.proofs.lemmas.Bool.Decides.{eqb_tells}
use Rattle.std.proofs.lemmas.List.Elements.{All-weaker}
use Rattle.std.proofs.lemmas.Option.{slice_get-get_or, slice_get_within}
use Rattle.scfs_base.specs.Limits.{events_limit}
use Rattle.scfs_base.specs.declared.cloud.CloudAnswer.{CloudAnswer}
use Rattle.scfs_base.specs.declared.cloud.CloudAnswer.TheVariants as answers
use Rattle.scfs_base.specs.declared.cloud.CloudRequest.{CloudRequest}
use Rattle.scfs_base.specs.declared.outside.Memory.{Memory}
use Rattle.scfs_policy.specs.declared.rank.RankFacts.{RankFacts}
use Rattle.scfs_schedule.specs.Grammar.{IsHeader}
use Rattle.scfs_schedule.specs.declared.types.Event.{Event}
use Rattle.scfs_schedule.specs.declared.types.Event.TheVariants as events
use Rattle.scfs_schedule.specs.declared.types.Header.{Header}
use Rattle.scfs_schedule.specs.declared.types.Which.TheVariants as whichs
use Rattle.scfs_net.specs.Queues.{always, answer_of, cloud_at}
use Rattle.scfs_net.specs.Store.{Objects}
use Rattle.scfs_net.specs.declared.messages.Asked.{Asked}
use Rattle.scfs_cloud.specs.Cutting.{HasShortNames, name_limit}
use Rattle.scfs_cloud.specs.declared.cloud.Exchange.{Exchange}
use Rattle.scfs_model.specs.Clouds.{net}
use Rattle.scfs_model.specs.Format.{Setup}
use Rattle.scfs_model.specs.History.{History}
use Rattle.scfs_model.specs.Lists.{first_of}
use Rattle.scfs_model.specs.UnitFormat.{under}
use Rattle.scfs_durable.specs.Named.{IsUploadName, NamesAreUploads}
use Rattle.scfs_durable.specs.Safe.{IsNameable}
use Rattle.scfs_durable.specs.Stores.{IsHonestAt, IsHonestTo, IsUpToDateAt, IsUpToDateTo, ServingIsFaithful, objects}
use Rattle.scfs_durable.proofs.Holding.{nameable_before}
use Rattle.scfs_live.specs.Asked.{AllSuit, AreAsked, IsAsked, Suits, Told, answered_oldest, exchange_at, exchanges}
use Rattle.scfs_live.specs.Driven.{answer_in}
use Rattle.scfs_live.specs.Hearing.{AsksOldest, AtOne, Heard}
use Rattle.scfs_live.specs.Stopping.{AskedNext}
use Rattle.scfs_live.specs.Stores as live
use Rattle.scfs_live.specs.declared.driver.Next.{Next}
use Rattle.scfs_live.specs.declared.driver.Next.TheVariants.{Does, Hears}
use Rattle.scfs_live.specs.declared.ending.LiveEnd.TheVariants as lives
use Rattle.scfs_live.proofs.AskedLemmas.{exchange_there}
use Rattle.scfs_top.specs.declared.stopping.RunEnd.{RunEnd}
use Rattle.scfs_top.specs.declared.stopping.RunEnd.TheVariants as runs
use Rattle.scfs_top.specs.KeepingStep.{AllKeepStep, EndsInStep, IsAlmostInStep, IsFaithful, KeepsStep}
use Rattle.scfs_top.specs.Playing.{Playing}
use Rattle.scfs_top.specs.Running.{EndsDriving}
use Rattle.scfs_top.specs.Scripting.{script_of}
use Rattle.scfs_top.proofs.RunLemmas.{nameable}
use Rattle.scfs_top.proofs.UnderwayLemmas.{Ending}

-- the laws that it rests on
pub record StoreLaws : Type 0 where
  pub names : NamesAreUploads
  pub serving : ServingIsFaithful
  pub keeps : live.StoresKeepStep
  pub comes : live.StoresComeIntoStep
  pub stays : live.StoresStayAhead
  pub once_more : live.StoresAskedOnceMore

module _ (laws : StoreLaws) (s : Setup) where
  short_names : (past : History) (c : ℕ) → IsNameable s past → HasShortNames (objects s past c)
  short_names past c few =
      All-weaker (IsUploadName s past) (λ (name : List ℕ). length name ≤ name_limit) (λ name is. let long = is.long in omega (arith, long))
      (keys_of (objects s past c)) (laws.names s past few c)

  module _ (c : ℕ) where
    -- an answer that suits what the history's cloud holds serves, or is a failure
    suits_serve : (past : History) (request : CloudRequest) (answer : CloudAnswer) → HasShortNames (objects s past c)
        → Suits (objects s past c) request answer → (answer ≡ answer_of (objects s past c) request) ⊎ (answer ≡ answers.Fail)
    suits_serve past request answers.Fail short suits = inr refl
    suits_serve past request answers.Ack short suits = inl (suits.1 short)
    suits_serve past request answers.Absent short suits = inl (suits.1 short)
    suits_serve past request (answers.Bytes bytes) short suits = inl (suits.1 short)
    suits_serve past request (answers.Names names) short suits = inl (suits.1 short)

    oldest_faithful : (past : History) (answer : CloudAnswer) (queue : List Asked) → HasShortNames (objects s past c)
        → AllSuit (objects s past c) (answered_oldest queue answer)
        → IsHonestTo s past c (first_of queue) answer × IsUpToDateTo (objects s past c) (first_of queue) (always answer)
    oldest_faithful past answer [] short suit = (tt, tt)
    oldest_faithful past answer (oldest ∷ waiting) short suit =
        laws.serving s past c oldest.body answer (suits_serve past oldest.body answer short suit.0)

    said_faithful : (past : History) (d : ℕ) (answer : CloudAnswer) → HasShortNames (objects s past c)
        → AllSuit (objects s past c) (exchange_at c (net s past) (events.Say d answer)) → d ≡ c
        → IsHonestTo s past c (first_of (cloud_at (net s past) c).requests) answer
        × IsUpToDateTo (objects s past c) (first_of (cloud_at (net s past) c).requests) (always answer)
    said_faithful past d answer short suit same =
        oldest_faithful past answer (cloud_at (net s past) c).requests short
        (subst (AllSuit (objects s past c)) (exchange_there c (net s past) answer)
        (subst (λ k. AllSuit (objects s past c) (exchange_at c (net s past) (events.Say k answer))) same suit))

    event_faithful : (past : History) (event : Event) → live.IsLiveEvent event → HasShortNames (objects s past c)
        → AllSuit (objects s past c) (exchange_at c (net s past) event) → IsHonestAt s past c event × IsUpToDateAt s past c event
    event_faithful past (events.Say d answer) is short suit =
        (λ same. (said_faithful past d answer short suit same).0, λ same. (said_faithful past d answer short suit same).1)
    event_faithful past (events.Call a call) is short suit = (tt, tt)
    event_faithful past (events.Space a) is short suit = (tt, tt)
    event_faithful past (events.Told a) is short suit = (tt, tt)
    event_faithful past (events.Give d) is short suit = (tt, tt)
    event_faithful past (events.Turn a) is short suit = (tt, tt)
    event_faithful past (events.Tick ticks) is short suit = (tt, tt)
    event_faithful past (events.Crash a) is short suit = (tt, tt)
    event_faithful past (events.Start a) is short suit = (tt, tt)
    event_faithful past event is short suit = absurd is

    -- a cloud whose recorded answers are those of the history's cloud neither lied nor was stale
    faithful : (new past : History) → IsNameable s (new ++ past) → live.AreLive new → live.Serves s c new past → IsFaithful s c new past
    faithful [] past few is serves = record { honest = tt; up_to_date = tt }
    faithful (e ∷ new) past few is serves =
        let before = nameable_before s e (new ++ past) few in
        let here = event_faithful (new ++ past) e.event is.0 (short_names (new ++ past) c before) serves.1 in
        let there = faithful new past before is.1 serves.0 in
        record { honest = (here.0, there.honest); up_to_date = (here.1, there.up_to_date) }

    -- one of which nothing is recorded answered nothing
    nothing_serves : (new past : History) → exchanges s c new past ≡ [] → live.Serves s c new past
    nothing_serves [] past none = tt
    nothing_serves (e ∷ new) past none =
        let parts = both_empty (exchanges s c new past) (exchange_at c (net s (new ++ past)) e.event) none in
        (nothing_serves new past parts.0, subst (AllSuit (objects s (new ++ past) c)) (sym parts.1) tt)
      where
        both_empty : (xs ys : List Exchange) → xs ++ ys ≡ [] → (xs ≡ []) × (ys ≡ [])
        both_empty [] ys is = (refl, is)
        both_empty (x ∷ xs) ys is = cc

    module _ (new past : History) (is_live : live.AreLive new) (few : IsNameable s (new ++ past)) where
      -- a cloud that was asked what is recorded, and then perhaps once more
      keeps_step : (end : RunEnd) (was between is : Told) → IsAsked s new past c was between
          → (live.InStep s c (new ++ past) between.store → EndsInStep end s c (new ++ past) is.store)
          → (IsAlmostInStep s c (new ++ past) between.store → IsAlmostInStep s c (new ++ past) is.store)
          → KeepsStep end s c new past was.store is.store
      keeps_step end was between is asked later_step almost = record {
        in_step = λ step.
            let k = laws.keeps s c new past was between is_live asked step in
            (faithful new past few is_live k.1, later_step k.0);
        ahead = λ first later records done ahead.
            let k = laws.comes s c new past was between first later is_live asked ahead records done in
            (faithful new past few is_live k.1, later_step k.0);
        unasked = λ none ahead.
            (faithful new past few is_live (nothing_serves new past none), almost (laws.stays s c new past was between is_live asked ahead none));
      }

  module _ (new past : History) (is_live : live.AreLive new) (few : IsNameable s (new ++ past)) where
    -- all was recorded
    recorded : (end : RunEnd) → ((c : ℕ) (store : Option Objects) → live.InStep s c (new ++ past) store → EndsInStep end s c (new ++ past) store)
        → (clouds clouds' : List Told) → AreAsked s new past clouds clouds' → AllKeepStep end s new past clouds clouds'
    recorded end steps clouds clouds' asked c was is left right =
        keeps_step c new past is_live few end was is is (asked.each c was is left right) (λ step. steps c is.store step) (λ almost. almost)

    -- a cloud was heard for what comes next, or none was
    module _ (result : Result CloudAnswer Memory) (between clouds' : List Told) (c : ℕ) (mid is : Told) (left : slice_get between c ≡ Some mid)
        (right : slice_get clouds' c ≡ Some is) where
      stayed : slice_get clouds' c ≡ slice_get between c → IsAlmostInStep s c (new ++ past) mid.store → IsAlmostInStep s c (new ++ past) is.store
      stayed same almost =
          let both : Some mid ≡ Some is = sym left ∙ sym same ∙ right in
          let one : mid ≡ is = cc in
          subst (λ (t : Told). IsAlmostInStep s c (new ++ past) t.store) one almost

      heard_almost : (next : Next) → Heard next (net s (new ++ past)) result between clouds' → IsAlmostInStep s c (new ++ past) mid.store
          → IsAlmostInStep s c (new ++ past) is.store
      heard_almost (Does event) heard almost = stayed (ap (λ (l : List Told). slice_get l c) heard) almost
      heard_almost (Hears d) heard almost =
          elim (eqb_tells d c) [
            | inl same ↦
                let at =
                subst (λ k. AtOne k (AsksOldest (cloud_at (net s (new ++ past)) k).requests result) between clouds') same.1 heard in
                laws.once_more s c (new ++ past) result mid is (at.there mid is left right) almost
            | inr differ ↦ stayed (heard.others c (λ h. differ.1 (sym h))) almost
          ]

    -- one may have been asked once more
    once_more : (end : RunEnd) → ((c : ℕ) (store : Option Objects) → IsAlmostInStep s c (new ++ past) store → EndsInStep end s c (new ++ past) store)
        → (next : Next) (result : Result CloudAnswer Memory) (clouds clouds' : List Told) → AskedNext s new past next result clouds clouds'
        → AllKeepStep end s new past clouds clouds'
    once_more end ends next result clouds clouds' asked c was is left right =
        let mid : Told = get_or asked.between c was in
        let there : slice_get asked.between c ≡ Some mid =
        slice_get-get_or asked.between c was (omega (arith, slice_get_within clouds c was left, asked.recorded.same)) in
        let almost = heard_almost result asked.between clouds' c mid is there right next asked.heard in
        keeps_step c new past is_live few end was mid is (asked.recorded.each c was mid left there) (λ step. ends c is.store (almost (inl step))) almost

module _ (laws : StoreLaws) (allows : RankFacts → ℕ → Type 0) (header : Header) (script : Playing) (new past : History) (is_live : live.AreLive new)
    (few : IsNameable (under header) (new ++ past)) (clouds clouds' : List Told) where
  asked_all : (x : RunEnd) → ((c : ℕ) (store : Option Objects) → live.InStep (under header) c (new ++ past) store → EndsInStep x (under header) c (new ++ past) store)
      → AreAsked (under header) new past clouds clouds' → AllKeepStep x (under header) new past clouds clouds'
  asked_all x steps asked = recorded laws (under header) new past is_live few x steps clouds clouds' asked

  all_keep_step : (end : RunEnd) → EndsDriving allows end header script new past clouds clouds' → AllKeepStep end (under header) new past clouds clouds'
  all_keep_step (runs.Finished count finish filled) h = asked_all (runs.Finished count finish filled) (λ c store step. step) h.2
  all_keep_step (runs.Stopped (lives.WriteFault which)) h = asked_all (runs.Stopped (lives.WriteFault which)) (λ c store step. step) h
  all_keep_step (runs.Stopped (lives.TooLarge whichs.Events)) h = asked_all (runs.Stopped (lives.TooLarge whichs.Events)) (λ c store step. step) h.2
  all_keep_step (runs.Stopped (lives.TooLarge whichs.Objects)) h =
      once_more laws (under header) new past is_live few (runs.Stopped (lives.TooLarge whichs.Objects)) (λ c store almost. almost)
      h.next (Ok (answer_in h.event)) clouds clouds' h.asked
  all_keep_step (runs.Stopped lives.Memory) h =
      ⊎_elim (λ all. asked_all (runs.Stopped lives.Memory) (λ c store step. inl step) all)
      (λ one. once_more laws (under header) new past is_live few (runs.Stopped lives.Memory) (λ c store almost. almost) one.0 one.1 clouds clouds' one.3) h
  all_keep_step (runs.Stopped (lives.TooLarge whichs.Input)) h = absurd h
  all_keep_step (runs.Stopped (lives.TooLarge whichs.Journal)) h = absurd h
  all_keep_step (runs.Stopped (lives.TooLarge whichs.Line)) h = absurd h
  all_keep_step (runs.Stopped (lives.TooLarge whichs.Out)) h = absurd h
  all_keep_step (runs.Stopped (lives.ReadFault which)) h = absurd h
  all_keep_step (runs.Stopped (lives.Bad bad)) h = absurd h
  all_keep_step (runs.Stopped (lives.Unbuilt line)) h = absurd h
  all_keep_step (runs.Stopped (lives.Differs line kept made)) h = absurd h

-- so do those of a run that was driven
pub stores_of : (laws : StoreLaws) (allows : RankFacts → ℕ → Type 0) (header : Header) (past : History) (taken : List ℕ) (j j' o o' : Option (List ℕ))
    (clouds clouds' : List Told) (end : RunEnd) → IsHeader header → (e : Ending allows header past taken j j' o o' clouds clouds' end)
    → AllKeepStep end (under header) e.new past clouds clouds'
stores_of laws allows header past taken j j' o o' clouds clouds' end is e =
    all_keep_step laws allows header (script_of taken) e.new past e.live
    (nameable header (e.new ++ past) is (let few = e.few in omega (arith, few))) clouds clouds' end e.ends

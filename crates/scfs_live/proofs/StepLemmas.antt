-- Stores in step with a history, and one ahead of it.
use Rattle.std.proofs.Common.{◌≡◌, ◌≢◌, ℕ, zero, suc, List, [], ◌∷◌, ◌++◌, Option, Some, Result, refl, ap, ◌∙◌, sym, subst, ◌⊎◌, inl, inr, ⊎_elim, get_or}
use Rattle.std.specs.Prelude.{replicate}
use Rattle.std.specs.List.Sorted.{IsStrictlySortedBy}
use Rattle.std.proofs.lemmas.Bool.Decides.{eqb_tells}
use Rattle.scfs_base.specs.declared.cloud.CloudAnswer.{CloudAnswer}
use Rattle.scfs_base.specs.declared.cloud.CloudAnswer.TheVariants as answers
use Rattle.scfs_base.specs.declared.cloud.CloudRequest.{CloudRequest}
use Rattle.scfs_base.specs.declared.outside.Memory.{Memory}
use Rattle.scfs_schedule.specs.declared.types.Event.{Event}
use Rattle.scfs_schedule.specs.declared.types.Event.TheVariants as events
use Rattle.scfs_net.specs.Queues.{Answering, CloudState, NetState, after_answer, always, answer_to, answered, asked, at_cloud, cloud_at, deferred, doubled, hiding, lost, new_cloud, objects_after, objects_with, repeated, serving, swapped, taken}
use Rattle.scfs_net.specs.Store.{Objects}
use Rattle.scfs_net.specs.declared.messages.Asked.{Asked}
use Rattle.scfs_cloud.specs.Asking.{Stores}
use Rattle.scfs_cloud.specs.InMemory.{AreOrdered}
use Rattle.scfs_cloud.specs.declared.cloud.Exchange.{Exchange}
use Rattle.scfs_cloud.proofs.StoreLemmas.{ordered-objects_with}
use Rattle.scfs_model.specs.Clouds.{moved_by, net}
use Rattle.scfs_model.specs.Format.{Setup}
use Rattle.scfs_model.specs.History.{Entry, History}
use Rattle.scfs_model.specs.Layers.{rows}
use Rattle.scfs_model.specs.Runs.{effect_after}
use Rattle.scfs_live.specs.Asked.{AllSuit, IsAsked, Stored, Suits, Told, answered_oldest, exchange_at, exchanges, objects_after_all}
use Rattle.scfs_live.specs.Hearing.{AsksOldest}
use Rattle.scfs_live.specs.Stores.{AreLive, InStep, IsLiveEvent, OneAhead, Serves, StoresAskedOnceMore, StoresComeIntoStep, StoresKeepStep, StoresStayAhead, served_oldest}
use Rattle.scfs_live.proofs.AskedLemmas.{exchange_elsewhere, exchange_quiet, exchange_there}
use Rattle.scfs_live.proofs.ExchangeLemmas.{all_suit_parts, objects_then, stored_at_most}
use Rattle.scfs_live.proofs.ServedTwice.{second_leaves, second_suits, served_twice}
use Rattle.scfs_live.proofs.StoreLemmas.{answer_leaves, asked_hold, kept_at, moved_hold, objects_at, others_leave, quiet_leaves, set_cases}
use Rattle.scfs_live.proofs.WaitingLemmas.{Waits, first_asked, live_cases, oldest_waits, waiting_at}

-- what a live event makes of what a cloud holds is what its exchange makes
module _ (s : Setup) (e : Entry) (past : History) (c : ℕ) where
  abbrev n : NetState
  n = net s past

  said_follows : (answer : CloudAnswer) (q : List Asked) → waiting_at n c ≡ q → e.event ≡ events.Say c answer
      → objects_at (net s (e ∷ past)) c ≡ objects_after_all (objects_at n c) (answered_oldest q answer)
  said_follows answer [] none is =
      moved_hold s e past c ∙ ap (λ (event : Event). objects_at (moved_by event n) c) is
      ∙ kept_at n c (answered (always answer)) c
      (ap (λ (q : List Asked). (after_answer (cloud_at n c) q (answer_to (always answer) (objects_at n c) q)).objects) none)
  said_follows answer (oldest ∷ waiting) some is = answer_leaves s e past c answer oldest waiting is some

  follows : IsLiveEvent e.event → objects_at (net s (e ∷ past)) c ≡ objects_after_all (objects_at n c) (exchange_at c n e.event)
  follows live =
      elim (live_cases e.event live) [
        | inl quiet ↦
            quiet_leaves s e past c quiet ∙ sym (ap (objects_after_all (objects_at n c)) (exchange_quiet c n e.event quiet))
        | inr said ↦
            let d = said.0 in
            let answer = said.1 in
            elim (eqb_tells d c) [
              | inl same ↦
                  let here : e.event ≡ events.Say c answer = said.2 ∙ ap (λ k. events.Say k answer) same.1 in
                  said_follows answer (waiting_at n c) refl here
                  ∙ sym (ap (objects_after_all (objects_at n c)) (ap (exchange_at c n) here ∙ exchange_there c n answer))
              | inr differ ↦
                  others_leave s e past c d answer said.2 differ.1
                  ∙ sym (ap (objects_after_all (objects_at n c)) (ap (exchange_at c n) said.2 ∙ exchange_elsewhere c d n answer differ.1))
            ]
      ]

-- and so over new events
all_follow : (s : Setup) (c : ℕ) (new past : History) → AreLive new
    → objects_at (net s (new ++ past)) c ≡ objects_after_all (objects_at (net s past) c) (exchanges s c new past)
all_follow s c [] past live = refl
all_follow s c (e ∷ new) past live =
    let last = exchange_at c (net s (new ++ past)) e.event in
    follows s e (new ++ past) c live.0
    ∙ ap (λ (o : Objects). objects_after_all o last) (all_follow s c new past live.1)
    ∙ sym (objects_then (objects_at (net s past) c) (exchanges s c new past) last)

-- answers that suit what a cloud held before are those that it gives
serves : (s : Setup) (c : ℕ) (new past : History) → AreLive new → AllSuit (objects_at (net s past) c) (exchanges s c new past) → Serves s c new past
serves s c [] past live suit = tt
serves s c (e ∷ new) past live suit =
    let last = exchange_at c (net s (new ++ past)) e.event in
    let parts = all_suit_parts (objects_at (net s past) c) (exchanges s c new past) last suit in
    (serves s c new past live.1 parts.0, subst (λ (o : Objects). AllSuit o last) (sym (all_follow s c new past live.1)) parts.1)

pub stores_keep_step : StoresKeepStep
stores_keep_step s c new past was is live asked step =
    let stored = subst (λ (o : Option Objects). Stored o is.store (exchanges s c new past)) step asked.stored in
    (stored.0 ∙ ap Some (sym (all_follow s c new past live)), serves s c new past live stored.1)

-- what the clouds of a history hold is in the order of the names
ordered_at : (n : NetState) (d : ℕ) (event : CloudState → CloudState) → ((c : ℕ) → AreOrdered (objects_at n c))
    → AreOrdered (event (cloud_at n d)).objects → (c : ℕ) → AreOrdered (objects_at (at_cloud n d event) c)
ordered_at n d event all there c =
    elim (set_cases n.clouds d c (event (cloud_at n d)) new_cloud) [
      | inl same ↦ subst (λ (x : CloudState). AreOrdered x.objects) (sym same) (all c)
      | inr same ↦ subst (λ (x : CloudState). AreOrdered x.objects) (sym same.1) there
    ]

ordered_after : (objects : Objects) (request : CloudRequest) (answer : CloudAnswer) → AreOrdered objects → AreOrdered (objects_after objects request answer)
ordered_after objects request answers.Ack ordered = ordered-objects_with objects request ordered
ordered_after objects request answers.Absent ordered = ordered
ordered_after objects request (answers.Bytes bytes) ordered = ordered
ordered_after objects request (answers.Names names) ordered = ordered
ordered_after objects request answers.Fail ordered = ordered

ordered_answered : (answering : Answering) (cloud : CloudState) (q : List Asked) → AreOrdered cloud.objects
    → AreOrdered (after_answer cloud q (answer_to answering cloud.objects q)).objects
ordered_answered answering cloud [] ordered = ordered
ordered_answered answering cloud (oldest ∷ waiting) ordered = ordered_after cloud.objects oldest.body (answering cloud.objects oldest.body) ordered

ordered_moved : (event : Event) (n : NetState) → ((c : ℕ) → AreOrdered (objects_at n c)) → (c : ℕ) → AreOrdered (objects_at (moved_by event n) c)
ordered_moved (events.Serve d) n all = ordered_at n d (answered serving) all (ordered_answered serving (cloud_at n d) (waiting_at n d) (all d))
ordered_moved (events.Hide d) n all = ordered_at n d (answered hiding) all (ordered_answered hiding (cloud_at n d) (waiting_at n d) (all d))
ordered_moved (events.Fail d) n all =
    ordered_at n d (answered (always answers.Fail)) all (ordered_answered (always answers.Fail) (cloud_at n d) (waiting_at n d) (all d))
ordered_moved (events.Say d answer) n all =
    ordered_at n d (answered (always answer)) all (ordered_answered (always answer) (cloud_at n d) (waiting_at n d) (all d))
ordered_moved (events.Give d) n all = ordered_at n d taken all (all d)
ordered_moved (events.Lose d) n all = ordered_at n d lost all (all d)
ordered_moved (events.Drop d) n all = ordered_at n d taken all (all d)
ordered_moved (events.Defer d) n all = ordered_at n d deferred all (all d)
ordered_moved (events.Swap d) n all = ordered_at n d swapped all (all d)
ordered_moved (events.Again d) n all = ordered_at n d repeated all (all d)
ordered_moved (events.Twice d) n all = ordered_at n d doubled all (all d)
ordered_moved other n all = all

new_holds : (k c : ℕ) → (get_or (replicate k new_cloud) c new_cloud).objects ≡ []
new_holds zero c = refl
new_holds (suc k) zero = refl
new_holds (suc k) (suc c) = new_holds k c

all_ordered : (s : Setup) (past : History) (c : ℕ) → AreOrdered (objects_at (net s past) c)
unfolding IsStrictlySortedBy
all_ordered s [] c = subst AreOrdered (sym (new_holds _ c)) tt
all_ordered s (e ∷ past) c =
    subst AreOrdered (sym (asked_hold (effect_after s rows past e).sent (moved_by e.event (net s past)) c))
    (ordered_moved e.event (net s past) (all_ordered s past) c)

-- what was one ahead
ahead_of : (s : Setup) (c : ℕ) (past : History) (store : Option Objects) (oldest : Asked) → Waits oldest (waiting_at (net s past) c) → OneAhead s c past store
    → store ≡ Some (objects_with (objects_at (net s past) c) oldest.body)
ahead_of s c past store oldest w ahead = ahead ∙ ap (λ (q : List Asked). Some (served_oldest (objects_at (net s past) c) q)) w.1

is_ahead : (s : Setup) (c : ℕ) (past : History) (store : Option Objects) (oldest : Asked) → Waits oldest (waiting_at (net s past) c)
    → store ≡ Some (objects_with (objects_at (net s past) c) oldest.body) → OneAhead s c past store
is_ahead s c past store oldest w is = is ∙ sym (ap (λ (q : List Asked). Some (served_oldest (objects_at (net s past) c) q)) w.1)

nothing_ahead : (s : Setup) (c : ℕ) (past : History) (store : Option Objects) → waiting_at (net s past) c ≡ [] → OneAhead s c past store → InStep s c past store
nothing_ahead s c past store none ahead = ahead ∙ ap (λ (q : List Asked). Some (served_oldest (objects_at (net s past) c) q)) none

module _ (s : Setup) (c : ℕ) (new past : History) (was is : Told) (live : AreLive new) (asked : IsAsked s new past c was is) (ahead : OneAhead s c past was.store) where
  abbrev held : Objects
  held = objects_at (net s past) c

  -- the first answer is one that the cloud in step could give, and leaves the same
  caught_up : (oldest : Asked) → Waits oldest (waiting_at (net s past) c) → (first : Exchange) (later : List Exchange) → exchanges s c new past ≡ first ∷ later
      → first.answer ≢ answers.Fail → InStep s c (new ++ past) is.store × Serves s c new past
  caught_up oldest w first later records done =
      let request : first.request ≡ oldest.body = first_asked s c new past oldest first later live records w in
      let twice : Objects = objects_with held oldest.body in
      let stored : Stored (Some twice) is.store (first ∷ later) =
      subst (λ (l : List Exchange). Stored (Some twice) is.store l) records
      (subst (λ (o : Option Objects). Stored o is.store (exchanges s c new past)) (ahead_of s c past was.store oldest w ahead) asked.stored) in
      let suits = subst (λ (r : CloudRequest). Suits twice r first.answer) request stored.1.0 in
      let same : objects_after twice first.request first.answer ≡ objects_after held first.request first.answer =
      ap (λ (r : CloudRequest). objects_after twice r first.answer) request
      ∙ second_leaves held oldest.body first.answer (all_ordered s past c) done suits
      ∙ ap (λ (r : CloudRequest). objects_after held r first.answer) (sym request) in
      let suit : AllSuit held (first ∷ later) = (
        subst (λ (r : CloudRequest). Suits held r first.answer) (sym request) (second_suits held oldest.body first.answer suits),
        subst (λ (o : Objects). AllSuit o later) same stored.1.1,
      ) in (
        stored.0 ∙ ap (λ (o : Objects). Some (objects_after_all o later)) same
            ∙ ap (λ (l : List Exchange). Some (objects_after_all held l)) (sym records) ∙ ap Some (sym (all_follow s c new past live)),
        serves s c new past live (subst (λ (l : List Exchange). AllSuit held l) (sym records) suit),
      )

  came_into_step : (q : List Asked) → waiting_at (net s past) c ≡ q → (first : Exchange) (later : List Exchange) → exchanges s c new past ≡ first ∷ later
      → first.answer ≢ answers.Fail → InStep s c (new ++ past) is.store × Serves s c new past
  came_into_step [] none first later records done = stores_keep_step s c new past was is live asked (nothing_ahead s c past was.store none ahead)
  came_into_step (oldest ∷ waiting) some first later records done = caught_up oldest (waiting, some) first later records done

  stayed_ahead : (q : List Asked) → waiting_at (net s past) c ≡ q → exchanges s c new past ≡ []
      → InStep s c (new ++ past) is.store ⊎ OneAhead s c (new ++ past) is.store
  stayed_ahead [] none nothing = inl (stores_keep_step s c new past was is live asked (nothing_ahead s c past was.store none ahead)).0
  stayed_ahead (oldest ∷ waiting) some nothing =
      let w : Waits oldest (waiting_at (net s past) c) = (waiting, some) in
      let stored : Stored (Some (objects_with held oldest.body)) is.store [] =
      subst (λ (l : List Exchange). Stored (Some (objects_with held oldest.body)) is.store l) nothing
      (subst (λ (o : Option Objects). Stored o is.store (exchanges s c new past)) (ahead_of s c past was.store oldest w ahead) asked.stored) in
      let same : objects_at (net s (new ++ past)) c ≡ held =
      all_follow s c new past live ∙ ap (objects_after_all held) nothing in
      inr (is_ahead s c (new ++ past) is.store oldest (oldest_waits s c new past oldest live nothing w)
      (stored.0 ∙ ap (λ (o : Objects). Some (objects_with o oldest.body)) (sym same)))

pub stores_come_into_step : StoresComeIntoStep
stores_come_into_step s c new past was is first later live asked ahead records done =
    came_into_step s c new past was is live asked ahead (waiting_at (net s past) c) refl first later records done

pub stores_stay_ahead : StoresStayAhead
stores_stay_ahead s c new past was is live asked ahead nothing =
    stayed_ahead s c new past was is live asked ahead (waiting_at (net s past) c) refl nothing

-- the oldest request was asked, whatever came of it
asked_more : (s : Setup) (c : ℕ) (past : History) (result : Result CloudAnswer Memory) (was is : Told) (q : List Asked) → waiting_at (net s past) c ≡ q
    → AsksOldest q result was is → InStep s c past was.store ⊎ OneAhead s c past was.store → InStep s c past is.store ⊎ OneAhead s c past is.store
asked_more s c past result was is [] none asks step = absurd asks
asked_more s c past result was is (oldest ∷ waiting) some asks step =
    let held = objects_at (net s past) c in
    let w : Waits oldest (waiting_at (net s past) c) = (waiting, some) in
    ⊎_elim
    (λ in_step.
    ⊎_elim (λ same. inl same) (λ served. inr (is_ahead s c past is.store oldest w served))
    (stored_at_most held is.store oldest.body result
    (subst (λ (o : Option Objects). Stores oldest.body o is.store result) in_step asks.asks.store)))
    (λ ahead.
    ⊎_elim (λ same. inr (is_ahead s c past is.store oldest w same))
    (λ served. inr (is_ahead s c past is.store oldest w (served ∙ ap Some (served_twice held oldest.body (all_ordered s past c)))))
    (stored_at_most (objects_with held oldest.body) is.store oldest.body result
    (subst (λ (o : Option Objects). Stores oldest.body o is.store result) (ahead_of s c past was.store oldest w ahead) asks.asks.store)))
    step

pub stores_asked_once_more : StoresAskedOnceMore
stores_asked_once_more s c past result was is asks step = asked_more s c past result was is (waiting_at (net s past) c) refl asks step

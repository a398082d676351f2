-- The oldest request that waits at a cloud stays the oldest until it is answered.
use Rattle.std.proofs.Common.{◌≡◌, ℕ, List, [], ◌∷◌, ◌++◌, refl, ap, ◌∙◌, sym, subst, ◌⊎◌, inl, inr}
use Rattle.std.proofs.lemmas.Bool.Decides.{eqb_tells}
use Rattle.scfs_base.specs.declared.cloud.CloudAnswer.{CloudAnswer}
use Rattle.scfs_base.specs.declared.cloud.CloudRequest.{CloudRequest}
use Rattle.scfs_schedule.specs.declared.types.Event.{Event}
use Rattle.scfs_schedule.specs.declared.types.Event.TheVariants as events
use Rattle.scfs_net.specs.Queues.{CloudState, NetState, always, answered, asked, at_cloud, cloud_at, new_cloud, taken}
use Rattle.scfs_net.specs.declared.messages.Asked.{Asked}
use Rattle.scfs_cloud.specs.declared.cloud.Exchange.{Exchange}
use Rattle.scfs_model.specs.Agents.{Sent}
use Rattle.scfs_model.specs.Clouds.{all_asked, asked_by, moved_by, net}
use Rattle.scfs_model.specs.Format.{Setup}
use Rattle.scfs_model.specs.History.{Entry, History}
use Rattle.scfs_model.specs.Layers.{rows}
use Rattle.scfs_model.specs.Runs.{effect_after}
use Rattle.scfs_live.specs.Asked.{answered_oldest, exchange_at, exchanges}
use Rattle.scfs_live.specs.Stores.{AreLive, IsLiveEvent}
use Rattle.scfs_live.proofs.AskedLemmas.{exchange_elsewhere, exchange_quiet, exchange_there}
use Rattle.scfs_live.proofs.StoreLemmas.{IsQuiet, set_cases}

abbrev pub waiting_at : NetState → (c : ℕ) → List Asked
waiting_at n c = (cloud_at n c).requests

-- this is the oldest request that waits
abbrev pub Waits : Asked → List Asked → Type 0
Waits oldest queue = (waiting : List Asked) × (queue ≡ oldest ∷ waiting)

asked_waits : (sent : List Sent) (n : NetState) (c : ℕ) (oldest : Asked) → Waits oldest (waiting_at n c) → Waits oldest (waiting_at (all_asked n sent) c)
asked_waits [] n c oldest w = w
asked_waits (x ∷ sent) n c oldest w =
    let there : CloudState = asked x.number x.body (cloud_at n x.cloud) in
    elim (set_cases n.clouds x.cloud c there new_cloud) [
      | inl same ↦ asked_waits sent (asked_by n x) c oldest (w.0, ap (λ (y : CloudState). y.requests) same ∙ w.1)
      | inr same ↦
          let last : Asked = record { request = x.number; body = x.body } in
          let queue : waiting_at (asked_by n x) c ≡ (oldest ∷ w.0) ++ last ∷ [] =
          ap (λ (y : CloudState). y.requests) same.1 ∙ ap (λ k. waiting_at n k ++ last ∷ []) same.0 ∙ ap (λ (q : List Asked). q ++ last ∷ []) w.1 in
          asked_waits sent (asked_by n x) c oldest (w.0 ++ last ∷ [], queue)
    ]

-- a cloud's answer, or none
pub live_cases : (event : Event) → IsLiveEvent event → IsQuiet event ⊎ ((c : ℕ) × (answer : CloudAnswer) × (event ≡ events.Say c answer))
live_cases (events.Call a call) live = inl tt
live_cases (events.Space a) live = inl tt
live_cases (events.Told a) live = inl tt
live_cases (events.Say c answer) live = inr (c, answer, refl)
live_cases (events.Give c) live = inl tt
live_cases (events.Turn a) live = inl tt
live_cases (events.Tick ticks) live = inl tt
live_cases (events.Crash a) live = inl tt
live_cases (events.Start a) live = inl tt
live_cases event live = absurd live

pub quiet_live : (event : Event) → IsQuiet event → IsLiveEvent event
quiet_live (events.Call a call) quiet = tt
quiet_live (events.Space a) quiet = tt
quiet_live (events.Told a) quiet = tt
quiet_live (events.Give c) quiet = tt
quiet_live (events.Turn a) quiet = tt
quiet_live (events.Tick ticks) quiet = tt
quiet_live (events.Crash a) quiet = tt
quiet_live (events.Start a) quiet = tt
quiet_live event quiet = absurd quiet

-- an event at one cloud that leaves its requests leaves all
kept_waiting : (n : NetState) (d : ℕ) (event : CloudState → CloudState) (c : ℕ) → (event (cloud_at n d)).requests ≡ waiting_at n d
    → waiting_at (at_cloud n d event) c ≡ waiting_at n c
kept_waiting n d event c there =
    elim (set_cases n.clouds d c (event (cloud_at n d)) new_cloud) [
      | inl same ↦ ap (λ (x : CloudState). x.requests) same
      | inr same ↦ ap (λ (x : CloudState). x.requests) same.1 ∙ there ∙ ap (waiting_at n) same.0
    ]

said_waits : (d : ℕ) (answer : CloudAnswer) (n : NetState) (c : ℕ) (oldest : Asked) → exchange_at c n (events.Say d answer) ≡ [] → Waits oldest (waiting_at n c)
    → waiting_at (moved_by (events.Say d answer) n) c ≡ waiting_at n c
said_waits d answer n c oldest none w =
    elim (eqb_tells d c) [
      | inl same ↦
          let here : exchange_at c n (events.Say c answer) ≡ [] = subst (λ k. exchange_at c n (events.Say k answer) ≡ []) same.1 none in
          let one : answered_oldest (oldest ∷ w.0) answer ≡ [] =
          ap (λ (q : List Asked). answered_oldest q answer) (sym w.1) ∙ sym (exchange_there c n answer) ∙ here in
          cc
      | inr differ ↦
          elim (set_cases n.clouds d c (answered (always answer) (cloud_at n d)) new_cloud) [
            | inl same ↦ ap (λ (x : CloudState). x.requests) same
            | inr same ↦ absurd (differ.1 same.0)
          ]
    ]

moved_waits : (event : Event) (n : NetState) (c : ℕ) (oldest : Asked) → IsLiveEvent event → exchange_at c n event ≡ [] → Waits oldest (waiting_at n c)
    → waiting_at (moved_by event n) c ≡ waiting_at n c
moved_waits (events.Call a call) n c oldest live none w = refl
moved_waits (events.Space a) n c oldest live none w = refl
moved_waits (events.Told a) n c oldest live none w = refl
moved_waits (events.Say d answer) n c oldest live none w = said_waits d answer n c oldest none w
moved_waits (events.Give d) n c oldest live none w = kept_waiting n d taken c refl
moved_waits (events.Turn a) n c oldest live none w = refl
moved_waits (events.Tick ticks) n c oldest live none w = refl
moved_waits (events.Crash a) n c oldest live none w = refl
moved_waits (events.Start a) n c oldest live none w = refl
moved_waits event n c oldest live none w = absurd live

still_waits : (s : Setup) (e : Entry) (past : History) (c : ℕ) (oldest : Asked) → IsLiveEvent e.event → exchange_at c (net s past) e.event ≡ []
    → Waits oldest (waiting_at (net s past) c) → Waits oldest (waiting_at (net s (e ∷ past)) c)
still_waits s e past c oldest live none w =
    asked_waits (effect_after s rows past e).sent (moved_by e.event (net s past)) c oldest
    (w.0, moved_waits e.event (net s past) c oldest live none w ∙ w.1)

nil_parts : (xs ys : List Exchange) → xs ++ ys ≡ [] → (xs ≡ []) × (ys ≡ [])
nil_parts [] ys is = (refl, is)
nil_parts (x ∷ xs) ys is = cc

-- while nothing is recorded of the cloud
pub oldest_waits : (s : Setup) (c : ℕ) (new past : History) (oldest : Asked) → AreLive new → exchanges s c new past ≡ []
    → Waits oldest (waiting_at (net s past) c) → Waits oldest (waiting_at (net s (new ++ past)) c)
oldest_waits s c [] past oldest live none w = w
oldest_waits s c (e ∷ new) past oldest live none w =
    let parts = nil_parts (exchanges s c new past) (exchange_at c (net s (new ++ past)) e.event) none in
    still_waits s e (new ++ past) c oldest live.0 parts.1 (oldest_waits s c new past oldest live.1 parts.0 w)

abbrev first_request : CloudRequest → List Exchange → CloudRequest
first_request other [] = other
first_request other (x ∷ later) = x.request

-- the first exchange that events record is of the request that was the oldest
said_first : (event : Event) (n : NetState) (c : ℕ) (oldest : Asked) (first : Exchange) (later : List Exchange) → IsLiveEvent event
    → exchange_at c n event ≡ first ∷ later → Waits oldest (waiting_at n c) → first.request ≡ oldest.body
said_first event n c oldest first later live is w =
    elim (live_cases event live) [
      | inl quiet ↦ (let none : [] ≡ first ∷ later = sym (exchange_quiet c n event quiet) ∙ is in cc)
      | inr said ↦
          let d = said.0 in
          let answer = said.1 in
          let at : exchange_at c n (events.Say d answer) ≡ first ∷ later = ap (exchange_at c n) (sym said.2) ∙ is in
          elim (eqb_tells d c) [
            | inl same ↦
                let here : exchange_at c n (events.Say c answer) ≡ first ∷ later = subst (λ k. exchange_at c n (events.Say k answer) ≡ first ∷ later) same.1 at in
                let one : first ∷ later ≡ answered_oldest (oldest ∷ w.0) answer =
                sym here ∙ exchange_there c n answer ∙ ap (λ (q : List Asked). answered_oldest q answer) w.1 in
                ap (first_request oldest.body) one
            | inr differ ↦ (let none : [] ≡ first ∷ later = sym (exchange_elsewhere c d n answer differ.1) ∙ at in cc)
          ]
    ]

pub first_asked : (s : Setup) (c : ℕ) (new past : History) (oldest : Asked) (first : Exchange) (later : List Exchange) → AreLive new
    → exchanges s c new past ≡ first ∷ later → Waits oldest (waiting_at (net s past) c) → first.request ≡ oldest.body
first_asked s c [] past oldest first later live is w = cc
first_asked s c (e ∷ new) past oldest first later live is w =
    by (exchanges s c new past) refl (λ (before : List Exchange) (some : exchanges s c new past ≡ first ∷ before). first_asked s c new past oldest first before live.1 some w)
  where
    by : (before : List Exchange) → exchanges s c new past ≡ before
        → ((rest : List Exchange) → exchanges s c new past ≡ first ∷ rest → first.request ≡ oldest.body) → first.request ≡ oldest.body
    by [] none earlier =
        said_first e.event (net s (new ++ past)) c oldest first later live.0
        (ap (λ (l : List Exchange). l ++ exchange_at c (net s (new ++ past)) e.event) (sym none) ∙ is)
        (oldest_waits s c new past oldest live.1 none w)
    by (x ∷ before) some earlier =
        let whole : first ∷ later ≡ x ∷ (before ++ exchange_at c (net s (new ++ past)) e.event) =
        sym is ∙ ap (λ (l : List Exchange). l ++ exchange_at c (net s (new ++ past)) e.event) some in
        let same : x ≡ first = cc in
        earlier before (some ∙ ap (λ (y : Exchange). y ∷ before) same)

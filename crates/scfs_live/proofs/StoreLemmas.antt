-- What the clouds of a history hold, and what waits for them, from event to event.
use Rattle.std.proofs.Common.{◌≡◌, ◌≢◌, ◌≤◌, ℕ, ◌+◌, ◌*◌, zero, suc, List, [], ◌∷◌, refl, ap, ◌∙◌, ◌⊎◌, inl, inr, get_or, length, length-set, arith}
use Rattle.std.specs.Prelude.{replicate}
use Rattle.std.proofs.Math.ListN.{set}
use Rattle.scfs_base.specs.declared.cloud.CloudAnswer.{CloudAnswer}
use Rattle.scfs_schedule.specs.declared.types.Event.{Event}
use Rattle.scfs_schedule.specs.declared.types.Event.TheVariants as events
use Rattle.scfs_net.specs.Queues.{CloudState, NetState, answer_to, after_answer, always, answered, asked, at_cloud, cloud_at, new_cloud, objects_after, taken}
use Rattle.scfs_net.specs.Store.{Objects}
use Rattle.scfs_net.specs.declared.messages.Asked.{Asked}
use Rattle.scfs_model.specs.Agents.{Sent}
use Rattle.scfs_model.specs.Clouds.{all_asked, asked_by, moved_by, net}
use Rattle.scfs_model.specs.Format.{Setup, clouds_of}
use Rattle.scfs_model.specs.History.{Entry, History}
use Rattle.scfs_model.specs.Layers.{rows}
use Rattle.scfs_model.specs.Runs.{effect_after}

pub set_cases : {X : Type 0} (xs : List X) (n c : ℕ) (v d : X) → (get_or (set xs n v) c d ≡ get_or xs c d) ⊎ ((n ≡ c) × (get_or (set xs n v) c d ≡ v))
set_cases [] n c v d = inl refl
set_cases (x ∷ xs) zero zero v d = inr (refl, refl)
set_cases (x ∷ xs) zero (suc c) v d = inl refl
set_cases (x ∷ xs) (suc n) zero v d = inl refl
set_cases (x ∷ xs) (suc n) (suc c) v d = elim (set_cases xs n c v d) [ inl same ↦ inl same | inr h ↦ inr (ap suc h.0, h.1) ]

-- an event that is no cloud's answer, and moves no message of a cloud but a reply that is given
abbrev pub IsQuiet : Event → Type 0
IsQuiet (events.Call a call) = Unit {0}
IsQuiet (events.Space a) = Unit {0}
IsQuiet (events.Told a) = Unit {0}
IsQuiet (events.Give c) = Unit {0}
IsQuiet (events.Turn a) = Unit {0}
IsQuiet (events.Tick n) = Unit {0}
IsQuiet (events.Crash a) = Unit {0}
IsQuiet (events.Start a) = Unit {0}
IsQuiet event = ⊥

abbrev pub objects_at : NetState → (c : ℕ) → Objects
objects_at n c = (cloud_at n c).objects

-- an event at one cloud leaves what the others hold
pub kept_at : (n : NetState) (d : ℕ) (event : CloudState → CloudState) (c : ℕ) → (event (cloud_at n d)).objects ≡ objects_at n d
    → objects_at (at_cloud n d event) c ≡ objects_at n c
kept_at n d event c there =
    elim (set_cases n.clouds d c (event (cloud_at n d)) new_cloud) [
      | inl same ↦ ap (λ (x : CloudState). x.objects) same
      | inr same ↦ ap (λ (x : CloudState). x.objects) same.1 ∙ there ∙ ap (objects_at n) same.0
    ]

pub asked_hold : (sent : List Sent) (n : NetState) (c : ℕ) → objects_at (all_asked n sent) c ≡ objects_at n c
asked_hold [] n c = refl
asked_hold (x ∷ sent) n c = asked_hold sent (asked_by n x) c ∙ kept_at n x.cloud (asked x.number x.body) c refl

quiet_holds : (event : Event) (n : NetState) (c : ℕ) → IsQuiet event → objects_at (moved_by event n) c ≡ objects_at n c
quiet_holds (events.Call a call) n c quiet = refl
quiet_holds (events.Space a) n c quiet = refl
quiet_holds (events.Told a) n c quiet = refl
quiet_holds (events.Give d) n c quiet = kept_at n d taken c refl
quiet_holds (events.Turn a) n c quiet = refl
quiet_holds (events.Tick ticks) n c quiet = refl
quiet_holds (events.Crash a) n c quiet = refl
quiet_holds (events.Start a) n c quiet = refl
quiet_holds event n c quiet = absurd quiet

module _ (s : Setup) (e : Entry) (past : History) (c : ℕ) where
  pub moved_hold : objects_at (net s (e ∷ past)) c ≡ objects_at (moved_by e.event (net s past)) c
  moved_hold = asked_hold (effect_after s rows past e).sent (moved_by e.event (net s past)) c

  -- a quiet event leaves what clouds hold
  pub quiet_leaves : IsQuiet e.event → objects_at (net s (e ∷ past)) c ≡ objects_at (net s past) c
  quiet_leaves quiet = moved_hold ∙ quiet_holds e.event (net s past) c quiet

  answer_elsewhere : (d : ℕ) (answer : CloudAnswer) (n : NetState) → d ≢ c → objects_at (at_cloud n d (answered (always answer))) c ≡ objects_at n c
  answer_elsewhere d answer n other =
      elim (set_cases n.clouds d c (answered (always answer) (cloud_at n d)) new_cloud) [
        | inl same ↦ ap (λ (x : CloudState). x.objects) same
        | inr same ↦ absurd (other same.0)
      ]

  -- an answer of another cloud too
  pub others_leave : (d : ℕ) (answer : CloudAnswer) → e.event ≡ events.Say d answer → d ≢ c → objects_at (net s (e ∷ past)) c ≡ objects_at (net s past) c
  others_leave d answer is other =
      moved_hold ∙ ap (λ (event : Event). objects_at (moved_by event (net s past)) c) is ∙ answer_elsewhere d answer (net s past) other

  pub set_there : (xs : List CloudState) (n : ℕ) (v : CloudState) (oldest : Asked) (waiting : List Asked)
      → (get_or xs n new_cloud).requests ≡ oldest ∷ waiting → get_or (set xs n v) n new_cloud ≡ v
  set_there [] n v oldest waiting some = cc
  set_there (x ∷ xs) zero v oldest waiting some = refl
  set_there (x ∷ xs) (suc n) v oldest waiting some = set_there xs n v oldest waiting some

  -- the answer of this cloud to its oldest request leaves what the request and the answer make of it
  pub answer_leaves : (answer : CloudAnswer) (oldest : Asked) (waiting : List Asked) → e.event ≡ events.Say c answer
      → (cloud_at (net s past) c).requests ≡ oldest ∷ waiting
      → objects_at (net s (e ∷ past)) c ≡ objects_after (objects_at (net s past) c) oldest.body answer
  answer_leaves answer oldest waiting is some =
      let n = net s past in
      let cloud = cloud_at n c in
      moved_hold ∙ ap (λ (event : Event). objects_at (moved_by event n) c) is
      ∙ ap (λ (x : CloudState). x.objects) (set_there n.clouds c (answered (always answer) cloud) oldest waiting some)
      ∙ ap (λ (q : List Asked). (after_answer cloud q (answer_to (always answer) cloud.objects q)).objects) some

-- a history has as many clouds as the run, and nothing waits at any other
past_end : {X : Type 0} (xs : List X) (c : ℕ) (d : X) → length xs ≤ c → get_or xs c d ≡ d
past_end [] c d past = refl
past_end (x ∷ xs) zero d past = absurd (omega (arith, past))
past_end (x ∷ xs) (suc c) d past = past_end xs c d (omega (arith, past))

all_alike : {X : Type 0} (n : ℕ) (x : X) → length (replicate n x) ≡ n
all_alike zero x = refl
all_alike (suc n) x = ap suc (all_alike n x)

asked_length : (sent : List Sent) (n : NetState) → length (all_asked n sent).clouds ≡ length n.clouds
asked_length [] n = refl
asked_length (x ∷ sent) n = asked_length sent (asked_by n x) ∙ length-set n.clouds x.cloud _

moved_length : (n : NetState) (event : Event) → length (moved_by event n).clouds ≡ length n.clouds
moved_length n (events.Serve c) = length-set n.clouds c _
moved_length n (events.Hide c) = length-set n.clouds c _
moved_length n (events.Fail c) = length-set n.clouds c _
moved_length n (events.Say c answer) = length-set n.clouds c _
moved_length n (events.Give c) = length-set n.clouds c _
moved_length n (events.Lose c) = length-set n.clouds c _
moved_length n (events.Drop c) = length-set n.clouds c _
moved_length n (events.Defer c) = length-set n.clouds c _
moved_length n (events.Swap c) = length-set n.clouds c _
moved_length n (events.Again c) = length-set n.clouds c _
moved_length n (events.Twice c) = length-set n.clouds c _
moved_length n other = refl

net_length : (s : Setup) (past : History) → length (net s past).clouds ≡ clouds_of s
net_length s [] = all_alike (3 * s.header.f + 1) new_cloud
net_length s (e ∷ past) =
    asked_length (effect_after s rows past e).sent (moved_by e.event (net s past)) ∙ moved_length (net s past) e.event ∙ net_length s past

pub far_waits : (s : Setup) (past : History) (c : ℕ) → clouds_of s ≤ c → (cloud_at (net s past) c).requests ≡ []
far_waits s past c far =
    ap (λ (x : CloudState). x.requests) (past_end (net s past).clouds c new_cloud (omega (arith, net_length s past, far)))

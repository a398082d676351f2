-- What holds of each answer that a cloud made holds of each that an agent is given.
use Rattle.std.proofs.Common.{◌≡◌, ℕ, zero, suc, ◌+◌, ◌*◌, List, [], ◌∷◌, take, drop, get_or, set, replicate, refl, sym, ap, subst, Option, Some, ◌⊎◌, inl, inr}
use Rattle.scfs_base.specs.declared.cloud.CloudAnswer.{CloudAnswer}
use Rattle.scfs_base.specs.declared.cloud.CloudAnswer.TheVariants as answers
use Rattle.scfs_schedule.specs.declared.types.Event.{Event}
use Rattle.scfs_schedule.specs.declared.types.Event.TheVariants as events
use Rattle.scfs_net.specs.declared.messages.Asked.{Asked}
use Rattle.scfs_net.specs.declared.messages.Given.{Given}
use Rattle.scfs_net.specs.Queues.{CloudState, NetState, Answering, new_cloud, cloud_at, at_cloud, net_answered, net_did, answer_to, after_answer, asked, answered, serving, hiding, always, lost, taken, deferred, swapped, repeated, doubled}
use Rattle.scfs_model.specs.Lists.{first_of}
use Rattle.scfs_model.specs.Format.{Setup}
use Rattle.scfs_model.specs.History.{Message, Of_answer, Entry, History}
use Rattle.scfs_model.specs.Layers.{rows}
use Rattle.scfs_model.specs.Agents.{Sent}
use Rattle.scfs_model.specs.Events.{Place, Cloud_has, Request_answered, place_of}
use Rattle.scfs_model.specs.Runs.{effect_after}
use Rattle.scfs_model.specs.Clouds.{moved_by, asked_by, all_asked, net, did_message, reply_message, message_of, IsServed}
use Rattle.scfs_laws.proofs.Lists.{Each, each-append, each-moved}

set_cases : {X : Type 0} (xs : List X) (n c : ℕ) (v d : X) → (get_or (set xs n v) c d ≡ get_or xs c d) ⊎ ((n ≡ c) × (get_or (set xs n v) c d ≡ v))
set_cases [] n c v d = inl refl
set_cases (x ∷ xs) zero zero v d = inr (refl, refl)
set_cases (x ∷ xs) zero (suc c) v d = inl refl
set_cases (x ∷ xs) (suc n) zero v d = inl refl
set_cases (x ∷ xs) (suc n) (suc c) v d = elim (set_cases xs n c v d) [ inl same ↦ inl same | inr h ↦ inr (ap suc h.0, h.1) ]

each_drop : {X : Type 0} (P : X → Type 0) (xs : List X) → Each P xs → Each P (drop 1 xs)
each_drop P [] h = tt
each_drop P (x ∷ xs) h = h.1

each_take : {X : Type 0} (P : X → Type 0) (xs : List X) → Each P xs → Each P (take 1 xs)
each_take P [] h = tt
each_take P (x ∷ xs) h = (h.0, tt)

new_at : (n c : ℕ) → get_or (replicate n new_cloud) c new_cloud ≡ new_cloud
new_at zero c = refl
new_at (suc n) zero = refl
new_at (suc n) (suc c) = new_at n c

module _ (P : (c : ℕ) → CloudAnswer → Type 0) where
  -- it holds of the answer in a message
  abbrev pub IsOf : (c : ℕ) → Option Message → Type 0
  IsOf c (Some (Of_answer request answer)) = P c answer
  IsOf c other = Unit {0}

  -- of the answer that an event makes
  abbrev pub IsMade : Option Message → Place → Type 0
  IsMade message (Cloud_has c Request_answered) = IsOf c message
  IsMade message other = Unit {0}

  abbrev pub AreMade : History → Type 0
  AreMade past = Each (λ (e : Entry). IsMade e.message (place_of e.event)) past

  abbrev IsReply : (c : ℕ) → Given → Type 0
  IsReply c given = P c given.answer

  -- of the replies that wait at each cloud
  abbrev AreReplies : NetState → Type 0
  AreReplies net = (c : ℕ) → Each (IsReply c) (cloud_at net c).replies

  module _ (net : NetState) (h : AreReplies net) where
    -- where an event at a cloud leaves it so
    kept_at : (n : ℕ) (event : CloudState → CloudState) → Each (IsReply n) (event (cloud_at net n)).replies → AreReplies (at_cloud net n event)
    kept_at n event there c =
        elim (set_cases net.clouds n c (event (cloud_at net n)) new_cloud) [
          | inl same ↦ subst (λ (cloud : CloudState). Each (IsReply c) cloud.replies) (sym same) (h c)
          | inr same ↦ subst (λ (cloud : CloudState). Each (IsReply c) cloud.replies) (sym same.1)
              (subst (λ k. Each (IsReply k) (event (cloud_at net n)).replies) same.0 there)
        ]

    answer_kept : (c : ℕ) (how : Answering) (cloud : CloudState) (waiting : List Asked) → Each (IsReply c) cloud.replies
        → IsOf c (did_message (answer_to how cloud.objects waiting))
        → Each (IsReply c) (after_answer cloud waiting (answer_to how cloud.objects waiting)).replies
    answer_kept c how cloud [] k made = k
    answer_kept c how cloud (oldest ∷ waiting) k made =
        each-append (IsReply c) cloud.replies ((record { request = oldest.request; answer = how cloud.objects oldest.body }) ∷ []) k (made, tt)

    made_kept : (c : ℕ) (how : Answering) (message : Option Message) → message ≡ did_message (net_did how net c) → IsOf c message
        → AreReplies (net_answered how net c)
    made_kept c how message is made =
        kept_at c (answered how) (answer_kept c how (cloud_at net c) (cloud_at net c).requests (h c) (subst (IsOf c) is made))

    moved_kept : (event : Event) (message : Option Message) → message ≡ message_of net event → IsMade message (place_of event)
        → AreReplies (moved_by event net)
    moved_kept (events.Serve c) message is made = made_kept c serving message is made
    moved_kept (events.Hide c) message is made = made_kept c hiding message is made
    moved_kept (events.Fail c) message is made = made_kept c (always answers.Fail) message is made
    moved_kept (events.Say c answer) message is made = made_kept c (always answer) message is made
    moved_kept (events.Give c) message is made = kept_at c taken (each_drop (IsReply c) (cloud_at net c).replies (h c))
    moved_kept (events.Lose c) message is made = kept_at c lost (h c)
    moved_kept (events.Drop c) message is made = kept_at c taken (each_drop (IsReply c) (cloud_at net c).replies (h c))
    moved_kept (events.Defer c) message is made = kept_at c deferred (h c)
    moved_kept (events.Swap c) message is made =
        kept_at c swapped (each-moved (IsReply c) (cloud_at net c).replies (h c))
    moved_kept (events.Again c) message is made = kept_at c repeated (h c)
    moved_kept (events.Twice c) message is made =
        let replies = (cloud_at net c).replies in
        kept_at c doubled (each-append (IsReply c) replies (take 1 replies) (h c) (each_take (IsReply c) replies (h c)))
    moved_kept other message is made = h

  all_kept : (sent : List Sent) (net : NetState) → AreReplies net → AreReplies (all_asked net sent)
  all_kept [] net h = h
  all_kept (x ∷ sent) net h = all_kept sent (asked_by net x) (kept_at net h x.cloud (asked x.number x.body) (h x.cloud))

  replies_made : (s : Setup) (past : History) → IsServed s past → AreMade past → AreReplies (net s past)
  replies_made s [] served made = λ c.
      subst (λ (cloud : CloudState). Each (IsReply c) cloud.replies) (sym (new_at (3 * s.header.f + 1) c)) tt
  replies_made s (e ∷ past) served made =
      all_kept (effect_after s rows past e).sent (moved_by e.event (net s past))
      (moved_kept (net s past) (replies_made s past served.1 made.1) e.event e.message served.0 made.0)

  oldest_is : (c : ℕ) (replies : List Given) → Each (IsReply c) replies → IsOf c (reply_message (first_of replies))
  oldest_is c [] h = tt
  oldest_is c (given ∷ replies) h = h.0

  -- of the answer that is given after a history
  pub given_made : (s : Setup) (past : History) (c : ℕ) (message : Option Message) → IsServed s past → AreMade past
      → message ≡ message_of (net s past) (events.Give c) → IsOf c message
  given_made s past c message served made is =
      subst (IsOf c) (sym is) (oldest_is c (cloud_at (net s past) c).replies (replies_made s past served made c))

-- What one real cloud was asked, from event to event.
use Rattle.std.proofs.Common.{◌≡◌, ◌≢◌, ◌≤◌, ◌⊎◌, ⊎_elim, ℕ, List, [], ◌∷◌, ◌++◌, Ok, refl, ap, ◌∙◌, sym, subst, inl, inr, arith, append_assoc, append-nil}
use Rattle.std.proofs.lemmas.Bool.{eq-eqb}
use Rattle.std.proofs.lemmas.Bool.Decides.{eqb_tells}
use Rattle.scfs_base.specs.Outside.{Rose}
use Rattle.scfs_base.specs.declared.cloud.CloudAnswer.{CloudAnswer}
use Rattle.scfs_base.specs.declared.cloud.CloudAnswer.TheVariants as answers
use Rattle.scfs_schedule.specs.declared.types.Event.{Event}
use Rattle.scfs_schedule.specs.declared.types.Event.TheVariants as events
use Rattle.scfs_net.specs.Queues.{NetState, cloud_at}
use Rattle.scfs_net.specs.declared.messages.Asked.{Asked}
use Rattle.scfs_cloud.specs.declared.cloud.Exchange.{Exchange}
use Rattle.scfs_model.specs.Clouds.{net}
use Rattle.scfs_model.specs.Format.{Setup}
use Rattle.scfs_model.specs.History.{Entry, History}
use Rattle.scfs_live.specs.Asked.{IsAsked, Logged, RecordsFail, Stored, Told, answered_oldest, exchange_at, exchanges}
use Rattle.scfs_live.specs.Hearing.{AsksAs}
use Rattle.scfs_live.proofs.EdgeLemmas.{rose_since}
use Rattle.scfs_live.proofs.ExchangeLemmas.{logged_one, logged_then, nothing_logged, nothing_stored, stored_one, stored_then}
use Rattle.scfs_live.proofs.StoreLemmas.{IsQuiet}

rose_still : (a b c : ℕ) → Rose a b → b ≤ c → Rose a c
rose_still a b c r h = omega arith

-- the cloud of an exchange
pub exchange_there : (c : ℕ) (n : NetState) (answer : CloudAnswer) → exchange_at c n (events.Say c answer) ≡ answered_oldest (cloud_at n c).requests answer
exchange_there c n answer = let same = eq-eqb c c refl in rw same

pub exchange_elsewhere : (c d : ℕ) (n : NetState) (answer : CloudAnswer) → d ≢ c → exchange_at c n (events.Say d answer) ≡ []
exchange_elsewhere c d n answer other = elim (eqb_tells d c) [ inl same ↦ absurd (other same.1) | inr differ ↦ let no = differ.0 in rw no ]

pub exchange_quiet : (c : ℕ) (n : NetState) (event : Event) → IsQuiet event → exchange_at c n event ≡ []
exchange_quiet c n (events.Call a call) quiet = refl
exchange_quiet c n (events.Space a) quiet = refl
exchange_quiet c n (events.Told a) quiet = refl
exchange_quiet c n (events.Give d) quiet = refl
exchange_quiet c n (events.Turn a) quiet = refl
exchange_quiet c n (events.Tick ticks) quiet = refl
exchange_quiet c n (events.Crash a) quiet = refl
exchange_quiet c n (events.Start a) quiet = refl
exchange_quiet c n event quiet = absurd quiet

pub no_failure : (event : Event) (c : ℕ) (answer : CloudAnswer) → IsQuiet event → event ≡ events.Say c answer → ⊥
no_failure event c answer quiet is = subst IsQuiet is quiet

-- what new events behind others record of a cloud
pub exchanges_then : (s : Setup) (c : ℕ) (more new old : History) → exchanges s c new old ++ exchanges s c more (new ++ old) ≡ exchanges s c (more ++ new) old
exchanges_then s c [] new old = append-nil (exchanges s c new old)
exchanges_then s c (e ∷ more) new old =
    sym (append_assoc (exchanges s c new old) (exchanges s c more (new ++ old)) (exchange_at c (net s (more ++ (new ++ old))) e.event))
    ∙ ap (λ (l : List Exchange). l ++ exchange_at c (net s (more ++ (new ++ old))) e.event) (exchanges_then s c more new old)
    ∙ ap (λ (h : History). exchanges s c (more ++ new) old ++ exchange_at c (net s h) e.event) (sym (append_assoc more new old))

fails_then : (c : ℕ) (more new : History) → RecordsFail c (more ++ new) → RecordsFail c more ⊎ RecordsFail c new
fails_then c [] new fails = inr fails
fails_then c (e ∷ more) new fails = ⊎_elim (λ here. inl (inl here)) (λ there. ⊎_elim (λ x. inl (inr x)) (λ y. inr y) (fails_then c more new there)) fails

-- a cloud that was asked what new events record, and then what others behind them do
pub asked_then : (s : Setup) (more new old : History) (c : ℕ) (was m is : Told) → IsAsked s new old c was m → IsAsked s more (new ++ old) c m is
    → IsAsked s (more ++ new) old c was is
asked_then s more new old c was m is p q = record {
  later = omega (arith, p.later, q.later);
  failed = λ records.
      ⊎_elim (λ x. rose_since was.faults m.faults is.faults p.later (q.failed x)) (λ y. rose_still was.faults m.faults is.faults (p.failed y) q.later)
      (fails_then c more new records);
  logged =
      subst (λ (l : List Exchange). Logged was.log is.log l) (exchanges_then s c more new old)
      (logged_then was.log m.log is.log (exchanges s c new old) (exchanges s c more (new ++ old)) p.logged q.logged);
  stored =
      subst (λ (l : List Exchange). Stored was.store is.store l) (exchanges_then s c more new old)
      (stored_then was.store m.store is.store (exchanges s c new old) (exchanges s c more (new ++ old)) p.stored q.stored);
}

-- one cloud over one event
module _ (s : Setup) (past : History) (e : Entry) (c : ℕ) (was : Told) where
  -- of which nothing is recorded
  pub asked_nothing : exchange_at c (net s past) e.event ≡ [] → (e.event ≡ events.Say c answers.Fail → ⊥) → IsAsked s (e ∷ []) past c was was
  asked_nothing none done = record {
    later = omega arith;
    failed = λ fails. ⊎_elim (λ here. absurd (done here)) (λ none. absurd none) fails;
    logged = subst (λ (l : List Exchange). Logged was.log was.log l) (sym none) (nothing_logged was.log);
    stored = subst (λ (l : List Exchange). Stored was.store was.store l) (sym none) (nothing_stored was.store);
  }

  pub asked_quiet : IsQuiet e.event → IsAsked s (e ∷ []) past c was was
  asked_quiet quiet = asked_nothing (exchange_quiet c (net s past) e.event quiet) (λ is. no_failure e.event c answers.Fail quiet is)

  pub asked_elsewhere : (d : ℕ) (answer : CloudAnswer) → e.event ≡ events.Say d answer → d ≢ c → IsAsked s (e ∷ []) past c was was
  asked_elsewhere d answer is other =
      asked_nothing (ap (exchange_at c (net s past)) is ∙ exchange_elsewhere c d (net s past) answer other)
      (λ fails. other (let both : events.Say d answer ≡ events.Say c answers.Fail = sym is ∙ fails in cc))

  -- its answer is recorded
  pub asked_there : (now : Told) (oldest : Asked) (waiting : List Asked) (answer : CloudAnswer) → (cloud_at (net s past) c).requests ≡ oldest ∷ waiting
      → e.event ≡ events.Say c answer → AsksAs oldest.body (Ok answer) was now → IsAsked s (e ∷ []) past c was now
  asked_there now oldest waiting answer some is x =
      let one : exchange_at c (net s past) e.event ≡ answered_oldest (oldest ∷ waiting) answer =
      ap (exchange_at c (net s past)) is ∙ exchange_there c (net s past) answer ∙ ap (λ (q : List Asked). answered_oldest q answer) some in
      record {
        later = x.asks.counted;
        failed = λ fails.
            ⊎_elim (λ here. x.asks.failed (let both : events.Say c answer ≡ events.Say c answers.Fail = sym is ∙ here in cc)) (λ none. absurd none) fails;
        logged = subst (λ (l : List Exchange). Logged was.log now.log l) (sym one) (logged_one was.log now.log oldest.body answer x.asks.log);
        stored =
            subst (λ (l : List Exchange). Stored was.store now.store l) (sym one)
            (stored_one was.store now.store oldest.body answer x.asks.kept x.asks.store);
      }

-- A rank rule that has one answer for each of the facts makes one history of the same events.
use Rattle.std.proofs.Common.{◌≡◌, ℕ, List, [], ◌∷◌, ◌++◌, refl, ap, ◌∙◌, sym, subst, Option, append-nil}
use Rattle.scfs_policy.specs.declared.rank.RankFacts.{RankFacts}
use Rattle.scfs_schedule.specs.declared.types.Event.{Event}
use Rattle.scfs_schedule.specs.declared.types.Header.{Header}
use Rattle.scfs_schedule.specs.declared.types.Which.TheVariants as whichs
use Rattle.scfs_model.specs.Clouds.{IsServed, message_of, net}
use Rattle.scfs_model.specs.Format.{Setup}
use Rattle.scfs_model.specs.History.{Entry, History, Message, events_then}
use Rattle.scfs_model.specs.Layers.{rows}
use Rattle.scfs_model.specs.Runs.{Answers, Happens, IsRanked, actual, effect_after}
use Rattle.scfs_model.specs.States.{effect}
use Rattle.scfs_model.specs.UnitFormat.{under}
use Rattle.scfs_world.specs.Happening.{IsPlayed}
use Rattle.scfs_live.specs.declared.ending.LiveEnd.{LiveEnd}
use Rattle.scfs_live.specs.declared.ending.LiveEnd.TheVariants as ends
use Rattle.scfs_live.specs.RunAgain.{DiffersAgain, EndsLeft, GoesAgain, HasOneAnswer, IsOutside, OneRuleReopens, TooLargeAgain, events_of, ranks_of}
use Rattle.scfs_live.specs.Reopening.{Walk}
use Rattle.scfs_live.specs.Keeping.{whole_lines}
use Rattle.scfs_live.specs.TooLarge.{entry_after}
use Rattle.scfs_live.proofs.PlayedLemmas.{happens_before, same_history, served_before}
use Rattle.scfs_live.proofs.RankedLemmas.{effect_asks}

module _ (allows : RankFacts → ℕ → Type 0) (is_one : HasOneAnswer allows) (s : Setup) where
  one_answer : (asked : List RankFacts) (ranks ranks' : List ℕ) → Answers allows asked ranks → Answers allows asked ranks' → ranks ≡ ranks'
  one_answer [] [] [] h h' = refl
  one_answer [] [] (y ∷ ys) h h' = absurd h'
  one_answer [] (x ∷ xs) ys h h' = absurd h
  one_answer (f ∷ asked) [] ys h h' = absurd h
  one_answer (f ∷ asked) (x ∷ xs) [] h h' = absurd h'
  one_answer (f ∷ asked) (x ∷ xs) (y ∷ ys) h h' =
      ap (λ r. r ∷ xs) (is_one.one f x y h.0 h'.0) ∙ ap (λ rs. y ∷ rs) (one_answer asked xs ys h.2 h'.2)

  -- what an event with this message asks, where the rank rule answers so
  abbrev asked_after : History → Event → Option Message → (ranks : List ℕ) → List RankFacts
  asked_after past event message ranks =
      (effect s rows (actual s past) event message (record { now = (actual s past).clock; ranks = ranks })).ranked

  -- the answers in one event behind one history
  pub same_answers : (past : History) (x y : Entry) → x.event ≡ y.event → x.message ≡ y.message
      → Answers allows (effect_after s rows past x).ranked x.ranks → Answers allows (effect_after s rows past y).ranked y.ranks → x.ranks ≡ y.ranks
  same_answers past x y event message h h' =
      let state = actual s past in
      let asked : asked_after past x.event x.message x.ranks ≡ asked_after past y.event y.message y.ranks =
      effect_asks s rows state.clock x.ranks y.ranks state x.event x.message
      ∙ ap (λ (e : Event). asked_after past e x.message y.ranks) event ∙ ap (λ (m : Option Message). asked_after past y.event m y.ranks) message in
      one_answer (asked_after past y.event y.message y.ranks) x.ranks y.ranks (subst (λ (l : List RankFacts). Answers allows l x.ranks) asked h) h'

  -- the answers in all events
  pub same_ranks : (a b : History) → Happens s a → Happens s b → IsServed s a → IsServed s b → IsRanked s allows a → IsRanked s allows b
      → events_of a ≡ events_of b → ranks_of a ≡ ranks_of b
  same_ranks [] [] h h' v v' r r' same = refl
  same_ranks [] (y ∷ b) h h' v v' r r' same = cc
  same_ranks (x ∷ a) [] h h' v v' r r' same = cc
  same_ranks (x ∷ a) (y ∷ b) h h' v v' r r' same =
      let events : events_of a ≡ events_of b = cc in
      let event : x.event ≡ y.event = cc in
      let others : ranks_of a ≡ ranks_of b = same_ranks a b h.1 h'.1 v.1 v'.1 r.1 r'.1 events in
      let before : a ≡ b = same_history s a b h.1 h'.1 v.1 v'.1 events others in
      let message : x.message ≡ y.message =
      v.0 ∙ ap (λ (p : History). message_of (net s p) x.event) before ∙ ap (message_of (net s b)) event ∙ sym v'.0 in
      let answers = subst (λ (p : History). Answers allows (effect_after s rows p x).ranked x.ranks) before r.0 in
      ap (λ rs. rs ∷ ranks_of a) (same_answers b x y event message answers r'.0) ∙ ap (λ (rs : List (List ℕ)). y.ranks ∷ rs) others

  pub ranked_before : (new old : History) → IsRanked s allows (new ++ old) → IsRanked s allows old
  ranked_before [] old h = h
  ranked_before (e ∷ new) old h = ranked_before new old h.1

module _ (allows : RankFacts → ℕ → Type 0) (is_one : HasOneAnswer allows) (header : Header) (past : History) (plays : IsPlayed allows header past) where
  abbrev s : Setup
  s = under header

  -- a history of the first old events
  module _ (new old later : History) (first : past ≡ later ++ old) (played : IsPlayed allows header new) (same : events_of new ≡ events_of old) where
    first_ranks : ranks_of new ≡ ranks_of old
    first_ranks =
        same_ranks allows is_one s new old played.happens (happens_before s later old (subst (λ (h : History). Happens s h) first plays.happens)) played.served
        (served_before s later old (subst (λ (h : History). IsServed s h) first plays.served)) played.ranked
        (ranked_before allows is_one s later old (subst (λ (h : History). IsRanked s allows h) first plays.ranked)) same

    first_entries : new ≡ old
    first_entries =
        same_history s new old played.happens (happens_before s later old (subst (λ (h : History). Happens s h) first plays.happens)) played.served
        (served_before s later old (subst (λ (h : History). IsServed s h) first plays.served)) same first_ranks

  pub same_place : (lines : List (List ℕ)) (place : Walk) (again : GoesAgain header past lines place) → IsPlayed allows header place.past
      → place.past ≡ again.whole
  same_place lines place again played = first_entries place.past again.whole again.later again.first played again.same

  never_differs : (lines : List (List ℕ)) (number : ℕ) (kept made : List ℕ) → DiffersAgain allows header past lines number kept made → ⊥
  never_differs lines number kept made d =
      let again = d.goes.again in
      d.otherwise (first_ranks d.goes.place.past again.whole again.later again.first d.goes.plays again.same)

  never_too_large : (lines : List (List ℕ)) → TooLargeAgain allows header past lines → ⊥
  never_too_large lines t =
      let again = t.goes.again in
      let new = t.goes.place.past in
      let old = again.whole in
      let next = t.next in
      let others = first_ranks new old again.later again.first t.goes.plays again.same in
      let same = first_entries new old again.later again.first t.goes.plays again.same in
      let served = served_before s t.comes (next ∷ old) (subst (λ (h : History). IsServed s h) t.behind plays.served) in
      let ranked = ranked_before allows is_one s t.comes (next ∷ old) (subst (λ (h : History). IsRanked s allows h) t.behind plays.ranked) in
      let answers = subst (λ (h : History). Answers allows (effect_after s rows h (entry_after s h next.event t.ranks)).ranked t.ranks) same t.answers in
      let answer : t.ranks ≡ next.ranks = same_answers allows is_one s old (entry_after s old next.event t.ranks) next refl (sym served.0) answers ranked.0 in
      t.otherwise (ap (λ rs. rs ∷ ranks_of new) answer ∙ ap (λ (rs : List (List ℕ)). next.ranks ∷ rs) others)

  module _ (text : List ℕ) (before after : Option (List ℕ)) where
    pub outside : (end : LiveEnd) → EndsLeft allows header past text before after end → IsOutside end
    outside (ends.WriteFault whichs.Journal) e = tt
    outside (ends.ReadFault whichs.Journal) e = tt
    outside ends.Memory e = tt
    outside (ends.Differs number kept made) e = never_differs (whole_lines text) number kept made e.1
    outside (ends.TooLarge whichs.Objects) e = never_too_large (whole_lines text) e.1
    outside end e = e

-- events in order, and the newest first

abbrev back : List Event → List Event → List Event
back [] rest = rest
back (event ∷ events) rest = back events (event ∷ rest)

back_then : (past : History) (events rest : List Event) → back (events_then past events) rest ≡ back events (events_of past ++ rest)
back_then [] events rest = refl
back_then (e ∷ past) events rest = back_then past (e.event ∷ events) rest

same_events : (past past' : History) → events_then past [] ≡ events_then past' [] → events_of past ≡ events_of past'
same_events past past' same =
    sym (append-nil (events_of past)) ∙ sym (back_then past [] []) ∙ ap (λ (x : List Event). back x []) same ∙ back_then past' [] [] ∙ append-nil (events_of past')

one_history : (allows : RankFacts → ℕ → Type 0) (header : Header) (past past' : History) → HasOneAnswer allows → IsPlayed allows header past
    → IsPlayed allows header past' → events_then past [] ≡ events_then past' [] → past ≡ past'
one_history allows header past past' is_one plays plays' same =
    first_entries allows is_one header past' plays' past past' [] refl plays (same_events past past' same)

pub one_rule_reopens : (allows : RankFacts → ℕ → Type 0) → OneRuleReopens allows
one_rule_reopens allows = record {
  history = λ header past past' is_one plays plays' same. one_history allows header past past' is_one plays plays' same;
  world = λ header past text before after world is_one plays r. same_place allows is_one header past plays (whole_lines text) r.place r.again r.plays;
  unwritten = λ header past text before after is_one plays r. same_place allows is_one header past plays (whole_lines text) r.place r.again r.plays;
  end = λ header past text before after end is_one plays e. outside allows is_one header past plays text before after end e;
}

-- A turn of an open that reads the clouds.
use Rattle.std.proofs.Common.{◌≡◌, ℕ, ◌+◌, ◌-◌, ◌<◌, ◌≤◌, List, [], ◌∷◌, length, Bool, true, false, cond, Option, Some, None, refl, sym, ap, ◌∙◌, arith}
use Rattle.std.specs.Prelude.{◌==◌, ◌||◌, ◌&&◌, not, nat_lt, if◌then◌else◌, filter, option_map}
use Rattle.std.specs.List.{list_any}
use Rattle.std.proofs.lemmas.Bool.{eqb-true}
use Rattle.std.proofs.lemmas.Bool.Decides.{nat_tests}
use Rattle.scfs_quorum_read.specs.Reading.{is_among}
use Rattle.scfs_quorum_read.specs.Tracking.{Tracker, turn_taken, turn_comes_to, ends_at}
use Rattle.scfs_quorum_read.specs.declared.steps.TurnStep.TheVariants as turn_steps
use Rattle.scfs_model.specs.Asked as requests
use Rattle.scfs_model.specs.Layers.{Row, rows}
use Rattle.scfs_model.specs.Agents.{Agent, Opening}
use Rattle.scfs_model.specs.Opens.{reads, asks_gets, gives_up, open_turns}
use Rattle.scfs_model.specs.Next.{Next, Asks, Gives_up}
use Rattle.scfs_agent.specs.State.{AgentState, setup}
use Rattle.scfs_agent.specs.Views.{asked_of, opening_of, reading_of, turns_left}
use Rattle.scfs_agent.specs.Keeping.{IsFetch, IsFetchAsking}
use Rattle.scfs_agent.specs.declared.work.Fetch.{Fetch}

any_filter_by : (p : ℕ → Bool) (c x : ℕ) (b d : Bool) (rest kept : Bool) → (x == c) ≡ b → p x ≡ d → kept ≡ (p c && rest)
    → (if d then b || kept else kept) ≡ (p c && (b || rest))
any_filter_by p c x true true rest kept e f h =
    let same : p c ≡ true = ap p (sym (eqb-true x c e)) ∙ f in ap (λ (t : Bool). t && true) (sym same)
any_filter_by p c x true false rest kept e f h =
    let same : p c ≡ false = ap p (sym (eqb-true x c e)) ∙ f in h ∙ ap (λ (t : Bool). t && rest) same ∙ ap (λ (t : Bool). t && true) (sym same)
any_filter_by p c x false true rest kept e f h = h
any_filter_by p c x false false rest kept e f h = h

any_cond : (d : Bool) (x c : ℕ) (xs : List ℕ) → list_any (λ other. other == c) (cond d (x ∷ xs) xs)
    ≡ (if d then (x == c) || list_any (λ other. other == c) xs else list_any (λ other. other == c) xs)
any_cond true x c xs = refl
any_cond false x c xs = refl

any_filter : (p : ℕ → Bool) (c : ℕ) (xs : List ℕ) → list_any (λ other. other == c) (filter p xs) ≡ (p c && list_any (λ other. other == c) xs)
any_filter p c [] = none (p c) where
  none : (b : Bool) → false ≡ (b && false)
  none true = refl
  none false = refl
any_filter p c (x ∷ xs) =
    any_cond (p x) x c (filter p xs)
    ∙ any_filter_by p c x (x == c) (p x) (list_any (λ other. other == c) xs) (list_any (λ other. other == c) (filter p xs)) refl refl
    (any_filter p c xs)

-- what was asked before, and what is asked now, are all
all_of : (g a o : Bool) → (g ≡ true → o ≡ true) → (a ≡ true → g ≡ true) → (g || (not a && o)) ≡ o
all_of true a o h k = sym (h refl)
all_of false true true h k = k refl
all_of false true false h k = refl
all_of false false o h k = refl

or-false : (a : Bool) → (a || false) ≡ a
or-false true = refl
or-false false = refl

module _ (f : ℕ) (fetch : Fetch) (is : IsFetch f fetch) where
  abbrev t : Tracker
  t = fetch.tracker

  abbrev wanted : List ℕ
  wanted = filter (λ c. not (is_among c t.pieces)) t.reading.order

  abbrev taken : Fetch
  taken = record fetch { tracker = turn_taken t }

  left_by : (o : Option ℕ) → ends_at o (length t.pieces) ≡ turn_steps.Again → 1 ≤ turns_left o → turns_left o ≤ 8
      → (1 ≤ turns_left (option_map (λ n. n - 1) o)) × (turns_left (option_map (λ n. n - 1) o) ≤ 8)
  left_by None e first last = absurd (omega (arith, first))
  left_by (Some n) e first last = by (nat_lt 1 n) refl e where
    by : (b : Bool) → nat_lt 1 n ≡ b → (if b then turn_steps.Again else turn_steps.Spent (length t.pieces)) ≡ turn_steps.Again
        → (1 ≤ n - 1) × (n - 1 ≤ 8)
    by true l e =
        let more : 1 < n = grind (arith, nat_tests) in
        let few : n ≤ 8 = last in (omega (arith, more), omega (arith, few))
    by false l e = cc

  -- a turn that is not the last asks the clouds that gave no good answer
  pub turn_asking : turn_comes_to t ≡ turn_steps.Again → IsFetchAsking f taken wanted
  turn_asking again = record {
    reading = is.reading;
    clouds = is.clouds;
    size = is.size;
    row = is.row;
    few = is.few;
    sized = is.sized;
    first = (left_by t.left again is.first is.last).0;
    last = (left_by t.left again is.first is.last).1;
    asked = λ c.
        let was : Bool = list_any (λ (x : requests.Asked). x.cloud == c) (asked_of fetch.gets) in
        ap (λ (b : Bool). was || b) (any_filter (λ d. not (is_among d t.pieces)) c t.reading.order)
        ∙ all_of was (is_among c t.pieces) (list_any (λ other. other == c) t.reading.order)
        (λ e. is.within c (sym (is.asked c) ∙ or-false was ∙ e))
        (λ e. sym (or-false was) ∙ is.asked c ∙ is.good c e);
    within = λ c e. e;
    good = λ c e. is.within c (is.good c e);
  }

module _ (a : AgentState) (agent : Agent Row) (fetch : Fetch) (is : IsFetch a.header.f fetch) where
  abbrev tr : Tracker
  tr = fetch.tracker

  abbrev came : ℕ → Opening Row
  came n = record (opening_of fetch) { reading = record (reading_of fetch) { turns = n } }

  abbrev all : List ℕ
  all = filter (λ c. not (is_among c tr.pieces)) tr.reading.order

  abbrev next : (left : ℕ) → Next (List ℕ)
  next left = if (8 - left) + 1 == 8 then Gives_up (length tr.pieces) else Asks all

  again_by : (o : Option ℕ) → ends_at o (length tr.pieces) ≡ turn_steps.Again → 1 ≤ turns_left o → turns_left o ≤ 8
      → reads (setup a) rows a.no agent (came ((8 - turns_left o) + 1)) (next (turns_left o))
      ≡ asks_gets (setup a) rows a.no agent (came (8 - turns_left (option_map (λ n. n - 1) o))) all
  again_by None e first last = absurd (omega (arith, first))
  again_by (Some n) e first last = by (nat_lt 1 n) refl e where
    by : (b : Bool) → nat_lt 1 n ≡ b → (if b then turn_steps.Again else turn_steps.Spent (length tr.pieces)) ≡ turn_steps.Again
        → reads (setup a) rows a.no agent (came ((8 - n) + 1)) (next n) ≡ asks_gets (setup a) rows a.no agent (came (8 - (n - 1))) all
    by true l e =
        let more : 1 < n = grind (arith, nat_tests) in
        let few : n ≤ 8 = last in
        let other : ((8 - n) + 1 == 8) ≡ false = grind (arith, nat_tests) in
        let turns : (8 - n) + 1 ≡ 8 - (n - 1) = omega (arith, more, few) in
        ap (λ (b : Bool). reads (setup a) rows a.no agent (came ((8 - n) + 1)) (if b then Gives_up (length tr.pieces) else Asks all)) other
        ∙ ap (λ (k : ℕ). asks_gets (setup a) rows a.no agent (came k) all) turns
    by false l e = cc

  pub turn_again : turn_comes_to tr ≡ turn_steps.Again
      → open_turns (setup a) rows a.no agent (opening_of fetch)
      ≡ asks_gets (setup a) rows a.no agent (opening_of (record fetch { tracker = turn_taken tr })) all
  turn_again again = again_by tr.left again is.first is.last

  spent_by : (o : Option ℕ) (good : ℕ) → ends_at o (length tr.pieces) ≡ turn_steps.Spent good → 1 ≤ turns_left o
      → reads (setup a) rows a.no agent (came ((8 - turns_left o) + 1)) (next (turns_left o))
      ≡ gives_up (setup a) rows a.no agent (opening_of fetch) good
  spent_by None good e first = cc
  spent_by (Some n) good e first = by (nat_lt 1 n) refl e where
    by : (b : Bool) → nat_lt 1 n ≡ b → (if b then turn_steps.Again else turn_steps.Spent (length tr.pieces)) ≡ turn_steps.Spent good
        → reads (setup a) rows a.no agent (came ((8 - n) + 1)) (next n) ≡ gives_up (setup a) rows a.no agent (opening_of fetch) good
    by true l e = cc
    by false l e =
        let some : 1 ≤ n = first in
        let one : n ≡ 1 = grind (arith, nat_tests) in
        let last : ((8 - n) + 1 == 8) ≡ true = ap (λ (k : ℕ). (8 - k) + 1 == 8) one in
        let many : length tr.pieces ≡ good = cc in
        ap (λ (b : Bool). reads (setup a) rows a.no agent (came ((8 - n) + 1)) (if b then Gives_up (length tr.pieces) else Asks all)) last
        ∙ ap (gives_up (setup a) rows a.no agent (opening_of fetch)) many

  pub turn_spent : (good : ℕ) → turn_comes_to tr ≡ turn_steps.Spent good
      → open_turns (setup a) rows a.no agent (opening_of fetch) ≡ gives_up (setup a) rows a.no agent (opening_of fetch) good
  turn_spent good spent = spent_by tr.left good spent is.first

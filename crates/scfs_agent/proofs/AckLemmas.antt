-- The clouds that acknowledged an upload, as a list.
use Rattle.std.proofs.Common.{◌≡◌, ◌≢◌, ℕ, ◌+◌, ◌-◌, ◌*◌, ◌<◌, ◌≤◌, zero, suc, List, [], ◌∷◌, length, Bool, true, false, cond, refl, sym, ap, ◌∙◌, subst, arith}
use Rattle.std.specs.Prelude.{◌==◌, ◌||◌, ◌&&◌, not, nat_lt, nat_le, filter, if◌then◌else◌}
use Rattle.std.specs.FinSet as set
use Rattle.std.specs.Cmp.{unsigned_tied}
use Rattle.std.proofs.lemmas.Cmp.{nat_cmp_total}
use Rattle.std.specs.Ordering.{nat_cmp}
use Rattle.std.specs.List.{All, range_with_len}
use Rattle.std.proofs.lemmas.Bool.{eqb-true, eqb-false, eq-eqb}
use Rattle.std.proofs.lemmas.Bool.Decides.{nat_tests}
use Rattle.std.proofs.lemmas.List.Elements.{All-nil, All-cons, All-head, All-tail, All-weaker, filter_agree}
use Rattle.scfs_quorum_write.specs.Marks.{Clouds}
use Rattle.scfs_quorum_write.specs.Acks.{Acks, clouds_of, with_ack, count_of, is_complete, progress, no_acks}
use Rattle.scfs_quorum_write.specs.declared.progress.Progress.{Progress}
use Rattle.scfs_quorum_write.specs.declared.progress.Progress.TheVariants as progresses
use Rattle.scfs_base.specs.declared.naming.RequestNo.{RequestNo}
use Rattle.scfs_base.specs.declared.cloud.CloudAnswer.{CloudAnswer}
use Rattle.scfs_model.specs.Lists.{is_in, below, put_by_number}
use Rattle.scfs_model.specs.Asked.{is_answer_to}
use Rattle.scfs_model.specs.Layers.{Row}
use Rattle.scfs_model.specs.Next.{Next, Goes_on, Has}
use Rattle.scfs_model.specs.Storing.{is_ack, store_on}
use Rattle.scfs_model.specs.Agents.{Agent, Reaction}
use Rattle.scfs_model.specs.Agents as machine
use Rattle.scfs_model.specs.Closes.{stores, upload_hears, with_storing}
use Rattle.scfs_agent.specs.State.{AgentState, setup}
use Rattle.scfs_agent.specs.Views.{acked_next, asked_of, acked_of, storing_of, upload_of, closed_of, row_of}
use Rattle.scfs_agent.specs.Asking.{MayClose}
use Rattle.scfs_agent.specs.Keeping.{IsUpload}
use Rattle.scfs_agent.specs.declared.work.Asked.{Asked}
use Rattle.scfs_agent.specs.declared.work.Upload.{Upload}
use Rattle.scfs_agent.proofs.CloudLists.{all_below}

eqb_false : (n m : ℕ) → n ≢ m → (n == m) ≡ false
eqb_false n m other = by (n == m) refl where
  by : (b : Bool) → (n == m) ≡ b → b ≡ false
  by true e = absurd (other (eqb-true n m e))
  by false e = refl

lt_true : (n m : ℕ) → n < m → nat_lt n m ≡ true
lt_true n m h = grind (arith, nat_tests)

lt_false : (n m : ℕ) → m ≤ n → nat_lt n m ≡ false
lt_false n m h = grind (arith, nat_tests)

-- before all that are above it
put_first : (c : ℕ) (xs : List ℕ) → All (λ x. c < x) xs → put_by_number c xs ≡ c ∷ xs
put_first c [] h = refl
put_first c (x ∷ xs) h = ap (λ (b : Bool). if b then c ∷ x ∷ xs else x ∷ put_by_number c xs) (lt_true c x (All-head (λ x. c < x) x xs h))

above_by : (c : ℕ) (b : Bool) (x : ℕ) (xs : List ℕ) → c < x → All (λ y. c < y) xs → All (λ y. c < y) (cond b (x ∷ xs) xs)
above_by c true x xs l h = All-cons (λ y. c < y) x xs l h
above_by c false x xs l h = h

above : (test : ℕ → Bool) (c a n : ℕ) → c < a → All (λ y. c < y) (filter test (range_with_len a n))
above test c a zero l = All-nil (λ y. c < y)
above test c a (suc n) l = above_by c (test a) a (filter test (range_with_len (a + 1) n)) l (above test c (a + 1) n (omega arith))

module _ (test : ℕ → Bool) (c : ℕ) where
  abbrev or_this : ℕ → Bool
  or_this d = (d == c) || test d

  same_above : (a n : ℕ) → c < a → filter or_this (range_with_len a n) ≡ filter test (range_with_len a n)
  same_above a zero l = refl
  same_above a (suc n) l =
      ap (λ (b : Bool). cond (b || test a) (a ∷ filter or_this (range_with_len (a + 1) n)) (filter or_this (range_with_len (a + 1) n)))
      (eqb_false a c (λ e. omega arith))
      ∙ ap (λ (rest : List ℕ). cond (test a) (a ∷ rest) rest) (same_above (a + 1) n (omega arith))

  abbrev Puts : (a n : ℕ) → Type 0
  Puts a n = put_by_number c (filter test (range_with_len a n)) ≡ filter or_this (range_with_len a n)

  put_here : (a n : ℕ) → a ≡ c → test a ≡ false → Puts a (suc n)
  put_here a n here unmarked =
      let rest = range_with_len (a + 1) n in
      ap (λ (b : Bool). put_by_number c (cond b (a ∷ filter test rest) (filter test rest))) unmarked
      ∙ put_first c (filter test rest) (above test c (a + 1) n (omega arith))
      ∙ ap (λ (k : ℕ). k ∷ filter test rest) (sym here)
      ∙ ap (λ (xs : List ℕ). a ∷ xs) (sym (same_above (a + 1) n (omega arith)))
      ∙ ap (λ (b : Bool). cond (b || test a) (a ∷ filter or_this rest) (filter or_this rest)) (sym (eq-eqb a c here))

  put_later_by : (b : Bool) (a n : ℕ) → a < c → Puts (a + 1) n
      → put_by_number c (cond b (a ∷ filter test (range_with_len (a + 1) n)) (filter test (range_with_len (a + 1) n)))
      ≡ cond b (a ∷ filter or_this (range_with_len (a + 1) n)) (filter or_this (range_with_len (a + 1) n))
  put_later_by true a n l rest =
      let xs = filter test (range_with_len (a + 1) n) in
      ap (λ (b : Bool). if b then c ∷ a ∷ xs else a ∷ put_by_number c xs) (lt_false c a (omega arith)) ∙ ap (λ (ys : List ℕ). a ∷ ys) rest
  put_later_by false a n l rest = rest

  put_later : (a n : ℕ) → a < c → Puts (a + 1) n → Puts a (suc n)
  put_later a n l rest =
      put_later_by (test a) a n l rest
      ∙ ap (λ (b : Bool). cond (b || test a) (a ∷ filter or_this (range_with_len (a + 1) n)) (filter or_this (range_with_len (a + 1) n)))
      (sym (eqb_false a c (λ e. omega arith)))

  puts_by : (b : Bool) (a n : ℕ) → (a == c) ≡ b → a ≤ c → test c ≡ false → (a < c → Puts (a + 1) n) → Puts a (suc n)
  puts_by true a n e low unmarked rest = let same : a ≡ c = eqb-true a c e in put_here a n same (ap test same ∙ unmarked)
  puts_by false a n e low unmarked rest =
      let other : a ≢ c = eqb-false a c e in
      let less : a < c = omega arith in put_later a n less (rest less)

  puts : (a n : ℕ) → a ≤ c → c < a + n → test c ≡ false → Puts a n
  puts a zero low high unmarked = absurd (omega arith)
  puts a (suc n) low high unmarked =
      puts_by (a == c) a n refl low unmarked (λ less. puts (a + 1) n (omega arith) (omega arith) unmarked)

  not_in_by : (b : Bool) (a : ℕ) (kept : List ℕ) → c < a → is_in c kept ≡ false → is_in c (cond b (a ∷ kept) kept) ≡ false
  not_in_by true a kept l rest = ap (λ (b : Bool). b || is_in c kept) (eqb_false c a (λ e. omega arith)) ∙ rest
  not_in_by false a kept l rest = rest

  not_in : (a n : ℕ) → c < a → is_in c (filter test (range_with_len a n)) ≡ false
  not_in a zero l = refl
  not_in a (suc n) l = not_in_by (test a) a (filter test (range_with_len (a + 1) n)) l (not_in (a + 1) n (omega arith))

  in_here : (a n : ℕ) → c ≡ a → (b : Bool) → is_in c (cond b (a ∷ filter test (range_with_len (a + 1) n)) (filter test (range_with_len (a + 1) n)))
      ≡ b
  in_here a n same true = ap (λ (b : Bool). b || is_in c (filter test (range_with_len (a + 1) n))) (eq-eqb c a same)
  in_here a n same false = not_in (a + 1) n (omega arith)

  in_later : (a n : ℕ) → c ≢ a → (b : Bool)
      → is_in c (cond b (a ∷ filter test (range_with_len (a + 1) n)) (filter test (range_with_len (a + 1) n)))
      ≡ is_in c (filter test (range_with_len (a + 1) n))
  in_later a n other true = ap (λ (b : Bool). b || is_in c (filter test (range_with_len (a + 1) n))) (eqb_false c a other)
  in_later a n other false = refl

  is_in_by : (b : Bool) (a n : ℕ) → (c == a) ≡ b → a ≤ c → (a < c → is_in c (filter test (range_with_len (a + 1) n)) ≡ test c)
      → is_in c (filter test (range_with_len a (suc n))) ≡ test c
  is_in_by true a n e low rest = let same : c ≡ a = eqb-true c a e in in_here a n same (test a) ∙ ap test (sym same)
  is_in_by false a n e low rest =
      let other : c ≢ a = eqb-false c a e in
      let less : a < c = omega arith in in_later a n other (test a) ∙ rest less

  is_in-filter : (a n : ℕ) → a ≤ c → c < a + n → is_in c (filter test (range_with_len a n)) ≡ test c
  is_in-filter a zero low high = absurd (omega arith)
  is_in-filter a (suc n) low high =
      is_in_by (c == a) a n refl low (λ less. is_in-filter (a + 1) n (omega arith) (omega arith))

length-put_by : (b : Bool) (c x : ℕ) (xs : List ℕ) → length (put_by_number c xs) ≡ length xs + 1
    → length (if b then c ∷ x ∷ xs else x ∷ put_by_number c xs) ≡ suc (length xs) + 1
length-put_by true c x xs h = omega arith
length-put_by false c x xs h = omega arith

length-put : (c : ℕ) (xs : List ℕ) → length (put_by_number c xs) ≡ length xs + 1
length-put c [] = omega arith
length-put c (x ∷ xs) = length-put_by (nat_lt c x) c x xs (length-put c xs)

filter_same_by : (b c : Bool) (x : ℕ) (xs ys : List ℕ) → b ≡ c → xs ≡ ys → cond b (x ∷ xs) xs ≡ cond c (x ∷ ys) ys
filter_same_by b c x xs ys e f = cc

-- two tests that agree on a list
pub filter_same : (p q : ℕ → Bool) (xs : List ℕ) → All (λ x. p x ≡ q x) xs → filter p xs ≡ filter q xs
filter_same p q [] h = refl
filter_same p q (x ∷ xs) h =
    filter_same_by (p x) (q x) x (filter p xs) (filter q xs) (All-head (λ x. p x ≡ q x) x xs h)
    (filter_same p q xs (All-tail (λ x. p x ≡ q x) x xs h))

no_filter : (p : ℕ → Bool) (xs : List ℕ) → ((x : ℕ) → p x ≡ false) → filter p xs ≡ []
no_filter p [] none = refl
no_filter p (x ∷ xs) none = ap (λ (b : Bool). cond b (x ∷ filter p xs) (filter p xs)) (none x) ∙ no_filter p xs none

-- at first no cloud has acknowledged
pub acked_none : (f : ℕ) → acked_of (no_acks f 1) ≡ []
acked_none f = no_filter (set.contains (set.empty {R = nat_cmp})) (below (3 * f + 1)) (set.contains-empty nat_cmp)

pub count_none : (f : ℕ) → count_of (no_acks f 1) ≡ length (acked_of (no_acks f 1))
count_none f = set.len-empty nat_cmp ∙ ap length (sym (acked_none f))

-- acknowledgements by their parts, and of one part
abbrev with_parts : ℕ → List Clouds → Acks
with_parts f parts = record { f = f; parts = parts }

abbrev of_part : ℕ → Clouds → Acks
of_part f p = with_parts f (p ∷ [])

in_acked : (x : Acks) (c : ℕ) → c < 3 * x.f + 1 → is_in c (acked_of x) ≡ set.contains (clouds_of x 0) c
in_acked x c l = is_in-filter (set.contains (clouds_of x 0)) c 0 (3 * x.f + 1) (omega arith) (omega arith)

module _ (f : ℕ) (p : Clouds) where
  abbrev acks : Acks
  acks = of_part f p

  abbrev more : (c : ℕ) → Acks
  more c = of_part f (set.insert p c)

  acked_more : (c : ℕ) → c < 3 * f + 1 → set.contains p c ≡ false → acked_of (more c) ≡ put_by_number c (acked_of acks)
  acked_more c l new =
      filter_agree (set.contains (set.insert p c)) (or_this (set.contains p) c)
      (λ q. set.contains-insert nat_cmp_total p c q ∙ ap (λ (b : Bool). b || set.contains p q) (unsigned_tied q c)) (below (3 * f + 1))
      ∙ sym (puts (set.contains p) c 0 (3 * f + 1) (omega arith) (omega arith) new)

  same_acks : (c : ℕ) → set.contains p c ≡ true → more c ≡ acks
  same_acks c old =
      ap (of_part f)
      (set.same_set nat_cmp_total set.nat_cmp-IsAntisymmetric (set.insert p c) p (λ q.
      set.contains-insert nat_cmp_total p c q ∙ ap (λ (b : Bool). b || set.contains p q) (unsigned_tied q c) ∙ by q (q == c) refl)) where
        by : (q : ℕ) (b : Bool) → (q == c) ≡ b → ((q == c) || set.contains p q) ≡ set.contains p q
        by q true e = ap (λ (b : Bool). b || set.contains p q) e ∙ sym (ap (set.contains p) (eqb-true q c e) ∙ old)
        by q false e = ap (λ (b : Bool). b || set.contains p q) e

  abbrev IsCounted : Acks → Type 0
  IsCounted x = count_of x ≡ length (acked_of x)

  counted_new : (c : ℕ) → c < 3 * f + 1 → set.contains p c ≡ false → IsCounted acks → set.len (set.insert p c) ≡ length (acked_of acks) + 1
  counted_new c l new was =
      set.len-insert nat_cmp_total p c ∙ ap (λ (b : Bool). cond b (set.len p) (set.len p + 1)) new ∙ ap (λ (n : ℕ). n + 1) was

  counted_by : (c : ℕ) (b : Bool) → set.contains p c ≡ b → c < 3 * f + 1 → IsCounted acks → IsCounted (more c)
  counted_by c true e l was = subst IsCounted (sym (same_acks c e)) was
  counted_by c false e l was =
      counted_new c l e was ∙ sym (ap length (acked_more c l e) ∙ length-put c (acked_of acks))

done_by : (e n : ℕ) (many : ℕ) (b : Bool) → (n + 1 == e) ≡ b
    → acked_next (if not (nat_le e n) && nat_le e (n + 1) then progresses.Done else progresses.Counted many) ≡ (if b then Has tt else Goes_on)
done_by e n many true is =
    let last : n + 1 ≡ e = eqb-true (n + 1) e is in
    let before : nat_le e n ≡ false = grind (arith, nat_tests) in
    let after : nat_le e (n + 1) ≡ true = grind (arith, nat_tests) in
    ap (λ (a : Bool). acked_next (if not a && nat_le e (n + 1) then progresses.Done else progresses.Counted many)) before
    ∙ ap (λ (a : Bool). acked_next (if a then progresses.Done else progresses.Counted many)) after
done_by e n many false is = by (nat_le e n) refl where
  by : (a : Bool) → nat_le e n ≡ a → acked_next (if not a && nat_le e (n + 1) then progresses.Done else progresses.Counted many) ≡ Goes_on
  by true l = refl
  by false l =
      let other : n + 1 ≢ e = eqb-false (n + 1) e is in
      let after : nat_le e (n + 1) ≡ false = grind (arith, nat_tests) in
      ap (λ (a : Bool). acked_next (if a then progresses.Done else progresses.Counted many)) after

-- acknowledgements of one part
on_parts : (f : ℕ) (P : Acks → Type 0) → ((p : Clouds) → P (of_part f p)) → (parts : List Clouds) → length parts ≡ 1
    → P (with_parts f parts)
on_parts f P one [] e = absurd (omega (arith, e))
on_parts f P one (p ∷ []) e = one p
on_parts f P one (p ∷ q ∷ parts) e = absurd (omega (arith, e))

on_acks : (f : ℕ) (P : Acks → Type 0) → ((p : Clouds) → P (of_part f p)) → (x : Acks) → x.f ≡ f → length x.parts ≡ 1 → P x
on_acks f P one x same e =
    let full : with_parts f x.parts ≡ x = ap (λ (n : ℕ). with_parts n x.parts) (sym same) in
    subst P full (on_parts f P one x.parts e)

pub part_more : (f : ℕ) (x : Acks) (c : ℕ) → x.f ≡ f → length x.parts ≡ 1 → length (with_ack x c 0).parts ≡ 1
part_more f x c = λ same part. on_acks f (λ (y : Acks). length (with_ack y c 0).parts ≡ 1) (λ p. refl) x same part

pub counted_more : (f : ℕ) (x : Acks) (c : ℕ) → x.f ≡ f → length x.parts ≡ 1 → c < 3 * f + 1 → count_of x ≡ length (acked_of x)
    → count_of (with_ack x c 0) ≡ length (acked_of (with_ack x c 0))
counted_more f x c = λ same part l.
    on_acks f (λ (y : Acks). count_of y ≡ length (acked_of y) → count_of (with_ack y c 0) ≡ length (acked_of (with_ack y c 0)))
    (λ p was. counted_by f p c (set.contains p c) refl l was) x same part

-- the clouds that did not acknowledge it
pub missing_of : (x : Acks) → filter (λ c. not (set.contains (clouds_of x 0) c)) (below (3 * x.f + 1))
    ≡ filter (λ c. not (is_in c (acked_of x))) (below (3 * x.f + 1))
missing_of x =
    filter_same _ _ (below (3 * x.f + 1))
    (All-weaker (λ c. c < 3 * x.f + 1) _ (λ c l. ap not (sym (in_acked x c l))) (below (3 * x.f + 1)) (all_below (3 * x.f + 1)))

module _ (a : AgentState) (agent : Agent Row) (upload : Upload) (inputs : ℕ) (is : IsUpload a.no a.agent.incarnation a.header.f inputs upload) where
  abbrev with_acks : Acks → Upload
  with_acks x = record upload { acks = x }

  module _ (c : ℕ) (l : c < 3 * a.header.f + 1) (request : RequestNo) (answer : CloudAnswer)
      (mine : (is_ack answer && is_answer_to (asked_of upload.puts) c request) ≡ true) where
    abbrev Same : Acks → Type 0
    Same x =
        count_of x ≡ length (acked_of x)
        → stores (setup a) a.no agent (closed_of upload) (upload_of (with_acks (with_ack x c 0))) (acked_next (progress x c 0))
        ≡ upload_hears (setup a) a.no agent (closed_of upload) (upload_of (with_acks x)) c request answer

    -- an acknowledgement of its, by whether its cloud is new
    as_new : (x : Acks) (b : Bool) → is_in c (acked_of x) ≡ b
        → upload_hears (setup a) a.no agent (closed_of upload) (upload_of (with_acks x)) c request answer
        ≡ (if not b
        then stores (setup a) a.no agent (closed_of upload) (with_storing (upload_of (with_acks x)) (record (storing_of (with_acks x)) {
          acked =
              put_by_number c (acked_of x);
        }))
        (store_on (setup a) (storing_of (with_acks x)))
        else stores (setup a) a.no agent (closed_of upload) (upload_of (with_acks x)) Goes_on)
    as_new x b e =
        let either : Bool → Reaction Row = λ t. if t
        then stores (setup a) a.no agent (closed_of upload) (with_storing (upload_of (with_acks x)) (record (storing_of (with_acks x)) {
          acked =
              put_by_number c (acked_of x);
        }))
        (store_on (setup a) (storing_of (with_acks x)))
        else stores (setup a) a.no agent (closed_of upload) (upload_of (with_acks x)) Goes_on in
        ap either (ap (λ (t : Bool). t && not (is_in c (acked_of x))) mine ∙ ap not e)

    same_by : (p : Clouds) (b : Bool) → set.contains p c ≡ b → Same (of_part a.header.f p)
    same_by p true e = λ was.
        ap (λ (x : Acks). stores (setup a) a.no agent (closed_of upload) (upload_of (with_acks x)) (acked_next (progress (acks a.header.f p) c 0)))
        (same_acks a.header.f p c e)
        ∙ ap (λ (t : Bool). stores (setup a) a.no agent (closed_of upload) (upload_of (with_acks (acks a.header.f p)))
        (acked_next (if t then progresses.Already
        else if not (is_complete (acks a.header.f p)) && is_complete (more a.header.f p c) then progresses.Done
        else progresses.Counted (count_of (more a.header.f p c))))) e
        ∙ sym (as_new (acks a.header.f p) true (in_acked (acks a.header.f p) c l ∙ e))
    same_by p false e = λ was.
        let f = a.header.f in
        let n = length (acked_of (acks f p)) in
        let enough_of = 3 * f + 1 - f in
        let u : List ℕ → machine.Upload Row = λ acked.
        with_storing (upload_of (with_acks (acks f p))) (record (storing_of (with_acks (acks f p))) { acked = acked }) in
        let put : Next (Unit {0}) → Reaction Row =
        λ next. stores (setup a) a.no agent (closed_of upload) (u (put_by_number c (acked_of (acks f p)))) next in
        ap (λ (acked : List ℕ). stores (setup a) a.no agent (closed_of upload) (u acked) (acked_next (progress (acks f p) c 0)))
        (acked_more f p c l e)
        ∙ ap (λ (t : Bool). put (acked_next (if t then progresses.Already
        else if not (is_complete (acks f p)) && is_complete (more f p c) then progresses.Done
        else progresses.Counted (count_of (more f p c))))) e
        ∙ ap (λ (k : ℕ). put (acked_next (if not (nat_le enough_of k) && nat_le enough_of (set.len (set.insert p c)) then progresses.Done
        else progresses.Counted (set.len (set.insert p c))))) was
        ∙ ap (λ (k : ℕ). put (acked_next (if not (nat_le enough_of n) && nat_le enough_of k then progresses.Done
        else progresses.Counted (set.len (set.insert p c))))) (counted_new f p c l e was)
        ∙ ap put (done_by enough_of n (set.len (set.insert p c)) (n + 1 == enough_of) refl)
        ∙ sym (as_new (acks f p) false (in_acked (acks f p) c l ∙ e))

    -- what a tracker makes of an acknowledgement of its Puts is what the machine makes of it
    pub hears_as : stores (setup a) a.no agent (closed_of upload) (upload_of (with_acks (with_ack upload.acks c 0)))
        (acked_next (progress upload.acks c 0))
        ≡ upload_hears (setup a) a.no agent (closed_of upload) (upload_of upload) c request answer
    hears_as = on_acks a.header.f Same (λ p. same_by p (set.contains p c) refl) upload.acks is.acks is.part is.counted

    -- the same, by what the tracker gave
    pub acked_as : (y : Acks) (p : Progress) → y ≡ with_ack upload.acks c 0 → p ≡ progress upload.acks c 0
        → stores (setup a) a.no agent (closed_of upload) (upload_of (with_acks y)) (acked_next p)
        ≡ upload_hears (setup a) a.no agent (closed_of upload) (upload_of upload) c request answer
    acked_as y p after is_progress =
        ap (λ (x : Acks). stores (setup a) a.no agent (closed_of upload) (upload_of (with_acks x)) (acked_next p)) after
        ∙ ap (λ (q : Progress). stores (setup a) a.no agent (closed_of upload) (upload_of (with_acks (with_ack upload.acks c 0))) (acked_next q))
        is_progress
        ∙ hears_as

  -- another answer
  pub hears_other : (c : ℕ) (request : RequestNo) (answer : CloudAnswer) → (is_ack answer && is_answer_to (asked_of upload.puts) c request) ≡ false
      → upload_hears (setup a) a.no agent (closed_of upload) (upload_of upload) c request answer
      ≡ stores (setup a) a.no agent (closed_of upload) (upload_of upload) Goes_on
  hears_other c request answer other =
      let either : Bool → Reaction Row = λ t. if t
      then stores (setup a) a.no agent (closed_of upload) (with_storing (upload_of upload) (record (storing_of upload) {
        acked =
            put_by_number c (acked_of upload.acks);
      }))
      (store_on (setup a) (storing_of upload))
      else stores (setup a) a.no agent (closed_of upload) (upload_of upload) Goes_on in
      ap either (ap (λ (t : Bool). t && not (is_in c (acked_of upload.acks))) other)

-- an upload whose tracker heard one acknowledgement more
pub upload_more : (a incarnation f inputs : ℕ) (upload : Upload) (other : Acks) (c : ℕ) → IsUpload a incarnation f inputs upload → c < 3 * f + 1
    → other ≡ with_ack upload.acks c 0 → IsUpload a incarnation f inputs (record upload { acks = other })
upload_more a incarnation f inputs upload other c is l after = record {
  acks = ap (λ (x : Acks). x.f) after ∙ is.acks;
  part = ap (λ (x : Acks). length x.parts) after ∙ part_more f upload.acks c is.acks is.part;
  counted = subst (λ (x : Acks). count_of x ≡ length (acked_of x)) (sym after) (counted_more f upload.acks c is.acks is.part l is.counted);
  turns = is.turns;
  closes = is.closes;
}

-- an upload with other Puts
pub upload_on : (a incarnation f inputs : ℕ) (puts : List Asked) (upload : Upload) → IsUpload a incarnation f inputs upload
    → IsUpload a incarnation f inputs (record upload { puts = puts })
upload_on a incarnation f inputs puts upload is = assumption is

-- one that begins
pub upload_first : (a incarnation f inputs : ℕ) (upload : Upload) → upload.acks ≡ no_acks f 1 → upload.turns ≡ 0
    → MayClose a incarnation (row_of upload.row) → IsUpload a incarnation f inputs upload
upload_first a incarnation f inputs upload none turns closes = record {
  acks = ap (λ (x : Acks). x.f) none;
  part = ap (λ (x : Acks). length x.parts) none;
  counted = subst (λ (x : Acks). count_of x ≡ length (acked_of x)) (sym none) (count_none f);
  turns = omega (arith, turns);
  closes = closes;
}

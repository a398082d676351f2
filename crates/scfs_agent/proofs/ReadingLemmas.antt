-- What an answer brings to an open that reads the clouds.
use Rattle.std.proofs.Common.{◌≡◌, ◌≢◌, ℕ, ◌+◌, ◌*◌, ◌<◌, ◌≤◌, List, [], ◌∷◌, ◌++◌, length, take, zero, suc, Bool, true, false, cond, Option, Some, None, Result, Ok, Err, IfOk, refl, sym, ap, ◌∙◌, subst, arith, ◌⊎◌, inl, inr, add-zero}
use Rattle.std.specs.Prelude.{◌==◌, ◌||◌, ◌&&◌, not, IfSome, if◌then◌else◌, find, option_to_list}
use Rattle.std.specs.List.{All, list_any}
use Rattle.std.proofs.lemmas.Bool.{eqb-true, eqb-false, eq-eqb}
use Rattle.std.proofs.lemmas.List.{append-nil, length-append, length-take, map-append}
use Rattle.std.proofs.lemmas.List.Elements.{All-nil, All-head, All-tail, All-push}
use Rattle.std.proofs.lemmas.List.Folds.{list_any-append}
use Rattle.scfs_base.specs.declared.naming.Digest.{Digest}
use Rattle.scfs_base.specs.declared.naming.RequestNo.{RequestNo}
use Rattle.scfs_base.specs.declared.cloud.CloudAnswer.{CloudAnswer}
use Rattle.scfs_base.specs.declared.cloud.CloudAnswer.TheVariants as answers
use Rattle.scfs_stream.specs.Stream.{ciphered}
use Rattle.scfs_stream.proofs.StreamFacts.{length-ciphered}
use Rattle.scfs_unit.specs.declared.pieces.KeptPiece.{KeptPiece}
use Rattle.scfs_unit.specs.declared.pieces.BadPiece.{BadPiece}
use Rattle.scfs_unit.specs.declared.pieces.BadPiece.TheVariants as bad
use Rattle.scfs_unit.specs.Checking as unit
use Rattle.scfs_unit.specs.Checking.{checked, has_length, has_magic, has_root, has_piece}
use Rattle.scfs_unit.specs.Unsealing.{unseal, length_of}
use Rattle.scfs_quorum_read.specs.Reading.{of_length, good_piece, is_among, first_unasked, asking}
use Rattle.scfs_quorum_read.specs.Tracking.{Tracker, Heard, IsOrder, begun, heard, piece_heard, kept_step}
use Rattle.scfs_quorum_read.specs.declared.steps.ReadStep.{ReadStep}
use Rattle.scfs_quorum_read.specs.declared.steps.ReadStep.TheVariants as read_steps
use Rattle.scfs_model.specs.UnitFormat.{accepted}
use Rattle.scfs_model.specs.Asked as requests
use Rattle.scfs_model.specs.Layers.{Row, rows}
use Rattle.scfs_model.specs.Next.{Goes_on, Asks, Has}
use Rattle.scfs_model.specs.Reading.{if_size, piece_in, was_asked, next_cloud}
use Rattle.scfs_model.specs.Agents.{Agent, Opening, Reaction}
use Rattle.scfs_model.specs.Opens.{reads, takes, tallied, asks_gets}
use Rattle.scfs_agent.specs.State.{AgentState, setup}
use Rattle.scfs_agent.specs.Views.{asked_of, reading_of, opening_of, next_of, turns_left}
use Rattle.scfs_agent.specs.Keeping.{IsRow, IsFetch, IsFetchAsking, HasRead, AreOf, WereAsked}
use Rattle.scfs_agent.specs.declared.work.Asked.{Asked}
use Rattle.scfs_agent.specs.declared.work.Fetch.{Fetch}

-- a piece that is accepted is of the cloud
four_tests : (P : KeptPiece → Type 0) (a b c d : Bool) (piece : KeptPiece) → P piece
    → IfOk (if a then Err bad.Length else if b then Err bad.Magic else if c then Err bad.Root else if d then Err bad.Piece else Ok piece) P
four_tests P true b c d piece p = tt
four_tests P false true c d piece p = tt
four_tests P false false true d piece p = tt
four_tests P false false false true piece p = tt
four_tests P false false false false piece p = p

checked_cloud : (f cloud : ℕ) (root : Digest) (bytes : List ℕ) → IfOk (checked f cloud root bytes) (λ (p : KeptPiece). p.cloud ≡ cloud)
unfolding checked
checked_cloud f cloud root bytes =
    four_tests (λ (p : KeptPiece). p.cloud ≡ cloud) (not (has_length f bytes)) (not (has_magic f bytes)) (not (has_root f root bytes))
    (not (has_piece f cloud bytes)) (unit.piece_in f cloud bytes) refl

-- what a good answer's piece is of: the cloud, and contents of the length
record IsGoodOf (size cloud : ℕ) (p : KeptPiece) : Type 0 where
  cloud_is : p.cloud ≡ cloud
  length_is : p.length ≡ size

of_length_good : (size cloud : ℕ) (r : Result KeptPiece BadPiece) → IfOk r (λ (p : KeptPiece). p.cloud ≡ cloud)
    → IfSome (of_length size r) (IsGoodOf size cloud)
of_length_good size cloud (Err why) h = tt
of_length_good size cloud (Ok p) h = by (p.length == size) refl where
  by : (b : Bool) → (p.length == size) ≡ b → IfSome (if b then Some p else None) (IsGoodOf size cloud)
  by true e = record { cloud_is = h; length_is = eqb-true p.length size e }
  by false e = tt

piece_is_good : (t : Tracker) (cloud : ℕ) (answer : CloudAnswer) → IfSome (good_piece t.reading cloud answer) (IsGoodOf t.reading.size cloud)
piece_is_good t cloud answers.Ack = tt
piece_is_good t cloud answers.Absent = tt
piece_is_good t cloud (answers.Bytes bytes) =
    of_length_good t.reading.size cloud (checked t.reading.f cloud t.reading.root bytes) (checked_cloud t.reading.f cloud t.reading.root bytes)
piece_is_good t cloud (answers.Names names) = tt
piece_is_good t cloud answers.Fail = tt

-- the contents of good pieces are no longer than they were to be
length_of_sized : (size : ℕ) (pieces : List KeptPiece) → All (λ (p : KeptPiece). p.length ≡ size) pieces → length_of pieces ≤ size
length_of_sized size [] h = omega arith
length_of_sized size (p ∷ pieces) h =
    let first : p.length ≡ size = All-head (λ (p : KeptPiece). p.length ≡ size) p pieces h in omega arith

no_longer : (key bytes : List ℕ) (n : ℕ) → length (ciphered key (take n bytes)) ≤ n
no_longer key bytes n = omega (arith, length-ciphered key (take n bytes), length-take n bytes)

contents_fit : (f size : ℕ) (pieces : List KeptPiece) → All (λ (p : KeptPiece). p.length ≡ size) pieces → length (unseal f pieces) ≤ size
contents_fit f size pieces all =
    let short : length (unseal f pieces) ≤ length_of pieces =
    no_longer _ _ (length_of pieces) in omega (arith, short, length_of_sized size pieces all)

or_left : (a b : Bool) → a ≡ true → (a || b) ≡ true
or_left a b e = ap (λ (c : Bool). c || b) e

or_split : (a b : Bool) → (a || b) ≡ true → (a ≡ true) ⊎ (b ≡ true)
or_split true b e = inl refl
or_split false b e = inr e

or_true : (a : Bool) → (a || true) ≡ true
or_true true = refl
or_true false = refl

or-false : (a : Bool) → (a || false) ≡ a
or-false true = refl
or-false false = refl

or_or : (a b : Bool) → ((a || false) || b) ≡ (a || b)
or_or true b = refl
or_or false b = refl

-- what is found passes the test, and is in the list
found_by : (P : ℕ → Type 0) (b : Bool) (test : ℕ → Bool) (y : ℕ) (ys : List ℕ) (x : ℕ) → P y → cond b (Some y) (find test ys) ≡ Some x
    → (find test ys ≡ Some x → P x) → P x
found_by P true test y ys x p e rest = let is : y ≡ x = cc in subst P is p
found_by P false test y ys x p e rest = rest e

found : (P : ℕ → Type 0) (test : ℕ → Bool) (xs : List ℕ) (x : ℕ) → All P xs → find test xs ≡ Some x → P x
found P test [] x all e = cc
found P test (y ∷ ys) x all e = found_by P (test y) test y ys x (All-head P y ys all) e (found P test ys x (All-tail P y ys all))

found_in_by : (b : Bool) (test : ℕ → Bool) (y : ℕ) (ys : List ℕ) (x : ℕ) → cond b (Some y) (find test ys) ≡ Some x
    → (find test ys ≡ Some x → list_any (λ other. other == x) ys ≡ true) → ((y == x) || list_any (λ other. other == x) ys) ≡ true
found_in_by true test y ys x e rest = let is : y ≡ x = cc in or_left (y == x) _ (eq-eqb y x is)
found_in_by false test y ys x e rest = ap (λ (b : Bool). (y == x) || b) (rest e) ∙ or_true (y == x)

found_in : (test : ℕ → Bool) (xs : List ℕ) (x : ℕ) → find test xs ≡ Some x → list_any (λ other. other == x) xs ≡ true
found_in test [] x e = cc
found_in test (y ∷ ys) x e = found_in_by (test y) test y ys x e (found_in test ys x)

find_agree_by : (b c : Bool) (y : ℕ) (r r' : Option ℕ) → b ≡ c → r ≡ r' → cond b (Some y) r ≡ cond c (Some y) r'
find_agree_by b c y r r' e f = cc

find_agree : (p q : ℕ → Bool) → ((x : ℕ) → p x ≡ q x) → (xs : List ℕ) → find p xs ≡ find q xs
find_agree p q same [] = refl
find_agree p q same (y ∷ ys) = find_agree_by (p y) (q y) y (find p ys) (find q ys) (same y) (find_agree p q same ys)

-- an answer, by whether its cloud was good before
abbrev waits_on : Tracker → Heard
waits_on t = record { after = t; step = read_steps.Wait }

abbrev heard_if : Tracker → Bool → Option KeptPiece → Heard
heard_if t b o = if b then waits_on t else piece_heard t o

-- an open of which a further cloud was asked
module _ (f : ℕ) (fetch : Fetch) (is : IsFetch f fetch) where
  abbrev t : Tracker
  t = fetch.tracker

  abbrev after : (asked : List ℕ) → Fetch
  after asked = record fetch { tracker = record t { asked = asked } }

  asks_on : (d : ℕ) → list_any (λ other. other == d) t.reading.order ≡ true → IsFetchAsking f (after (t.asked ++ d ∷ [])) (d ∷ [])
  asks_on d ordered = record {
    reading = is.reading;
    clouds = is.clouds;
    size = is.size;
    row = is.row;
    few = is.few;
    sized = is.sized;
    first = is.first;
    last = is.last;
    asked = λ c.
        sym (or_or (list_any (λ (x : requests.Asked). x.cloud == c) (asked_of fetch.gets)) ((d == c) || false))
        ∙ ap (λ (b : Bool). b || ((d == c) || false)) (is.asked c) ∙ sym (list_any-append (λ other. other == c) t.asked (d ∷ []));
    within = λ c any. of_more c (or_split (list_any (λ other. other == c) t.asked) ((d == c) || false)
        (sym (list_any-append (λ other. other == c) t.asked (d ∷ [])) ∙ any));
    good = λ c any.
        list_any-append (λ other. other == c) t.asked (d ∷ [])
        ∙ or_left (list_any (λ other. other == c) t.asked) ((d == c) || false) (is.good c any);
  } where
    of_more : (c : ℕ) → (list_any (λ other. other == c) t.asked ≡ true) ⊎ (((d == c) || false) ≡ true)
        → list_any (λ other. other == c) t.reading.order ≡ true
    of_more c (inl h) = is.within c h
    of_more c (inr h) =
        let same : d ≡ c = eqb-true d c (sym (or-false (d == c)) ∙ h) in
        subst (λ (e : ℕ). list_any (λ other. other == e) t.reading.order ≡ true) same ordered

  abbrev Can : (next : Option ℕ) → Type 0
  Can next = HasRead f (after (t.asked ++ option_to_list next)) (asking next)

  next_by : (next : Option ℕ) → ((d : ℕ) → next ≡ Some d → (d < 3 * f + 1) × (list_any (λ other. other == d) t.reading.order ≡ true)) → Can next
  next_by None one = subst (λ (asked : List ℕ). IsFetch f (after asked)) (sym (append-nil t.asked)) is
  next_by (Some d) one = (asks_on d (one d refl).1, (one d refl).0)

  abbrev kept : KeptPiece → Fetch
  kept p = record fetch { tracker = record t { pieces = t.pieces ++ p ∷ [] } }

  kept_by : (p : KeptPiece) (cloud : ℕ) (b : Bool) → IsGoodOf t.reading.size cloud p
      → list_any (λ (x : requests.Asked). x.cloud == cloud) (asked_of fetch.gets) ≡ true
      → (length (t.pieces ++ p ∷ []) == t.reading.f + 1) ≡ b
      → HasRead f (kept p) (if b then read_steps.Whole (unseal t.reading.f (t.pieces ++ p ∷ [])) else read_steps.Wait)
  kept_by p cloud true good was e =
      let short : length (unseal t.reading.f (t.pieces ++ p ∷ [])) ≤ t.reading.size =
      contents_fit t.reading.f t.reading.size (t.pieces ++ p ∷ []) (All-push (λ (p : KeptPiece). p.length
      ≡ t.reading.size) t.pieces p is.sized good.length_is) in
      (is.row, omega (arith, short, is.size, is.row.short))
  kept_by p cloud false good was e = record {
    reading = is.reading;
    clouds = is.clouds;
    size = is.size;
    row = is.row;
    few = omega (arith, eqb-false (length (t.pieces ++ p ∷ [])) (t.reading.f + 1) e, length-append t.pieces (p ∷ []), is.few, is.reading);
    sized = All-push (λ (p : KeptPiece). p.length ≡ t.reading.size) t.pieces p is.sized good.length_is;
    first = is.first;
    last = is.last;
    asked = is.asked;
    within = is.within;
    good = λ c any. of_more c (or_split (list_any (λ (q : KeptPiece). q.cloud == c) t.pieces) ((p.cloud == c) || false)
        (sym (list_any-append (λ (q : KeptPiece). q.cloud == c) t.pieces (p ∷ [])) ∙ any));
  } where
    of_more : (c : ℕ) → (list_any (λ (q : KeptPiece). q.cloud == c) t.pieces ≡ true) ⊎ (((p.cloud == c) || false) ≡ true)
        → list_any (λ other. other == c) t.asked ≡ true
    of_more c (inl h) = is.good c h
    of_more c (inr h) =
        let same : cloud ≡ c = sym good.cloud_is ∙ eqb-true p.cloud c (sym (or-false (p.cloud == c)) ∙ h) in
        subst (λ (e : ℕ). list_any (λ other. other == e) t.asked ≡ true) same (sym (is.asked cloud) ∙ or_left _ false was)

  heard_by : (cloud : ℕ) (o : Option KeptPiece) → IfSome o (IsGoodOf t.reading.size cloud)
      → list_any (λ (x : requests.Asked). x.cloud == cloud) (asked_of fetch.gets) ≡ true
      → HasRead f (record fetch { tracker = (piece_heard t o).after }) (piece_heard t o).step
  heard_by cloud None good was =
      next_by (first_unasked t.reading.order t.asked)
      (λ d e. (found (λ c. c < 3 * f + 1) _ t.reading.order d is.clouds.below e, found_in _ t.reading.order d e))
  heard_by cloud (Some p) good was = kept_by p cloud (length (t.pieces ++ p ∷ []) == t.reading.f + 1) good was refl

  -- what an answer of a cloud that was asked and gave no good one brings can be done
  pub has_read : (cloud : ℕ) (answer : CloudAnswer) → list_any (λ (x : requests.Asked). x.cloud == cloud) (asked_of fetch.gets) ≡ true
      → is_among cloud t.pieces ≡ false → HasRead f (record fetch { tracker = (heard t cloud answer).after }) (heard t cloud answer).step
  has_read cloud answer was none =
      let P : Bool → Type 0 = λ b.
      HasRead f (record fetch {
        tracker =
            (heard_if t b (good_piece t.reading cloud answer)).after;
      }) (heard_if t b (good_piece t.reading cloud answer)).step in
      subst P (sym none) (heard_by cloud (good_piece t.reading cloud answer) (piece_is_good t cloud answer) was)

same2 : {A B R : Type 0} (F : A → B → R) (x x' : A) (y y' : B) → x ≡ x' → y ≡ y' → F x y ≡ F x' y'
same2 F x x' y y' e d = cc

next_cond : (b : Bool) (bytes : List ℕ) → next_of (if b then read_steps.Whole bytes else read_steps.Wait) ≡ (if b then Has bytes else Goes_on)
next_cond true bytes = refl
next_cond false bytes = refl

ne-eqb : (n m : ℕ) → n ≢ m → (n == m) ≡ false
ne-eqb n m other = by (n == m) refl where
  by : (b : Bool) → (n == m) ≡ b → b ≡ false
  by true e = absurd (other (eqb-true n m e))
  by false e = refl

eqb-more : (n m : ℕ) → (n + 1 == m + 1) ≡ (n == m)
eqb-more n m = by (n == m) refl where
  by : (b : Bool) → (n == m) ≡ b → (n + 1 == m + 1) ≡ b
  by true e = eq-eqb (n + 1) (m + 1) (ap (λ (k : ℕ). k + 1) (eqb-true n m e))
  by false e = let other : n ≢ m = eqb-false n m e in ne-eqb (n + 1) (m + 1) (λ k. other (omega arith))

if_same : (size : ℕ) (r : Result KeptPiece BadPiece) → if_size size (accepted r) ≡ of_length size r
if_same size (Ok p) = refl
if_same size (Err why) = refl

-- an answer's piece is the tracker's
pub piece_same : (a : AgentState) (fetch : Fetch) (cloud : ℕ) (answer : CloudAnswer) → fetch.tracker.reading.f ≡ a.header.f
    → piece_in (setup a) (reading_of fetch) cloud answer ≡ good_piece fetch.tracker.reading cloud answer
piece_same a fetch cloud answers.Ack f = refl
piece_same a fetch cloud answers.Absent f = refl
piece_same a fetch cloud (answers.Bytes bytes) f =
    if_same fetch.tracker.reading.size (checked a.header.f cloud fetch.tracker.reading.root bytes)
    ∙ ap (λ (k : ℕ). of_length fetch.tracker.reading.size (checked k cloud fetch.tracker.reading.root bytes)) (sym f)
piece_same a fetch cloud (answers.Names names) f = refl
piece_same a fetch cloud answers.Fail f = refl

module _ (a : AgentState) where
  -- to ask no cloud is to go on
  asks_none : (agent : Agent Row) (o : Opening Row) → asks_gets (setup a) rows a.no agent o [] ≡ reads (setup a) rows a.no agent o Goes_on
  asks_none agent o =
      let F : List requests.Asked → ℕ → Reaction Row = λ gets requests.
      reads (setup a) rows a.no (record agent { requests = requests }) (record o { reading = record o.reading { gets = gets } }) Goes_on in
      same2 F (o.reading.gets ++ []) o.reading.gets (agent.requests + 0) agent.requests (append-nil o.reading.gets) (add-zero agent.requests)

  asked_next : (agent : Agent Row) (o : Opening Row) (next : Option ℕ)
      → reads (setup a) rows a.no agent o (next_of (asking next)) ≡ reads (setup a) rows a.no agent o (Asks (option_to_list next))
  asked_next agent o None = sym (asks_none agent o)
  asked_next agent o (Some d) = refl

  module _ (fetch : Fetch) (is : IsFetch a.header.f fetch) (cloud : ℕ) (none : is_among cloud fetch.tracker.pieces ≡ false) where
    abbrev tr : Tracker
    tr = fetch.tracker

    next_same : first_unasked tr.reading.order tr.asked ≡ find (λ c. not (was_asked (reading_of fetch) c)) tr.reading.order
    next_same = find_agree _ _ (λ c. ap not (sym (is.asked c) ∙ or-false _)) tr.reading.order

    takes_by : (agent : Agent Row) (o : Option KeptPiece) → IfSome o (IsGoodOf tr.reading.size cloud)
        → reads (setup a) rows a.no (tallied agent cloud (not (not (is_among cloud (piece_heard tr o).after.pieces))))
        (opening_of (record fetch { tracker = (piece_heard tr o).after })) (next_of (piece_heard tr o).step)
        ≡ takes (setup a) rows a.no agent (opening_of fetch) cloud o
    takes_by agent None good =
        let next = first_unasked tr.reading.order tr.asked in
        let having : List KeptPiece → Opening Row = λ pieces. record (opening_of fetch) { reading = record (reading_of fetch) { pieces = pieces } } in
        ap (λ (b : Bool). reads (setup a) rows a.no (tallied agent cloud (not (not b))) (opening_of fetch) (next_of (asking next))) none
        ∙ asked_next (tallied agent cloud false) (opening_of fetch) next
        ∙ ap (λ (n : Option ℕ). reads (setup a) rows a.no (tallied agent cloud false) (opening_of fetch) (Asks (option_to_list n))) next_same
        ∙ ap (λ (ps : List KeptPiece). reads (setup a) rows a.no (tallied agent cloud false) (having ps) (Asks (next_cloud (reading_of fetch))))
        (sym (append-nil tr.pieces))
    takes_by agent (Some p) good =
        let pieces = tr.pieces ++ p ∷ [] in
        let o : Opening Row = opening_of (record fetch { tracker = record tr { pieces = pieces } }) in
        let there : is_among cloud pieces ≡ true =
        list_any-append (λ (q : KeptPiece). q.cloud == cloud) tr.pieces (p ∷ [])
        ∙ ap (λ (b : Bool). b || ((p.cloud == cloud) || false)) none ∙ ap (λ (b : Bool). b || false) (eq-eqb p.cloud cloud good.cloud_is) in
        let many : (length pieces == tr.reading.f + 1) ≡ (length tr.pieces == a.header.f) =
        ap (λ (n : ℕ). n == tr.reading.f + 1) (length-append tr.pieces (p ∷ [])) ∙ eqb-more (length tr.pieces) tr.reading.f
        ∙ ap (λ (n : ℕ). length tr.pieces == n) is.reading in
        ap (λ (b : Bool). reads (setup a) rows a.no (tallied agent cloud (not (not b))) o (next_of (kept_step tr.reading.f pieces))) there
        ∙ ap (reads (setup a) rows a.no (tallied agent cloud true) o)
        (next_cond (length pieces == tr.reading.f + 1) (unseal tr.reading.f pieces)
        ∙ same2 (λ (b : Bool) (bytes : List ℕ). if b then Has bytes else Goes_on) _ _ _ _ many (ap (λ (n : ℕ). unseal n pieces) is.reading))

    abbrev Heard-by : Agent Row → CloudAnswer → Bool → Reaction Row
    Heard-by agent answer b =
        let h = heard_if tr b (good_piece tr.reading cloud answer) in
        reads (setup a) rows a.no (tallied agent cloud (not (not (is_among cloud h.after.pieces)))) (opening_of (record fetch { tracker = h.after }))
        (next_of h.step)

    -- what a tracker makes of an answer is what the machine takes it for
    pub takes_as : (agent : Agent Row) (answer : CloudAnswer)
        → reads (setup a) rows a.no (tallied agent cloud (not (not (is_among cloud (heard tr cloud answer).after.pieces))))
        (opening_of (record fetch { tracker = (heard tr cloud answer).after })) (next_of (heard tr cloud answer).step)
        ≡ takes (setup a) rows a.no agent (opening_of fetch) cloud (piece_in (setup a) (reading_of fetch) cloud answer)
    takes_as agent answer =
        ap (Heard-by agent answer) none
        ∙ takes_by agent (good_piece tr.reading cloud answer) (piece_is_good tr cloud answer)
        ∙ ap (takes (setup a) rows a.no agent (opening_of fetch) cloud) (sym (piece_same a fetch cloud answer is.reading))

and_left : (a b : Bool) → (a && b) ≡ true → a ≡ true
and_left true b e = refl
and_left false b e = e

any_left_by : (a b any both : Bool) → ((a && b) ≡ true) ⊎ (both ≡ true) → (both ≡ true → any ≡ true) → (a || any) ≡ true
any_left_by a b any both (inl h) rest = or_left a any (and_left a b h)
any_left_by a b any both (inr h) rest = ap (λ (c : Bool). a || c) (rest h) ∙ or_true a

-- a cloud whose answer is to one of the Gets was asked
any_left : (p q : requests.Asked → Bool) (xs : List requests.Asked) → list_any (λ x. p x && q x) xs ≡ true → list_any p xs ≡ true
any_left p q [] e = e
any_left p q (x ∷ xs) e =
    any_left_by (p x) (q x) (list_any p xs) (list_any (λ y. p y && q y) xs) (or_split (p x && q x) (list_any (λ y. p y && q y) xs) e)
    (any_left p q xs)

-- the same, by what the calls gave
pub has_read_so : (f : ℕ) (fetch : Fetch) → IsFetch f fetch → (cloud : ℕ) (request : RequestNo) (answer : CloudAnswer)
    → requests.is_answer_to (asked_of fetch.gets) cloud request ≡ true → is_among cloud fetch.tracker.pieces ≡ false
    → (n : ℕ) (tracker : Tracker) (step : ReadStep) → n ≡ f → tracker ≡ (heard fetch.tracker cloud answer).after → step
    ≡ (heard fetch.tracker cloud answer).step
    → HasRead n (record fetch { tracker = tracker }) step
has_read_so f fetch is cloud request answer mine none n tracker step same after steps =
    let h = heard fetch.tracker cloud answer in
    let was : list_any (λ (x : requests.Asked). x.cloud == cloud) (asked_of fetch.gets) ≡ true = any_left _ _ (asked_of fetch.gets) mine in
    subst (λ (k : ℕ). HasRead k (record fetch { tracker = tracker }) step) (sym same)
    (subst (λ (t : Tracker). HasRead f (record fetch { tracker = t }) step) (sym after)
    (subst (λ (s : ReadStep). HasRead f (record fetch { tracker = h.after }) s) (sym steps) (has_read f fetch is cloud answer was none)))

-- a request of the code's as the machine's
abbrev asked_as : Asked → requests.Asked
asked_as x = record { request = x.request; cloud = x.cloud }

any_asked : (a incarnation drawn c : ℕ) (clouds : List ℕ)
    → list_any (λ (x : requests.Asked). x.cloud == c) (requests.asked_of a incarnation drawn clouds) ≡ list_any (λ other. other == c) clouds
any_asked a incarnation drawn c [] = refl
any_asked a incarnation drawn c (d ∷ ds) = ap (λ (b : Bool). (d == c) || b) (any_asked a incarnation (drawn + 1) c ds)

-- once the Gets are asked
pub gets_asked : (f : ℕ) (fetch : Fetch) (clouds : List ℕ) → IsFetchAsking f fetch clouds → (gets more : List Asked) (a incarnation drawn : ℕ)
    → gets ≡ fetch.gets ++ more → asked_of more ≡ requests.asked_of a incarnation drawn clouds → IsFetch f (record fetch { gets = gets })
gets_asked f fetch clouds is gets more a incarnation drawn joined numbered = record {
  reading = is.reading;
  clouds = is.clouds;
  size = is.size;
  row = is.row;
  few = is.few;
  sized = is.sized;
  first = is.first;
  last = is.last;
  asked = λ c.
      let test : requests.Asked → Bool = λ x. x.cloud == c in
      or-false (list_any test (asked_of gets))
      ∙ ap (λ (xs : List Asked). list_any test (asked_of xs)) joined
      ∙ ap (list_any test) (map-append (λ (x : Asked). asked_as x) fetch.gets more)
      ∙ list_any-append test (asked_of fetch.gets) (asked_of more)
      ∙ ap (λ (xs : List requests.Asked). list_any test (asked_of fetch.gets) || list_any test xs) numbered
      ∙ ap (λ (b : Bool). list_any test (asked_of fetch.gets) || b) (any_asked a incarnation drawn c clouds)
      ∙ is.asked c;
  within = is.within;
  good = is.good;
}

any_take_by : (a b d : Bool) → (a || b) ≡ true → (b ≡ true → d ≡ true) → (a || d) ≡ true
any_take_by true b d e rest = refl
any_take_by false b d e rest = rest e

any_take : (test : ℕ → Bool) (n : ℕ) (xs : List ℕ) → list_any test (take n xs) ≡ true → list_any test xs ≡ true
any_take test zero [] e = e
any_take test zero (x ∷ xs) e = cc
any_take test (suc n) [] e = e
any_take test (suc n) (x ∷ xs) e = any_take_by (test x) (list_any test (take n xs)) (list_any test xs) e (any_take test n xs)

-- an open that begins, once the first f + 1 clouds of the order are asked
pub first_asking : (f : ℕ) (fetch : Fetch) (order first : List ℕ) → IsRow fetch.row → fetch.gets ≡ [] → IsOrder f order
    → fetch.tracker ≡ begun (record { f = f; root = fetch.row.root; size = fetch.row.length; order = order; turns = Some 8 }) → first
    ≡ take (f + 1) order
    → IsFetchAsking f fetch first
first_asking f fetch order first row none ordered tracks firsts = record {
  reading = ap (λ (t : Tracker). t.reading.f) tracks;
  clouds = subst (IsOrder f) (sym (ap (λ (t : Tracker). t.reading.order) tracks)) ordered;
  size = ap (λ (t : Tracker). t.reading.size) tracks;
  row = row;
  few = omega (arith, ap (λ (t : Tracker). length t.pieces) tracks);
  sized = subst (λ (t : Tracker). All (λ (p : KeptPiece). p.length ≡ t.reading.size) t.pieces) (sym tracks) (All-nil (λ (p : KeptPiece). p.length
      ≡ fetch.row.length));
  first = omega (arith, ap (λ (t : Tracker). turns_left t.left) tracks);
  last = omega (arith, ap (λ (t : Tracker). turns_left t.left) tracks);
  asked = λ c.
      ap (λ (gets : List Asked). list_any (λ (x : requests.Asked). x.cloud == c) (asked_of gets) || list_any (λ other. other == c) first) none
      ∙ ap (list_any (λ other. other == c)) firsts
      ∙ sym (ap (λ (t : Tracker). list_any (λ other. other == c) t.asked) tracks);
  within = subst (λ (t : Tracker). AreOf t.reading.order t.asked) (sym tracks) (λ c e. any_take (λ other. other == c) (f + 1) order e);
  good = subst (λ (t : Tracker). WereAsked t.pieces t.asked) (sym tracks) (λ c e. cc);
}

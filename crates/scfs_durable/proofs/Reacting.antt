-- A whole reaction: what it sends, and which upload is drawn in it.
use Rattle.std.proofs.Common.{◌≡◌, ◌⊎◌, inl, inr, ℕ, ◌+◌, ◌≤◌, List, [], ◌++◌, true, refl, sym, ap, ◌∙◌, subst, arith, Some, None, Contains, le_refl, le_trans, le-add_right}
use Rattle.scfs_base.specs.declared.naming.UploadNo.{UploadNo}
use Rattle.scfs_model.specs.Lists.{below}
use Rattle.scfs_model.specs.Names.{upload_no}
use Rattle.scfs_model.specs.Format.{Setup, clouds_of, object_at}
use Rattle.scfs_model.specs.Given.{Given}
use Rattle.scfs_model.specs.Lives.{is_up}
use Rattle.scfs_model.specs.Agents.{Upload, Closed, Agent, Input, Calls, Tells, Hears, Turns, Crashes, Starts, Sent, Reaction, silent, followed}
use Rattle.scfs_model.specs.Layers.{Row, rows}
use Rattle.scfs_model.specs.Closes.{begins}
use Rattle.scfs_model.specs.Reactions.{next_life, responded, next_begun, reacted}
use Rattle.scfs_laws.proofs.Lists.{Each, Pairs, each-map, each-append, pairs-join}
use Rattle.scfs_laws.proofs.Moves.{Known, IsInput, any_reply, has_up, Moves, responds, next_begins, closing}
use Rattle.scfs_durable.proofs.Sending.{IsBefore, IsDrawn, IsSent, IsBegun, AreOwn, made_on, own_on, run_drawn, run_order, run_made}

module _ (s : Setup) (a : ℕ) (Had : UploadNo → (contents : List ℕ) → Type 0) where
  -- what an agent does with the uploads that it had
  pub record Draws (g : Agent Row) (r : Reaction Row) : Type 0 where
    pub incarnation : r.agent.incarnation ≡ g.incarnation
    pub requests : g.requests ≤ r.agent.requests
    pub uploads : r.agent.uploads ≡ g.uploads
    pub own : AreOwn s a Had r.agent.closed
    pub drawn : Each (IsDrawn s a g.incarnation g.requests r.agent.requests) r.sent
    pub order : Pairs IsBefore r.sent
    pub made : Each (IsSent s a Had) r.sent

  abbrev pub Keeps : Agent Row → Reaction Row → Type 0
  Keeps g r = AreOwn s a Had g.closed → Draws g r

  -- requests of one reaction and of a later one
  pub drawn_join : (i low middle high : ℕ) (xs ys : List Sent) → low ≤ middle → middle ≤ high → Each (IsDrawn s a i low middle) xs
      → Each (IsDrawn s a i middle high) ys → Each (IsDrawn s a i low high) (xs ++ ys)
  drawn_join i low middle high xs ys l m h k =
      each-append (IsDrawn s a i low high) xs ys
      (each-map (IsDrawn s a i low middle) _ (λ x d. (d.0, d.1, d.2, le_trans d.3 m)) xs h)
      (each-map (IsDrawn s a i middle high) _ (λ x d. (d.0, d.1, omega (arith, d.2, l), d.3)) ys k)

  pub order_join : (i low middle high : ℕ) (xs ys : List Sent) → Each (IsDrawn s a i low middle) xs → Each (IsDrawn s a i middle high) ys
      → Pairs IsBefore xs → Pairs IsBefore ys → Pairs IsBefore (xs ++ ys)
  order_join i low middle high xs ys h k one two =
      pairs-join IsBefore xs ys one two
      (each-map (IsDrawn s a i low middle) _ (λ x d.
      each-map (IsDrawn s a i middle high) (IsBefore x) (λ y f. omega (arith, d.3, f.2)) ys k) xs h)

  follow : (g : Agent Row) (first second : Reaction Row) → Keeps g first → Keeps first.agent second → Keeps g (followed first (λ next. second))
  follow g first second one two own =
      let h : Draws g first = one own in
      let k : Draws first.agent second = two h.own in
      let later : Each (IsDrawn s a g.incarnation first.agent.requests second.agent.requests) second.sent =
      subst (λ i. Each (IsDrawn s a i first.agent.requests second.agent.requests) second.sent) h.incarnation k.drawn in
      record {
        incarnation = k.incarnation ∙ h.incarnation;
        requests = le_trans h.requests k.requests;
        uploads = k.uploads ∙ h.uploads;
        own = k.own;
        drawn = drawn_join g.incarnation g.requests first.agent.requests second.agent.requests first.sent second.sent h.requests k.requests h.drawn later;
        order = order_join g.incarnation g.requests first.agent.requests second.agent.requests first.sent second.sent h.drawn later h.order k.order;
        made = each-append (IsSent s a Had) first.sent second.sent h.made k.made;
      }

  -- nothing is sent, and the uploads are these
  quiet : (g : Agent Row) (r : Reaction Row) → r.agent.incarnation ≡ g.incarnation → g.requests ≤ r.agent.requests → r.agent.uploads ≡ g.uploads
      → r.sent ≡ [] → AreOwn s a Had r.agent.closed → Draws g r
  quiet g r i q u none own =
      record {
        incarnation = i;
        requests = q;
        uploads = u;
        own = own;
        drawn = subst (Each (IsDrawn s a g.incarnation g.requests r.agent.requests)) (sym none) tt;
        order = subst (Pairs IsBefore) (sym none) tt;
        made = subst (Each (IsSent s a Had)) (sym none) tt;
      }

  -- all that comes to an agent but a start
  abbrev pub others : Known Row
  others =
      record {
        call = λ call. Unit {0};
        sight = λ request sight. Unit {0};
        answer = λ c request answer. Unit {0};
        turn = Unit {0};
        crash = Unit {0};
        start = ⊥;
        takes = Unit {0};
      }

  pub moves : (given : Given) → Moves s rows a others given Keeps
  moves given =
      record {
        still = λ g own. quiet _ _ refl (le_refl _) refl refl own;
        follow = λ g first second order. follow g first second;
        aside = λ g life leases tallies opens up own. quiet _ _ refl (le_refl _) refl refl own;
        told = λ g request own. quiet _ _ refl (le_refl _) refl refl own;
        frees = λ g takes own. quiet _ _ refl (le_refl _) refl refl own;
        says_plain = λ g x plain own. quiet _ _ refl (le_refl _) refl refl own;
        asks = λ g x own. quiet _ _ refl (le-add_right _ _) refl refl own;
        steps = λ g step common own. quiet _ _ refl (le-add_right _ _) refl refl own;
        makes = λ g path names k own. quiet _ _ refl (le-add_right _ _) refl refl own;
        reads = λ g h offset count bytes k ok own. quiet _ _ refl (le_refl _) refl refl own;
        writes = λ g h offset new y k ok own. quiet _ _ refl (le_refl _) refl refl own;
        truncates = λ g h size y k ok own. quiet _ _ refl (le_refl _) refl refl own;
        ends = λ g h k own. quiet _ _ refl (le_refl _) refl refl own;
        closes = λ g h y k found own. quiet _ _ refl (le_refl _) refl refl (each-append (λ (x : Closed Row). IsBegun s a Had x.session x.upload) g.closed _ own (tt, tt));
        sees_empty = λ g request h writes sight k is own. quiet _ _ refl (le_refl _) refl refl own;
        sees_version = λ g request h writes sight v k is own. record {
          incarnation = refl;
          requests = le-add_right _ _;
          uploads = refl;
          own = own;
          drawn = run_drawn s a g.incarnation _ g.requests _;
          order = run_order s a g.incarnation _ g.requests _;
          made = run_made s a g.incarnation _ Had (λ c. tt) g.requests _;
        };
        turns_open = λ g o own. quiet _ _ refl (le_refl _) refl refl own;
        hears_open = λ g o c request answer takes k awaited own. quiet _ _ refl (le_refl _) refl refl own;
        gets = λ g o clouds own. record {
          incarnation = refl;
          requests = le-add_right _ _;
          uploads = refl;
          own = own;
          drawn = run_drawn s a g.incarnation _ g.requests _;
          order = run_order s a g.incarnation _ g.requests _;
          made = run_made s a g.incarnation _ Had (λ c. tt) g.requests _;
        };
        loses = λ g o own. quiet _ _ refl (le_refl _) refl refl own;
        shows = λ g o bytes all own. quiet _ _ refl (le_refl _) refl refl own;
        turns_upload = λ g x u own. quiet _ _ refl (le_refl _) refl refl own;
        hears_upload = λ g x u c request answer k new few own. quiet _ _ refl (le_refl _) refl refl own;
        puts = λ g x u clouds k within own. record {
          incarnation = refl;
          requests = le-add_right _ _;
          uploads = refl;
          own = own;
          drawn = run_drawn s a g.incarnation _ g.requests clouds;
          order = run_order s a g.incarnation _ g.requests clouds;
          made = run_made s a g.incarnation _ Had
              (λ c. (u.version.upload, x.session.contents, own.0.0, ap (λ unit. object_at unit c) own.0.1, own.0.2)) g.requests clouds;
        };
        commits = λ g x u c request answer k new just own. quiet _ _ refl (le-add_right _ _) refl refl own;
        drops = λ g x why own. quiet _ _ refl (le_refl _) refl refl own.1;
        downs = λ g up k own. quiet _ _ refl (le_refl _) refl refl tt;
        ups = λ g up none. absurd none;
      }

  -- these contents are those of the one upload that is new
  abbrev pub IsNew : (g : Agent Row) (r : Reaction Row) (new : List ℕ) → UploadNo → (contents : List ℕ) → Type 0
  IsNew g r new u contents =
      (u ≡ upload_no a g.incarnation (g.uploads + 1)) × (contents ≡ new) × (g.uploads + 1 ≤ r.agent.uploads)

  -- one of a closed session that the agent has
  abbrev pub IsThere : Agent Row → UploadNo → (contents : List ℕ) → Type 0
  IsThere g u contents =
      (x : Closed Row) × (begun : Upload Row) × Contains g.closed x × (x.upload ≡ Some begun) × (begun.version.upload ≡ u)
      × (x.session.contents ≡ contents)

  abbrev pub HadOrNew : (g : Agent Row) (r : Reaction Row) (new : List ℕ) → UploadNo → (contents : List ℕ) → Type 0
  HadOrNew g r new u contents = Had u contents ⊎ IsNew g r new u contents

  -- what an agent does, where an upload may begin
  pub record Does (g : Agent Row) (r : Reaction Row) : Type 0 where
    pub new : List ℕ
    pub incarnation : r.agent.incarnation ≡ g.incarnation
    pub requests : g.requests ≤ r.agent.requests
    pub uploads : g.uploads ≤ r.agent.uploads
    pub one_more : r.agent.uploads ≤ g.uploads + 1
    pub own : AreOwn s a (HadOrNew g r new) r.agent.closed
    pub there : g.uploads + 1 ≤ r.agent.uploads → IsThere r.agent (upload_no a g.incarnation (g.uploads + 1)) new
    pub drawn : Each (IsDrawn s a g.incarnation g.requests r.agent.requests) r.sent
    pub order : Pairs IsBefore r.sent
    pub made : Each (IsSent s a (HadOrNew g r new)) r.sent

  abbrev Begins : Agent Row → Reaction Row → Type 0
  Begins g r = AreOwn s a Had g.closed → Does g r

  still_does : (g : Agent Row) → Begins g (silent g)
  still_does g own =
      record {
        new = [];
        incarnation = refl;
        requests = le_refl _;
        uploads = le_refl _;
        one_more = le-add_right _ _;
        own = own_on s a Had _ (λ u contents h. inl h) g.closed own;
        there = λ more. absurd (omega (arith, more));
        drawn = tt;
        order = tt;
        made = tt;
      }

  begins_does : (g : Agent Row) (x : Closed Row) → Begins (closing g (record x { upload = None })) (begins s rows a g x)
  begins_does g x own =
      let u : UploadNo = upload_no a g.incarnation (g.uploads + 1) in
      let r : Reaction Row = begins s rows a g x in
      let new : HadOrNew g r x.session.contents u x.session.contents = inr (refl, refl, le_refl _) in
      record {
        new = x.session.contents;
        incarnation = refl;
        requests = le-add_right _ _;
        uploads = le-add_right _ _;
        one_more = le_refl _;
        own = ((refl, refl, new), own_on s a Had (HadOrNew g r x.session.contents) (λ v contents h. inl h) g.closed own.1);
        there = λ more. (_, _, (0, omega arith, refl), refl, refl, refl);
        drawn = run_drawn s a g.incarnation _ g.requests (below (clouds_of s));
        order = run_order s a g.incarnation _ g.requests (below (clouds_of s));
        made = run_made s a g.incarnation _ (HadOrNew g r x.session.contents)
            (λ c. (u, x.session.contents, refl, refl, new)) g.requests (below (clouds_of s));
      }

  -- first the answer to what came, then the upload that begins
  draws_does : (g : Agent Row) (first second : Reaction Row) → Draws g first → Does first.agent second → Does g (followed first (λ next. second))
  draws_does g first second h k =
      let r : Reaction Row = followed first (λ next. second) in
      let more : (u : UploadNo) (contents : List ℕ) → HadOrNew first.agent second k.new u contents → HadOrNew g r k.new u contents =
      λ u contents. map_new u contents in
      let later : Each (IsDrawn s a g.incarnation first.agent.requests second.agent.requests) second.sent =
      subst (λ i. Each (IsDrawn s a i first.agent.requests second.agent.requests) second.sent) h.incarnation k.drawn in
      record {
        new = k.new;
        incarnation = k.incarnation ∙ h.incarnation;
        requests = le_trans h.requests k.requests;
        uploads = subst (λ n. n ≤ second.agent.uploads) h.uploads k.uploads;
        one_more = subst (λ n. second.agent.uploads ≤ n + 1) h.uploads k.one_more;
        own = own_on s a (HadOrNew first.agent second k.new) (HadOrNew g r k.new) more second.agent.closed k.own;
        there = λ up. subst (λ i. IsThere second.agent (upload_no a i (g.uploads + 1)) k.new) h.incarnation
            (subst (λ n. IsThere second.agent (upload_no a first.agent.incarnation (n + 1)) k.new) h.uploads
            (k.there (subst (λ n. n + 1 ≤ second.agent.uploads) (sym h.uploads) up)));
        drawn = drawn_join g.incarnation g.requests first.agent.requests second.agent.requests first.sent second.sent h.requests k.requests h.drawn later;
        order = order_join g.incarnation g.requests first.agent.requests second.agent.requests first.sent second.sent h.drawn later h.order k.order;
        made = each-append (IsSent s a (HadOrNew g r k.new)) first.sent second.sent
            (each-map (IsSent s a Had) _ (λ x. made_on s a Had (HadOrNew g r k.new) (λ u contents had. inl had) x.cloud x.body) first.sent h.made)
            (each-map (IsSent s a (HadOrNew first.agent second k.new)) _
            (λ x. made_on s a (HadOrNew first.agent second k.new) (HadOrNew g r k.new) more x.cloud x.body) second.sent k.made);
      }
    where
      map_new : (u : UploadNo) (contents : List ℕ) → HadOrNew first.agent second k.new u contents
          → HadOrNew g (followed first (λ next. second)) k.new u contents
      map_new u contents (inl had) = inl had
      map_new u contents (inr new) =
          inr (
            new.0 ∙ ap (λ i. upload_no a i (first.agent.uploads + 1)) h.incarnation ∙ ap (λ n. upload_no a g.incarnation (n + 1)) h.uploads,
            new.1,
            subst (λ n. n + 1 ≤ second.agent.uploads) h.uploads new.2,
          )

  known_input : (input : Input Row) → has_up input ≡ true → IsInput others input
  known_input (Calls call) up = tt
  known_input (Tells request o) up = any_reply others (λ request sight. tt) request o
  known_input (Hears c request answer) up = tt
  known_input Turns up = tt
  known_input Crashes up = tt
  known_input Starts up = cc

  nexts : (g : Agent Row) → Begins g (next_begun s rows a g g.closed)
  nexts = next_begins s rows a Begins still_does begins_does

  -- whatever comes to an agent that is up
  pub reacted_does : (g : Agent Row) (given : Given) (input : Input Row) → is_up g.life ≡ true → has_up input ≡ true → AreOwn s a Had g.closed
      → Does g (reacted s rows a g given input)
  reacted_does g given input up ups own =
      let first : Reaction Row = responded s rows a g given input in
      let h : Draws g first =
      responds s rows a others given Keeps (moves given) tt g input (up ∙ sym ups) (known_input input ups) own in
      draws_does g first (next_begun s rows a first.agent first.agent.closed) h (nexts first.agent h.own)

  -- a start, as the agent of the next incarnation sees it
  pub started_does : (g : Agent Row) (given : Given) → AreOwn s a Had g.closed → Does (next_life g) (reacted s rows a g given Starts)
  started_does g given own =
      let first : Reaction Row = responded s rows a g given Starts in
      let h : Draws (next_life g) first = quiet (next_life g) first refl (le-add_right _ 1) refl refl own in
      draws_does (next_life g) first (next_begun s rows a first.agent first.agent.closed) h (nexts first.agent h.own)

  -- and an agent that nothing comes to
  pub nothing_does : (g : Agent Row) → AreOwn s a Had g.closed → Does g (silent g)
  nothing_does = still_does

-- The requests that wait are all different and none was served, and the files that they make are new, in fewer than 2^24 events.
use Rattle.std.proofs.Common.{◌≡◌, ℕ, ◌+◌, ◌^◌, ◌<◌, ◌≤◌, List, [], ◌∷◌, ◌++◌, length, Bool, true, false, cond, ◌||◌, refl, sym, subst, ap, ◌∙◌, Some, None, slice_get, slice_set, arith, le_refl, le_trans, zero-le}
use Rattle.std.specs.List.{list_any}
use Rattle.scfs_base.specs.declared.naming.RequestNo.{RequestNo}
use Rattle.scfs_schedule.specs.declared.types.Line.{Line}
use Rattle.scfs_schedule.specs.declared.types.Line.TheVariants as lines
use Rattle.scfs_model.specs.Lists.{moved_back}
use Rattle.scfs_model.specs.Names.{same_request}
use Rattle.scfs_model.specs.Format.{Setup}
use Rattle.scfs_model.specs.History.{Entry, History}
use Rattle.scfs_model.specs.Versions.{Versions}
use Rattle.scfs_model.specs.Given.{Given, given_of}
use Rattle.scfs_model.specs.Lives.{is_up}
use Rattle.scfs_model.specs.Tree.{Node, Tree, live}
use Rattle.scfs_model.specs.NameSteps.{Make, Look}
use Rattle.scfs_model.specs.Steps.{Step, On_names, On_locks, On_sessions, Served, served}
use Rattle.scfs_model.specs.Agents.{Request, Agent, Input, Calls, Tells, Hears, Turns, Crashes, Starts, Reaction}
use Rattle.scfs_model.specs.Reactions.{next_life, reacted}
use Rattle.scfs_model.specs.Events.{At_agent, Call_comes, Turn_comes, Crash_comes, Start_comes, place_of}
use Rattle.scfs_model.specs.States.{Reply, Seat, State, Effect, sum_of, first_seat, comes, at_place}
use Rattle.scfs_model.specs.Runs.{state_after, Follows}
use Rattle.scfs_laws.specs.TreeLaws.{CompletionKeeps}
use Rattle.scfs_laws.specs.Newest.{is_service, before_service}
use Rattle.scfs_laws.proofs.Lists.{Each, Pairs, Places, each-map, each-two, each-append, each-moved, pairs-moved, pairs-join, places_set, places_replicate, same_number}
use Rattle.scfs_laws.proofs.NewestLines.{IsOfAgent, idle_of_agent, comes_of_agent, no_services}
use Rattle.scfs_laws.proofs.Ways.{IsIdle, own_input, up_there, of_event}
use Rattle.scfs_laws.proofs.Moves.{has_up}
use Rattle.scfs_laws.proofs.DrawnMoves.{MakesIn, FilesApart, Apart, files_by, makes_wider, makes_apart, Draws, reacted_draws, started_draws}
use Rattle.scfs_laws.proofs.DrawnServes.{IsNot, NotAhead, MakesNew, line_at, serve_line, serves_other, serve_ids, still_new, made_behind, made_elsewhere, elsewhere_apart}

-- an agent drew a request: one of earlier incarnations, or among so many of this one
abbrev pub WasDrawn : {V : Type 0} → Agent V → RequestNo → Type 0
WasDrawn g r = (r.incarnation ≤ g.incarnation) × (g.incarnation ≤ r.incarnation → r.number ≤ g.requests)

few_files : {V : Type 0} (g : Agent V) (n : ℕ) → g.incarnation ≤ n → g.files ≤ n → n < 2 ^ 24 → files_by g ≤ 2 ^ 56
few_files g n i f small = omega (arith, i, f, small)

-- an entry serves no request of an agent
abbrev IsQuiet : (a : ℕ) → Entry → Type 0
IsQuiet a e = (r : RequestNo) → r.agent ≡ a → list_any (is_service r) e.lines ≡ false

unserved_on : (past : History) (e : Entry) (r : RequestNo) → list_any (is_service r) e.lines ≡ false → before_service r past ≡ None
    → before_service r (e ∷ past) ≡ None
unserved_on past e r quiet h = ap (λ b. cond b (Some past) (before_service r past)) quiet ∙ h

module _ {V : Type 0} where
  -- a request that waits is one that the agent drew
  abbrev IsAsked : (a : ℕ) → Agent V → Request V → Type 0
  IsAsked a g x = (x.number.agent ≡ a) × WasDrawn g x.number × MakesIn a 0 (files_by g) x.step

  -- its agent is in at most the nth incarnation, and drew at most n files in it; what it did not draw was not served
  pub record SeatOk (past : History) (n : ℕ) (nodes : List Node) (a : ℕ) (seat : Seat V) : Type 0 where
    pub incarnation : seat.agent.incarnation ≤ n
    pub files : seat.agent.files ≤ n
    pub ahead : Each (λ (n : Node). NotAhead a (files_by seat.agent) n.id.0) nodes
    pub fresh : (r : RequestNo) → r.agent ≡ a → ¬ WasDrawn seat.agent r → before_service r past ≡ None
    pub drawn : Each (IsAsked a seat.agent) seat.asked
    pub unserved : Each (λ (x : Request V). before_service x.number past ≡ None) seat.asked
    pub new : Each (λ (x : Request V). MakesNew nodes x.step) seat.asked
    pub apart : Pairs Apart seat.asked

  -- without an event of its own, while nodes change
  seat_stays : (past : History) (e : Entry) (n m : ℕ) (nodes nodes2 : List Node) (a : ℕ) (seat : Seat V) → n ≤ m → IsQuiet a e
      → Each (λ (n : Node). NotAhead a (files_by seat.agent) n.id.0) nodes2 → Each (λ (x : Request V). MakesNew nodes2 x.step) seat.asked
      → SeatOk past n nodes a seat → SeatOk (e ∷ past) m nodes2 a seat
  seat_stays past e n m nodes nodes2 a seat more quiet ahead new h =
      record {
        incarnation = omega (arith, h.incarnation, more);
        files = omega (arith, h.files, more);
        ahead = ahead;
        fresh = λ r mine none. unserved_on past e r (quiet r mine) (h.fresh r mine none);
        drawn = h.drawn;
        unserved = each-two (IsAsked a seat.agent) _ _ (λ x d k. unserved_on past e x.number (quiet x.number d.0) k) seat.asked h.drawn h.unserved;
        new = new;
        apart = h.apart;
      }

  -- two requests are apart both ways
  files_turned : (x y : Step V) → FilesApart x y → FilesApart y x
  files_turned (On_names (Make names id)) (On_names (Make others other)) h = λ e. h (sym e)
  files_turned (On_names (Make names id)) _ h = tt
  files_turned (On_names (Look names)) (On_names (Make others other)) h = tt
  files_turned (On_names (Look names)) _ h = tt
  files_turned (On_locks x) (On_names (Make others other)) h = tt
  files_turned (On_locks x) _ h = tt
  files_turned (On_sessions x) (On_names (Make others other)) h = tt
  files_turned (On_sessions x) _ h = tt

  apart_turned : (x y : Request V) → Apart x y → Apart y x
  apart_turned x y h = ((λ one e. h.0 (sym one) (sym e)), files_turned x.step y.step h.1)

  seat_moved : (past : History) (n : ℕ) (nodes : List Node) (a : ℕ) (seat : Seat V) → SeatOk past n nodes a seat
      → SeatOk past n nodes a (record seat { asked = moved_back seat.asked })
  seat_moved past n nodes a seat h =
      record {
        incarnation = h.incarnation;
        files = h.files;
        ahead = h.ahead;
        fresh = h.fresh;
        drawn = each-moved _ seat.asked h.drawn;
        unserved = each-moved _ seat.asked h.unserved;
        new = each-moved _ seat.asked h.new;
        apart = pairs-moved Apart apart_turned seat.asked h.apart;
      }

  -- where its agent begins its next incarnation
  seat_started : (past : History) (nodes : List Node) (a : ℕ) (seat : Seat V) (n m : ℕ) → n < m → m < 2 ^ 24 → SeatOk past n nodes a seat
      → SeatOk past m nodes a (record seat { agent = next_life seat.agent })
  seat_started past nodes a seat n m above small h =
      let more : files_by seat.agent ≤ files_by (next_life seat.agent) = omega (arith, h.files, above, small) in
      record {
        incarnation = omega (arith, h.incarnation, above);
        files = zero-le;
        ahead = each-map _ _ (λ x d less. d (omega (arith, less, more))) nodes h.ahead;
        fresh = λ r mine none. h.fresh r mine (λ d. none (omega (arith, d.0), λ l. omega (arith, d.0, l)));
        drawn = each-map _ _ (λ x d. (
          d.0,
          (omega (arith, d.1.0), λ l. omega (arith, d.1.0, l)),
          makes_wider a 0 (files_by seat.agent) 0 (files_by (next_life seat.agent)) x.step (le_refl _) more d.2,
        )) seat.asked h.drawn;
        unserved = h.unserved;
        new = h.new;
        apart = h.apart;
      }

  -- a file that is drawn next is none of the nodes
  drawn_new : (a files files2 : ℕ) (nodes : List Node) (x : Step V) → files2 ≤ 2 ^ 56 → Each (λ (n : Node). NotAhead a files n.id.0) nodes
      → MakesIn a files files2 x → MakesNew nodes x
  drawn_new a files files2 nodes (On_names (Make names id)) small ahead k =
      each-map (λ n. NotAhead a files n.id.0) (IsNot id) (λ n h same. h (omega (arith, k.0, same)) (omega (arith, k.1, small, same))) nodes ahead
  drawn_new a files files2 nodes (On_names (Look names)) small ahead k = tt
  drawn_new a files files2 nodes (On_locks x) small ahead k = tt
  drawn_new a files files2 nodes (On_sessions x) small ahead k = tt

  -- after a reaction of its agent
  seat_reacted : (s : Setup) (vs : Versions V) (past : History) (nodes : List Node) (a : ℕ) (seat : Seat V) (r : Reaction V) (n k m : ℕ)
      → n + k ≤ m → m < 2 ^ 24 → Draws s vs a k seat.agent r → SeatOk past n nodes a seat
      → SeatOk past m nodes a (record seat { agent = r.agent; asked = seat.asked ++ r.steps })
  seat_reacted s vs past nodes a seat r n k m within small draws h =
      let g : Agent V = seat.agent in
      let more : files_by g ≤ files_by r.agent = omega (arith, draws.0, draws.2) in
      let drew : (q : RequestNo) → WasDrawn g q → WasDrawn r.agent q =
      λ q d. (omega (arith, d.0, draws.0), λ l. le_trans (d.1 (omega (arith, l, draws.0))) draws.1) in
      record {
        incarnation = omega (arith, draws.0, h.incarnation, within);
        files = omega (arith, draws.3, h.files, within);
        ahead = each-map _ _ (λ x d less. d (omega (arith, less, more))) nodes h.ahead;
        fresh = λ q mine none. h.fresh q mine (λ d. none (drew q d));
        drawn = each-append (IsAsked a r.agent) seat.asked r.steps
            (each-map _ _ (λ x d. (d.0, drew x.number d.1, makes_wider a 0 (files_by g) 0 (files_by r.agent) x.step (le_refl _) more d.2)) seat.asked h.drawn)
            (each-map _ _ (λ x d. (
              d.0,
              (omega (arith, d.1, draws.0), λ l. d.3),
              makes_wider a (files_by g) (files_by r.agent) 0 (files_by r.agent) x.step zero-le (le_refl _) d.4,
            )) r.steps draws.4);
        unserved = each-append _ seat.asked r.steps h.unserved
            (each-map _ _ (λ x d. h.fresh x.number d.0 (λ was. omega (arith, was.1 (omega (arith, d.1)), d.2))) r.steps draws.4);
        new = each-append _ seat.asked r.steps h.new
            (each-map _ _ (λ x d. drawn_new a (files_by g) (files_by r.agent) nodes x.step
            (omega (arith, draws.0, draws.3, h.incarnation, h.files, within, small)) h.ahead d.4) r.steps draws.4);
        apart = pairs-join Apart seat.asked r.steps h.apart draws.5
            (each-map _ _ (λ x d. each-map _ _ (λ y f. (
              (λ one same. omega (arith, d.1.1 (omega (arith, f.1, one)), same, f.2)),
              makes_apart a 0 (files_by g) (files_by g) (files_by r.agent) x.step y.step (le_refl _) d.2 f.4,
            )) r.steps draws.4) seat.asked h.drawn);
      }

pub differ : (r q : RequestNo) → ¬ (r ≡ q) → same_request r q ≡ false
differ r q apart = by (same_request r q) refl
  where
    by : (b : Bool) → same_request r q ≡ b → b ≡ false
    by true same = absurd (apart (same_number r q same))
    by false same = refl

-- where a step is served
module _ {V : Type 0} (vs : Versions V) (keeps : CompletionKeeps vs) (past : History) (e : Entry) (tree : Tree V) (now lease a : ℕ) (seat : Seat V)
    (oldest : Request V) (rest : List (Request V)) (same : e.lines ≡ line_at vs keeps tree now lease oldest.number oldest.step ∷ [])
    (n m : ℕ) (more : n ≤ m) (small : n < 2 ^ 24) (h : SeatOk past n tree.nodes a (record seat { asked = oldest ∷ rest })) where
  abbrev x : Served V
  x = served vs tree now lease oldest.number oldest.step

  quiet_for : (q : RequestNo) → ¬ (oldest.number ≡ q) → list_any (is_service q) e.lines ≡ false
  quiet_for q apart =
      ap (list_any (is_service q)) same
      ∙ ap (λ b. b || false) (serves_other oldest.number q _ (serve_line vs keeps tree now lease oldest.number oldest.step) (differ oldest.number q apart))

  seat_served : (replied : List (Reply V)) → SeatOk (e ∷ past) m x.tree.nodes a (record seat { asked = rest; replied = replied })
  seat_served replied =
      record {
        incarnation = omega (arith, h.incarnation, more);
        files = omega (arith, h.files, more);
        ahead = serve_ids vs keeps tree now lease oldest.number (NotAhead a (files_by seat.agent)) oldest.step h.ahead
            (made_behind a (files_by seat.agent) oldest.step h.drawn.0.2);
        fresh = λ r mine none. unserved_on past e r (quiet_for r (λ is. none (subst (WasDrawn seat.agent) is h.drawn.0.1))) (h.fresh r mine none);
        drawn = h.drawn.1;
        unserved = each-two (Apart oldest) _ _ (λ y apart k. unserved_on past e y.number (quiet_for y.number (λ is.
            apart.0 (ap (λ (r : RequestNo). r.incarnation) is) (ap (λ (r : RequestNo). r.number) is))) k) rest h.apart.0 h.unserved.1;
        new = each-two (Apart oldest) _ _ (λ y apart k. still_new vs keeps tree now lease oldest.number oldest.step y.step apart.1 k)
            rest h.apart.0 h.new.1;
        apart = h.apart.1;
      }

  seat_other : (b : ℕ) → ¬ (b ≡ a) → (y : Seat V) → SeatOk past n tree.nodes b y → SeatOk (e ∷ past) m x.tree.nodes b y
  seat_other b other y g =
      let its : files_by seat.agent ≤ 2 ^ 56 = few_files seat.agent n h.incarnation h.files small in
      seat_stays past e n m tree.nodes x.tree.nodes b y more
      (λ r mine. quiet_for r (λ is. other (sym mine ∙ (sym (ap (λ (r : RequestNo). r.agent) is) ∙ h.drawn.0.0))))
      (serve_ids vs keeps tree now lease oldest.number (NotAhead b (files_by y.agent)) oldest.step g.ahead
      (made_elsewhere a b (files_by seat.agent) (files_by y.agent) oldest.step other its h.drawn.0.2))
      (each-two (IsAsked b y.agent) (λ (z : Request V). MakesNew tree.nodes z.step) (λ (z : Request V). MakesNew x.tree.nodes z.step)
      (λ z d new. still_new vs keeps tree now lease oldest.number oldest.step z.step (elsewhere_apart a b (files_by seat.agent) (files_by y.agent)
      oldest.step z.step other its (few_files y.agent n g.incarnation g.files small) h.drawn.0.2 d.2) new)
      y.asked g.drawn g.new)
      g

module _ {V : Type 0} (s : Setup) (vs : Versions V) (keeps : CompletionKeeps vs) where
  -- what is known of all seats
  pub record StateOk (past : History) (state : State V) : Type 0 where
    pub seats : Places (SeatOk past (length past) state.tree.nodes) state.seats

  module _ (past : History) (e : Entry) (small : length (e ∷ past) < 2 ^ 24) (state : State V) (given : Given) (h : StateOk past state) where
    abbrev m : ℕ
    m = length (e ∷ past)

    abbrev IsFine : Effect V → Type 0
    IsFine x = e.lines ≡ x.lines → StateOk (e ∷ past) x.state

    -- no request is served
    module _ (quiet : Each IsOfAgent e.lines) where
      stays : (b : ℕ) (y : Seat V) → SeatOk past (length past) state.tree.nodes b y → SeatOk (e ∷ past) m state.tree.nodes b y
      stays b y g =
          seat_stays past e (length past) m state.tree.nodes state.tree.nodes b y (omega arith) (λ r mine. no_services r e.lines quiet) g.ahead g.new g

      all_stay : Places (SeatOk (e ∷ past) m state.tree.nodes) state.seats
      all_stay b y found = stays b y (h.seats b y found)

      set : (a : ℕ) (old new : Seat V) → slice_get state.seats a ≡ Some old → SeatOk (e ∷ past) m state.tree.nodes a new
          → Places (SeatOk (e ∷ past) m state.tree.nodes) (slice_set state.seats a new)
      set a old new found here = places_set (SeatOk (e ∷ past) m state.tree.nodes) state.seats a old new found here (λ b other y there. all_stay b y there)

      -- an agent at a seat did something
      did : (a : ℕ) (old seat : Seat V) (r : Reaction V) (n k : ℕ) → slice_get state.seats a ≡ Some old → n + k ≤ m → Draws s vs a k seat.agent r
          → SeatOk past n state.tree.nodes a seat
          → StateOk (e ∷ past) (record state { seats = slice_set state.seats a (record seat { agent = r.agent; asked = seat.asked ++ r.steps }) })
      did a old seat r n k found within draws g =
          let next : SeatOk past m state.tree.nodes a (record seat { agent = r.agent; asked = seat.asked ++ r.steps }) =
          seat_reacted s vs past state.tree.nodes a seat r n k m within small draws g in
          record {
            seats = set a old _ found (seat_stays past e m m state.tree.nodes state.tree.nodes a _ (le_refl m) (λ q mine. no_services q e.lines quiet)
                next.ahead next.new next);
          }

    come : (a : ℕ) (old seat : Seat V) (first : List Line) (input : Input V) → slice_get state.seats a ≡ Some old → Each IsIdle first
        → is_up seat.agent.life ≡ true → has_up input ≡ true
        → SeatOk past (length past) state.tree.nodes a seat → IsFine (comes s vs state a given first input seat)
    come a old seat first input found idle up ups g same =
        did (subst (Each IsOfAgent) (sym same) (comes_of_agent s vs state a given first input seat idle)) a old seat
        (reacted s vs a seat.agent given input) (length past) 1 found (omega arith) (reacted_draws s vs a seat.agent up given input ups) g

    own : (a : ℕ) (seat : Seat V) (x : At_agent) → slice_get state.seats a ≡ Some seat → is_up seat.agent.life ≡ has_up {V = V} (own_input x)
        → IsFine (comes s vs state a given [] (own_input x) seat)
    own a seat (Call_comes call) found up = come a seat seat [] (Calls call) found tt up refl (h.seats a seat found)
    own a seat Turn_comes found up = come a seat seat [] Turns found tt up refl (h.seats a seat found)
    own a seat Crash_comes found up = come a seat seat [] Crashes found tt up refl (h.seats a seat found)
    own a seat Start_comes found up = λ same.
        did (subst (Each IsOfAgent) (sym same) (comes_of_agent s vs state a given [] Starts seat tt)) a seat
        (record seat { agent = next_life seat.agent }) (reacted s vs a seat.agent given Starts) m 0 found (omega arith)
        (started_draws s vs a seat.agent given)
        (seat_started past state.tree.nodes a seat (length past) m (omega arith) small (h.seats a seat found))

    fewer : (a : ℕ) (seat : Seat V) (replied : List (Reply V)) → slice_get state.seats a ≡ Some seat
        → SeatOk past (length past) state.tree.nodes a (record seat { replied = replied })
    fewer a seat replied found =
        let g : SeatOk past (length past) state.tree.nodes a seat = h.seats a seat found in
        record {
          incarnation = g.incarnation;
          files = g.files;
          ahead = g.ahead;
          fresh = g.fresh;
          drawn = g.drawn;
          unserved = g.unserved;
          new = g.new;
          apart = g.apart;
        }

    next_state : e.lines ≡ (at_place s vs state e.message given (place_of e.event)).lines
        → StateOk (e ∷ past) (at_place s vs state e.message given (place_of e.event)).state
    next_state =
        of_event s vs state given e.message IsFine (place_of e.event)
        (record {
          nothing = λ shown idle bare same. record { seats = all_stay (subst (Each IsOfAgent) (sym same) (each-map IsIdle IsOfAgent idle_of_agent shown idle)) };
          later = λ ticks same. record { seats = all_stay (subst (Each IsOfAgent) (sym same) tt) };
          gone = λ a seat request found same.
              let quiet : Each IsOfAgent e.lines = subst (Each IsOfAgent) (sym same) (tt, tt) in
              record { seats = set quiet a seat seat found (all_stay quiet a seat found) };
          missed = λ a seat oldest rest found is away same.
              let quiet : Each IsOfAgent e.lines = subst (Each IsOfAgent) (sym same) (tt, tt) in
              record { seats = set quiet a seat _ found (stays quiet a _ (fewer a seat rest found)) };
          own = λ a seat x found is up. own a seat x found up;
          hears = λ c request answer seat found is about there.
              come request.agent seat seat (lines.Gave c request (sum_of s answer) ∷ []) (Hears c request answer) found (tt, tt)
              (up_there seat.agent request there) refl (h.seats request.agent seat found);
          told = λ a seat oldest rest found is there.
              come a seat (record seat { replied = rest }) [] (Tells oldest.number oldest.outcome) found tt
              (up_there seat.agent oldest.number there) refl (fewer a seat rest found);
          serve = λ a seat oldest rest found is at same.
              let g : SeatOk past (length past) state.tree.nodes a (record seat { asked = oldest ∷ rest }) =
              subst (λ xs. SeatOk past (length past) state.tree.nodes a (record seat { asked = xs })) is (h.seats a seat found) in
              let t : Tree V = live state.clock state.tree in
              record {
                seats = places_set (SeatOk (e ∷ past) m _) state.seats a seat _ found
                    (seat_served vs keeps past e t state.clock s.header.lease a seat oldest rest same (length past) m (omega arith) (omega (arith, small)) g _)
                    (λ b other y there. seat_other vs keeps past e t state.clock s.header.lease a seat oldest rest same (length past) m (omega arith)
                    (omega (arith, small)) g b other y (h.seats b y there));
              };
          postpone = λ a seat oldest rest found is same.
              let quiet : Each IsOfAgent e.lines = subst (Each IsOfAgent) (sym same) tt in
              record { seats = set quiet a seat _ found (stays quiet a _ (seat_moved past (length past) state.tree.nodes a seat (h.seats a seat found))) };
        })

  pub state_ok : (past : History) → length past < 2 ^ 24 → Follows s vs past → StateOk past (state_after s vs past)
  state_ok [] small follows = record {
    seats = places_replicate (SeatOk [] 0 []) (length s.header.agents) (first_seat s) (λ a. record {
      incarnation = le_refl _;
      files = le_refl _;
      ahead = tt;
      fresh = λ r mine none. refl;
      drawn = tt;
      unserved = tt;
      new = tt;
      apart = tt;
    });
  }
  state_ok (e ∷ past) small follows =
      next_state past e small (state_after s vs past) (given_of (state_after s vs past).clock e)
      (state_ok past (omega (arith, small)) follows.1) follows.0

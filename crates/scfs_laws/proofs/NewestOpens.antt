-- In every run of fewer than 2^24 events each open is of the newest version of its file.
use Rattle.std.proofs.Common.{◌≡◌, ℕ, ◌+◌, ◌^◌, ◌<◌, List, [], ◌∷◌, length, Bool, true, false, cond, ◌||◌, refl, sym, subst, ap, ◌∙◌, Option, Some, None, IfSome, Ok, Err, fold, arith, slice_get, slice_set, eqb, eqb-true, eq-eqb, true≢false}
use Rattle.std.specs.List.{list_any}
use Rattle.scfs_schedule.specs.declared.types.Line.{Line}
use Rattle.scfs_schedule.specs.declared.types.Line.TheVariants as lines
use Rattle.scfs_model.specs.Format.{Setup}
use Rattle.scfs_model.specs.History.{Entry, History}
use Rattle.scfs_model.specs.Versions.{Versions}
use Rattle.scfs_model.specs.Lives.{is_up}
use Rattle.scfs_model.specs.Layers.{rows, closes}
use Rattle.scfs_model.specs.Given.{Given, given_of}
use Rattle.scfs_model.specs.Tree.{Tree, live}
use Rattle.scfs_model.specs.Walks.{OrRefusal}
use Rattle.scfs_model.specs.SessionSteps.{Sight, Session_step, Session_outcome, Sees, Locks, Completes, session_outcome}
use Rattle.scfs_model.specs.Steps.{Step, On_names, On_locks, On_sessions, Of_sessions, Served, served}
use Rattle.scfs_model.specs.Agents.{Request, Input, Tells, Hears, Reaction, Opening}
use Rattle.scfs_model.specs.Reactions.{reacted}
use Rattle.scfs_model.specs.Events.{At_agent, Call_comes, Turn_comes, Crash_comes, Start_comes, place_of}
use Rattle.scfs_model.specs.States.{Reply, Seat, State, Effect, sum_of, first_seat, comes, serves, at_place}
use Rattle.scfs_model.specs.Runs.{state_after, Follows, Happens, Run}
use Rattle.scfs_laws.specs.TreeLaws.{CompletionKeeps}
use Rattle.scfs_laws.specs.Newest.{Saw_line, is_service, after_commit, last_committed, before_service, latest_saw, WasNewest, AreShown, OpensNewest}
use Rattle.scfs_laws.specs.Sound.{open_of}
use Rattle.scfs_laws.proofs.Lists.{Each, Places, each-map, each-append, places_set, places_replicate}
use Rattle.scfs_laws.proofs.NewestLines.{IsOfAgent, IsNoCommit, idle_of_agent, no_commit_of-agent, comes_of_agent, no_commits, no_services}
use Rattle.scfs_laws.proofs.NewestTree.{TreeOk, tree_said}
use Rattle.scfs_laws.proofs.NewestServes.{SeenAt, SeenBy, serve_tree, serve_seen}
use Rattle.scfs_laws.proofs.NewestMoves.{IsOpen, after_says, WaitOk, SightOk, known, whole_reacted}
use Rattle.scfs_laws.proofs.NewestShown.{IsDull, idle_dull, step_dull, Goes, dull_goes, own_goes, other_goes}
use Rattle.scfs_laws.proofs.Ways.{IsIdle, own_input, up_there, of_event}
use Rattle.scfs_laws.proofs.Moves.{IsReply, reply_on, IsInput, has_up}
use Rattle.scfs_laws.proofs.DrawnServes.{line_at, serve_line, serves_other}
use Rattle.scfs_laws.proofs.DrawnSeats as drawn

-- what was the newest is known as it after an entry that does not serve its request
newest_on : (past : History) (e : Entry) (saw : Saw_line) → list_any (is_service saw.request) e.lines ≡ false → WasNewest past saw
    → WasNewest (e ∷ past) saw
newest_on past e saw quiet h = (h.0, ap (λ b. cond b (Some past) (before_service saw.request past)) quiet ∙ h.1, h.2)

module _ {V : Type 0} (s : Setup) (vs : Versions V) where
  abbrev ReplyOk : History → (a : ℕ) → Reply V → Type 0
  ReplyOk past a y = IsReply (known s vs past a) y.number y.outcome

  -- what is known of an agent's open, by its latest saw line, and of what the space replied to it
  record SeatOk (past : History) (a : ℕ) (seat : Seat V) : Type 0 where
    waiting : WaitOk vs past (latest_saw a past) seat.agent.waiting
    replied : Each (ReplyOk past a) seat.replied

  -- nodes are at what was committed
  record StateOk (past : History) (state : State V) : Type 0 where
    tree : TreeOk vs (λ id. last_committed id past) state.tree.nodes state.tree.versions
    seats : Places (SeatOk past) state.seats

  open_on : (past : History) (e : Entry) → ((saw : Saw_line) → WasNewest past saw → WasNewest (e ∷ past) saw) → (latest : Option Saw_line)
      → (there : Option (Opening V)) → IfSome there (IsOpen vs past latest) → IfSome there (IsOpen vs (e ∷ past) latest)
  open_on past e on latest None h = tt
  open_on past e on None (Some o) h = h
  open_on past e on (Some saw) (Some o) h = ((h.0.0, on saw h.0.1), h.1)

  replies_on : (past : History) (e : Entry) → ((saw : Saw_line) → WasNewest past saw → WasNewest (e ∷ past) saw) → (a : ℕ) (ys : List (Reply V))
      → Each (ReplyOk past a) ys → Each (ReplyOk (e ∷ past) a) ys
  replies_on past e on a ys h =
      each-map _ _ (λ y. reply_on (known s vs past a) (known s vs (e ∷ past) a) (λ request sight k. (k.0, on _ k.1, k.2)) y.number y.outcome) ys h

  module _ (past : History) (e : Entry) (state : State V) (given : Given) (h : StateOk past state) where
    abbrev IsFine : Effect V → Type 0
    IsFine x = e.lines ≡ x.lines → StateOk (e ∷ past) x.state × ((b : ℕ) → AreShown past b (latest_saw b past) e.lines)

    -- an entry whose lines show to each agent what they should, and serve nothing that was the newest
    seat_on : ((saw : Saw_line) → WasNewest past saw → WasNewest (e ∷ past) saw) → (b : ℕ) (seat : Seat V)
        → latest_saw b (e ∷ past) ≡ latest_saw b past → SeatOk past b seat → SeatOk (e ∷ past) b seat
    seat_on on b seat same g =
        record {
          waiting = subst (λ latest. WaitOk vs (e ∷ past) latest seat.agent.waiting) (sym same)
              (open_on past e on (latest_saw b past) (open_of seat.agent.waiting) g.waiting);
          replied = replies_on past e on b seat.replied g.replied;
        }

    -- no request is served, and nothing committed
    module _ (quiet : Each IsOfAgent e.lines) where
      on : (saw : Saw_line) → WasNewest past saw → WasNewest (e ∷ past) saw
      on saw k = newest_on past e saw (no_services saw.request e.lines quiet) k

      tree_on : TreeOk vs (λ id. last_committed id (e ∷ past)) state.tree.nodes state.tree.versions
      tree_on =
          tree_said vs (λ id. last_committed id past) (λ id. last_committed id (e ∷ past)) state.tree.nodes state.tree.versions
          (λ id. no_commits id (last_committed id past) e.lines (each-map IsOfAgent IsNoCommit no_commit_of-agent e.lines quiet)) h.tree

    -- nothing is shown
    module _ (quiet : Each IsOfAgent e.lines) (dull : Each IsDull e.lines) where
      unseen : (b : ℕ) → Goes past b (latest_saw b past) e.lines (latest_saw b past)
      unseen b = dull_goes past b (latest_saw b past) e.lines dull

      stays : (b : ℕ) (seat : Seat V) → SeatOk past b seat → SeatOk (e ∷ past) b seat
      stays b seat g = seat_on (on quiet) b seat (unseen b).1 g

      still : (StateOk (e ∷ past) state) × ((b : ℕ) → AreShown past b (latest_saw b past) e.lines)
      still = (record { tree = tree_on quiet; seats = λ b seat found. stays b seat (h.seats b seat found) }, λ b. (unseen b).0)

      set : (a : ℕ) (old new : Seat V) → slice_get state.seats a ≡ Some old → SeatOk past a new
          → (StateOk (e ∷ past) (record state { seats = slice_set state.seats a new })) × ((b : ℕ) → AreShown past b (latest_saw b past) e.lines)
      set a old new found here = (
        record {
          tree = tree_on quiet;
          seats = places_set (SeatOk (e ∷ past)) state.seats a old new found (stays a new here)
              (λ b other seat there. stays b seat (h.seats b seat there));
        },
        λ b. (unseen b).0,
      )

    fewer : (a : ℕ) (seat : Seat V) (oldest : Reply V) (rest : List (Reply V)) → slice_get state.seats a ≡ Some seat → seat.replied ≡ oldest ∷ rest
        → SeatOk past a (record seat { replied = oldest ∷ rest })
    fewer a seat oldest rest found is = subst (λ xs. SeatOk past a (record seat { replied = xs })) is (h.seats a seat found)

    -- something comes to an agent
    come : (a : ℕ) (old seat : Seat V) (first : List Line) (input : Input V) → slice_get state.seats a ≡ Some old → Each IsIdle first
        → is_up seat.agent.life ≡ has_up input → IsInput (known s vs past a) input → SeatOk past a seat → IsFine (comes s vs state a given first input seat)
    come a old seat first input found idle up fits g same =
        let r : Reaction V = reacted s vs a seat.agent given input in
        let whole = whole_reacted s vs past a seat.agent given input up fits (latest_saw a past) g.waiting in
        let quiet : Each IsOfAgent e.lines = subst (Each IsOfAgent) (sym same) (comes_of_agent s vs state a given first input seat idle) in
        let mine : Goes past a (latest_saw a past) e.lines (after_says (latest_saw a past) r.says) =
        subst (λ ls. Goes past a (latest_saw a past) ls (after_says (latest_saw a past) r.says)) (sym same)
        (own_goes past a s first idle r.sent (latest_saw a past) r.says whole.0) in
        let others : (b : ℕ) → ¬ (b ≡ a) → Goes past b (latest_saw b past) e.lines (latest_saw b past) = λ b other.
        subst (λ ls. Goes past b (latest_saw b past) ls (latest_saw b past)) (sym same)
        (other_goes past b s first idle r.sent (latest_saw b past) a other (latest_saw a past) r.says whole.0) in (
          record {
            tree = tree_on quiet;
            seats = places_set (SeatOk (e ∷ past)) state.seats a old _ found
                (record {
                  waiting = subst (λ latest. WaitOk vs (e ∷ past) latest r.agent.waiting) (sym mine.1)
                      (open_on past e (on quiet) (after_says (latest_saw a past) r.says) (open_of r.agent.waiting) whole.1);
                  replied = replies_on past e (on quiet) a seat.replied g.replied;
                })
                (λ b other seat there. seat_on (on quiet) b seat (others b other).1 (h.seats b seat there));
          },
          λ b. shown a b mine.0 (λ other. (others b other).0) (eqb b a) refl,
        )
      where
        shown : (a b : ℕ) → AreShown past a (latest_saw a past) e.lines → (¬ (b ≡ a) → AreShown past b (latest_saw b past) e.lines) → (t : Bool)
            → eqb b a ≡ t → AreShown past b (latest_saw b past) e.lines
        shown a b mine others true is = subst (λ k. AreShown past k (latest_saw k past) e.lines) (sym (eqb-true b a is)) mine
        shown a b mine others false is = others (λ same. true≢false (sym (eq-eqb b a same) ∙ is))

    own_fits : (a : ℕ) (x : At_agent) → IsInput (known s vs past a) (own_input x)
    own_fits a (Call_comes call) = tt
    own_fits a Turn_comes = tt
    own_fits a Crash_comes = tt
    own_fits a Start_comes = tt

-- a step is served
module _ {V : Type 0} (s : Setup) (vs : Versions V) (keeps : CompletionKeeps vs) (past : History) (e : Entry) (state : State V) (h : StateOk s vs past state)
    (a : ℕ) (oldest : Request V) (mine : oldest.number.agent ≡ a) (unserved : before_service oldest.number past ≡ None)
    (same : e.lines ≡ line_at vs keeps (live state.clock state.tree) state.clock s.header.lease oldest.number oldest.step ∷ []) where
  abbrev t : Tree V
  t = live state.clock state.tree

  abbrev now : ℕ
  now = state.clock

  abbrev lease : ℕ
  lease = s.header.lease

  abbrev l : Line
  l = line_at vs keeps t now lease oldest.number oldest.step

  none_some : {X : Type 0} (x : X) → None ≡ Some x → ⊥
  none_some x e = cc

  served_on : (saw : Saw_line) → WasNewest past saw → WasNewest (e ∷ past) saw
  served_on saw k =
      newest_on past e saw
      (ap (list_any (is_service saw.request)) same
      ∙ ap (λ b. b || false) (serves_other oldest.number saw.request l (serve_line vs keeps t now lease oldest.number oldest.step)
      (drawn.differ oldest.number saw.request (λ is. none_some k.0 (sym unserved ∙ ap (λ r. before_service r past) is ∙ k.1))))) k

  sight_known : (sight : Sight V) → SeenAt vs keeps t now lease oldest.number (λ id. last_committed id past) h.tree l sight
      → SightOk vs (e ∷ past) a oldest.number sight
  sight_known sight k = (
    mine,
    (
      past,
      ap (λ xs. cond (list_any (is_service oldest.number) xs) (Some past) (before_service oldest.number past)) same
          ∙ ap (λ b. cond (b || false) (Some past) (before_service oldest.number past)) k.2,
      k.0,
    ),
    k.1,
  )

  reply_seen : (y : Session_step V) (r : OrRefusal (Session_outcome V))
      → SeenBy vs keeps t now lease oldest.number (λ id. last_committed id past) h.tree l r
      → IsReply (known s vs (e ∷ past) a) oldest.number (Of_sessions y r)
  reply_seen y (Ok (Sees sight)) k = sight_known sight k
  reply_seen y (Ok (Locks sight lock)) k = sight_known sight k
  reply_seen y (Ok (Completes session v n)) k = tt
  reply_seen y (Err why) k = tt

  step_seen : (step : Step V) → step ≡ oldest.step
      → IsReply (known s vs (e ∷ past) a) oldest.number (served vs t now lease oldest.number step).outcome
  step_seen (On_names y) is = tt
  step_seen (On_locks y) is = tt
  step_seen (On_sessions y) is =
      reply_seen y (session_outcome vs t now (now + lease) oldest.number y)
      (subst (λ z. SeenBy vs keeps t now lease oldest.number (λ id. last_committed id past) h.tree (line_at vs keeps t now lease oldest.number z)
      (session_outcome vs t now (now + lease) oldest.number y)) is
      (serve_seen vs keeps t now lease oldest.number (λ id. last_committed id past) h.tree y))

module _ {V : Type 0} (s : Setup) (vs : Versions V) (keeps : CompletionKeeps vs) where
  module _ (past : History) (e : Entry) (state : State V) (given : Given) (h : StateOk s vs past state) (d : drawn.StateOk s vs keeps past state) where
    fine_serve : (a : ℕ) (seat : Seat V) (oldest : Request V) (rest : List (Request V)) → slice_get state.seats a ≡ Some seat
        → seat.asked ≡ oldest ∷ rest → IsFine s vs past e state given h (serves s vs state a seat (oldest ∷ rest))
    fine_serve a seat oldest rest found is same =
        let t : Tree V = live state.clock state.tree in
        let x : Served V = served vs t state.clock s.header.lease oldest.number oldest.step in
        let g : drawn.SeatOk past (length past) state.tree.nodes a (record seat { asked = oldest ∷ rest }) =
        subst (λ xs. drawn.SeatOk past (length past) state.tree.nodes a (record seat { asked = xs })) is (d.seats a seat found) in
        let mine : oldest.number.agent ≡ a = g.drawn.0.0 in
        let on = served_on s vs keeps past e state h a oldest mine g.unserved.0 same in
        let dull : Each IsDull e.lines = subst (Each IsDull) (sym same)
        (step_dull oldest.number _ (serve_line vs keeps t state.clock s.header.lease oldest.number oldest.step), tt) in
        let goes : (b : ℕ) → Goes past b (latest_saw b past) e.lines (latest_saw b past) = λ b. dull_goes past b (latest_saw b past) e.lines dull in
        let mine_on : SeatOk s vs (e ∷ past) a seat = seat_on s vs past e state given h on a seat (goes a).1 (h.seats a seat found) in (
          record {
            tree = subst (λ xs. TreeOk vs (λ id. fold (after_commit id) (last_committed id past) xs) x.tree.nodes x.tree.versions) (sym same)
                (serve_tree vs keeps t state.clock s.header.lease oldest.number (λ id. last_committed id past) h.tree oldest.step g.new.0);
            seats = places_set (SeatOk s vs (e ∷ past)) state.seats a seat _ found
                (record {
                  waiting = mine_on.waiting;
                  replied = each-append _ seat.replied _ mine_on.replied
                      (step_seen s vs keeps past e state h a oldest mine g.unserved.0 same oldest.step refl, tt);
                })
                (λ b other y there. seat_on s vs past e state given h on b y (goes b).1 (h.seats b y there));
          },
          λ b. (goes b).0,
        )

    next_state : e.lines ≡ (at_place s vs state e.message given (place_of e.event)).lines
        → (StateOk s vs (e ∷ past) (at_place s vs state e.message given (place_of e.event)).state)
        × ((b : ℕ) → AreShown past b (latest_saw b past) e.lines)
    next_state =
        of_event s vs state given e.message (IsFine s vs past e state given h) (place_of e.event)
        (record {
          nothing = λ shown idle bare same. still s vs past e state given h
              (subst (Each IsOfAgent) (sym same) (each-map IsIdle IsOfAgent idle_of_agent shown idle))
              (subst (Each IsDull) (sym same) (each-map IsIdle IsDull idle_dull shown idle));
          later = λ ticks same.
              let k = still s vs past e state given h (subst (Each IsOfAgent) (sym same) tt) (subst (Each IsDull) (sym same) tt) in
              (record { tree = k.0.tree; seats = k.0.seats }, k.1);
          gone = λ a seat request found same. set s vs past e state given h (subst (Each IsOfAgent) (sym same) (tt, tt))
              (subst (Each IsDull) (sym same) (tt, tt)) a seat seat found (h.seats a seat found);
          missed = λ a seat oldest rest found is away same.
              let g = fewer s vs past e state given h a seat oldest rest found is in
              set s vs past e state given h (subst (Each IsOfAgent) (sym same) (tt, tt)) (subst (Each IsDull) (sym same) (tt, tt)) a seat _ found
              (record { waiting = g.waiting; replied = g.replied.1 });
          own = λ a seat x found is up. come s vs past e state given h a seat seat [] (own_input x) found tt up (own_fits s vs past e state given h a x)
              (h.seats a seat found);
          hears = λ c request answer seat found is about there.
              come s vs past e state given h request.agent seat seat (lines.Gave c request (sum_of s answer) ∷ []) (Hears c request answer) found (tt, tt)
              (up_there seat.agent request there) tt (h.seats request.agent seat found);
          told = λ a seat oldest rest found is there.
              let g = fewer s vs past e state given h a seat oldest rest found is in
              come s vs past e state given h a seat (record seat { replied = rest }) [] (Tells oldest.number oldest.outcome) found tt
              (up_there seat.agent oldest.number there) g.replied.0 (record { waiting = g.waiting; replied = g.replied.1 });
          serve = λ a seat oldest rest found is at. fine_serve a seat oldest rest found is;
          postpone = λ a seat oldest rest found is same.
              let g : SeatOk s vs past a seat = h.seats a seat found in
              set s vs past e state given h (subst (Each IsOfAgent) (sym same) tt) (subst (Each IsDull) (sym same) tt) a seat _ found
              (record { waiting = g.waiting; replied = g.replied });
        })

  -- of requests that wait and files that they make, over fewer than 2^24 events
  pub state_ok : (past : History) → length past < 2 ^ 24 → Follows s vs past → drawn.StateOk s vs keeps past (state_after s vs past)
  state_ok past small follows = drawn.state_ok s vs keeps past small follows

  all_ok : (past : History) → length past < 2 ^ 24 → Follows s vs past → StateOk s vs past (state_after s vs past) × OpensNewest past
  all_ok [] small follows = (
    record {
      tree = record { apart = tt; newest = tt; fresh = λ id none. refl };
      seats = places_replicate (SeatOk s vs []) (length s.header.agents) (first_seat s) (λ a. record { waiting = tt; replied = tt });
    },
    tt,
  )
  all_ok (e ∷ past) small follows =
      let less : length past < 2 ^ 24 = omega (arith, small) in
      let before = all_ok past less follows.1 in
      let now = next_state past e (state_after s vs past) (given_of (state_after s vs past).clock e) before.0 (state_ok past less follows.1) follows.0 in
      (now.0, (now.1, before.1))

-- in every run of fewer than 2^24 events each open is of the newest version of its file
pub opens_are_newest : {V : Type 0} (s : Setup) (vs : Versions V) (past : History) → CompletionKeeps vs → length past < 2 ^ 24 → Follows s vs past
    → OpensNewest past
opens_are_newest s vs past keeps small follows = (all_ok s vs keeps past small follows).1

pub rows_keep : CompletionKeeps rows
rows_keep = record { file = λ v now. refl; number = λ v now. refl }

pub closes_keep : (s : Setup) → CompletionKeeps (closes s)
closes_keep s = record { file = λ v now. refl; number = λ v now. refl }

-- in all that happens, and in every run of the file map
pub opens_are_newest_rows : (s : Setup) (past : History) → length past < 2 ^ 24 → Happens s past → OpensNewest past
opens_are_newest_rows s past small happens = opens_are_newest s rows past rows_keep small happens

pub opens_are_newest_closes : (s : Setup) (past : History) → length past < 2 ^ 24 → Run s past → OpensNewest past
opens_are_newest_closes s past small run = opens_are_newest s (closes s) past (closes_keep s) small run

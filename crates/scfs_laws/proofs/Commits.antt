-- Where a committed line comes from: the space served the close of a session that had its lock, on the version before.
use Rattle.std.proofs.Common.{◌≡◌, ℕ, ◌+◌, ◌-◌, List, [], ◌∷◌, ◌++◌, refl, Option, Some, Contains, slice_get}
use Rattle.scfs_base.specs.declared.naming.FileId.{FileId}
use Rattle.scfs_base.specs.declared.naming.RequestNo.{RequestNo}
use Rattle.scfs_schedule.specs.declared.types.Line.{Line}
use Rattle.scfs_schedule.specs.declared.types.Line.TheVariants as lines
use Rattle.scfs_model.specs.Format.{Setup}
use Rattle.scfs_model.specs.History.{Message}
use Rattle.scfs_model.specs.Versions.{Versions}
use Rattle.scfs_model.specs.Given.{Given}
use Rattle.scfs_model.specs.Tree.{Node, Lock, Tree, live, node_at, session_lock}
use Rattle.scfs_model.specs.NameSteps.{name_outcome}
use Rattle.scfs_model.specs.LockSteps.{lock_outcome}
use Rattle.scfs_model.specs.SessionSteps.{Commit, session_after, session_line}
use Rattle.scfs_model.specs.Steps.{Step, On_names, On_locks, On_sessions, Served, after_ok, line_of, served, served_line}
use Rattle.scfs_model.specs.Agents.{Request, Input, Tells, Hears}
use Rattle.scfs_model.specs.Events.{Step_served, Place, Space_has}
use Rattle.scfs_model.specs.States.{Seat, State, Effect, comes, sum_of, at_place}
use Rattle.scfs_laws.proofs.Lists.{Each, each-map, each_of-contains}
use Rattle.scfs_laws.proofs.NewestLines.{IsNoCommit, idle_no_commit, comes_no_commit, names_commit_nothing, locks_commit_nothing}
use Rattle.scfs_laws.proofs.Ways.{IsIdle, own_input, of_event}
use Rattle.scfs_laws.proofs.NamesSteps.{session_cases}

module _ {V : Type 0} (s : Setup) (vs : Versions V) (state : State V) (given : Given) (message : Option Message) (place : Place) where
  abbrev now : ℕ
  now = state.clock

  abbrev tree : Tree V
  tree = live now state.tree

  -- the oldest step at a seat is the close, and these are the versions after it
  pub record IsCompleted (versions : List V) (request : RequestNo) (file : FileId) (number : ℕ) : Type 0 where
    pub a : ℕ
    pub seat : Seat V
    pub rest : List (Request V)
    pub session : ℕ
    pub version : V
    pub lock : Lock
    pub node : Node
    pub found : slice_get state.seats a ≡ Some seat
    pub asked : seat.asked ≡ (record { number = request; step = On_sessions (Commit session version) }) ∷ rest
    pub is : place ≡ Space_has a Step_served
    pub held : session_lock tree.locks request (vs.file version) session ≡ Some lock
    pub at : node_at tree.nodes (vs.file version) (vs.number version - 1) ≡ Some node
    pub of_file : vs.file (vs.completed version now) ≡ file
    pub of_number : vs.number (vs.completed version now) ≡ number
    pub is_put : versions ≡ state.tree.versions ++ vs.completed version now ∷ []

  abbrev LineDone : (versions : List V) → Line → Type 0
  LineDone versions (lines.Committed request file number) = IsCompleted versions request file number
  LineDone versions other = Unit {0}

  others_done : (versions : List V) (l : Line) → IsNoCommit l → LineDone versions l
  others_done versions (lines.Committed request file number) none = absurd none
  others_done versions _ none = tt

  module _ (a : ℕ) (seat : Seat V) (request : RequestNo) (rest : List (Request V)) (found : slice_get state.seats a ≡ Some seat)
      (is : place ≡ Space_has a Step_served) where
    abbrev IsNext : Step V → Type 0
    IsNext step = seat.asked ≡ (record { number = request; step = step }) ∷ rest

    step_done : (step : Step V) → IsNext step →
        let x : Served V = served vs tree now s.header.lease request step in LineDone x.tree.versions (served_line vs request x.outcome)
    step_done (On_names x) next = others_done state.tree.versions _ (names_commit_nothing request (name_outcome tree.nodes x))
    step_done (On_locks x) next =
        others_done state.tree.versions _ (locks_commit_nothing request (lock_outcome tree.locks (now + s.header.lease) request x))
    step_done (On_sessions x) next =
        session_cases vs tree now (now + s.header.lease) request
        (λ y r. IsNext (On_sessions y) → LineDone (after_ok tree (session_after vs tree request) r).versions (line_of request (session_line vs) r))
        (λ y why next. tt)
        (record {
          sees = λ names session n there next. tt;
          locks = λ names session n there free next. tt;
          completes = λ session v l n held there next. record {
            a = a;
            seat = seat;
            rest = rest;
            session = session;
            version = v;
            lock = l;
            node = n;
            found = found;
            asked = next;
            is = is;
            held = held;
            at = there;
            of_file = refl;
            of_number = refl;
            is_put = refl;
          };
        })
        x next

  abbrev Done : Effect V → Type 0
  Done x = Each (LineDone x.state.tree.versions) x.lines

  come : (a : ℕ) (first : List Line) (input : Input V) (seat : Seat V) → Each IsIdle first → Done (comes s vs state a given first input seat)
  come a first input seat idle =
      each-map IsNoCommit _ (others_done state.tree.versions) (comes s vs state a given first input seat).lines
      (comes_no_commit s vs state a given first input seat idle)

  all_done : Done (at_place s vs state message given place)
  all_done =
      of_event s vs state given message Done place
      (record {
        nothing = λ shown idle bare. each-map _ _ (λ l k. others_done state.tree.versions l (idle_no_commit l k)) shown idle;
        later = λ ticks. tt;
        gone = λ a seat request found. (tt, tt);
        missed = λ a seat oldest rest found is away. (tt, tt);
        own = λ a seat x found at up. come a [] (own_input x) seat tt;
        hears = λ c request answer seat found at about there.
            come request.agent (lines.Gave c request (sum_of s answer) ∷ []) (Hears c request answer) seat (tt, tt);
        told = λ a seat oldest rest found is there. come a [] (Tells oldest.number oldest.outcome) (record seat { replied = rest }) tt;
        serve = λ a seat oldest rest found is at. (step_done a seat oldest.number rest found at oldest.step is, tt);
        postpone = λ a seat oldest rest found is. tt;
      })

  pub committed : (request : RequestNo) (file : FileId) (number : ℕ) →
      let x : Effect V = at_place s vs state message given place in
      Contains x.lines (lines.Committed request file number) → IsCompleted x.state.tree.versions request file number
  committed request file number inside =
      let x : Effect V = at_place s vs state message given place in
      each_of-contains (LineDone x.state.tree.versions) x.lines (lines.Committed request file number) all_done inside

-- An event keeps what holds of the file map, and what it gives an open is what was closed.
use Rattle.std.proofs.Common.{◌≡◌, ℕ, ◌+◌, List, [], ◌∷◌, Option, Some, None, Ok, Err, slice_get, ◌++◌, length, refl, subst, arith, Bool, true, false, length-append, eqb-true, IfSome}
use Rattle.std.specs.Prelude.{◌-◌, ◌==◌, if◌then◌else◌, option_to_list}
use Rattle.scfs_base.specs.declared.naming.RequestNo.{RequestNo}
use Rattle.scfs_base.specs.declared.cloud.CloudAnswer.{CloudAnswer}
use Rattle.scfs_unit.specs.declared.pieces.KeptPiece.{KeptPiece}
use Rattle.scfs_model.specs.Format.{Setup, sealed}
use Rattle.scfs_model.specs.History.{Message, Of_answer}
use Rattle.scfs_model.specs.Layers.{Version, closes}
use Rattle.scfs_model.specs.Given.{Given}
use Rattle.scfs_model.specs.Next.{Goes_on, Has}
use Rattle.scfs_model.specs.Reading.{is_awaited, piece_in, read_on}
use Rattle.scfs_model.specs.Tree.{Tree, live, session_lock, node_at}
use Rattle.scfs_model.specs.Walks.{OrRefusal, on_ok, file_at, free_file_at}
use Rattle.scfs_model.specs.SessionSteps.{Session_step, Open_read, Open_write, Commit, Session_outcome, Sees, Locks, Completes, session_outcome, session_after, still_held}
use Rattle.scfs_model.specs.Steps.{Step, On_sessions, Outcome, Of_names, Of_locks, Of_sessions, after_ok, served}
use Rattle.scfs_model.specs.Agents.{Agent, Tells, Hears, Opening}
use Rattle.scfs_model.specs.Events.{At_agent, Call_comes, Turn_comes, Crash_comes, Start_comes, Answer_given, Place, Agent_has, Cloud_has}
use Rattle.scfs_model.specs.States.{Seat, State, Effect, at_place}
use Rattle.scfs_laws.specs.Sound.{open_of, FitsRead, FitsAt, FitsGiven, FitsPlace, WasClosed}
use Rattle.scfs_laws.proofs.Lists.{Each, each-append, each-find}
use Rattle.scfs_laws.proofs.SoundKept.{IsVersion, IsStep, IsSessionStep, IsRequest, IsSessionOutcome, IsOk, IsOutcome, IsState, IsSent, IsGiven, IsPlace, AreGood, IsOpening, IsWaiting, IsHeard, parts, known}
use Rattle.scfs_laws.proofs.SoundPieces.{heard_good}
use Rattle.scfs_laws.proofs.SoundMoves.{reacted_keeps}
use Rattle.scfs_laws.proofs.Ways.{own_input, up_there, of_event}
use Rattle.scfs_laws.proofs.Seats.{seats_kept}
use Rattle.scfs_laws.proofs.Moves.{IsInput}
use Rattle.scfs_laws.proofs.Moves as Moves

module _ (s : Setup) (Among : (c : ℕ) → (bytes : List ℕ) → Type 0) where
  abbrev AreVersions : Tree Version → Type 0
  AreVersions tree = Each (IsVersion s Among) tree.versions

  -- a step that the space serves
  ok_on : {X Y : Type 0} (P : Y → Type 0) (r : OrRefusal X) (on : X → Y) → ((x : X) → P (on x)) → IsOk s Among P (on_ok on r)
  ok_on P (Ok x) on each = each x
  ok_on P (Err why) on each = tt

  outcome_keeps : (tree : Tree Version) (now until : ℕ) (request : RequestNo) (x : Session_step Version) → AreVersions tree → IsSessionStep s Among x
      → IsOk s Among (IsSessionOutcome s Among) (session_outcome (closes s) tree now until request x)
  outcome_keeps tree now until request (Open_read names h) k w =
      ok_on (IsSessionOutcome s Among) (file_at tree.nodes names) _ (λ n. each-find (IsVersion s Among) _ tree.versions k)
  outcome_keeps tree now until request (Open_write names h) k w =
      ok_on (IsSessionOutcome s Among) (free_file_at tree.nodes tree.locks names) _ (λ n. each-find (IsVersion s Among) _ tree.versions k)
  outcome_keeps tree now until request (Commit h v) k w =
      ok_on (IsSessionOutcome s Among) (still_held (session_lock tree.locks request v.file h) (node_at tree.nodes v.file (v.number - 1))) _ (λ n. w)

  after_keeps : (tree : Tree Version) (request : RequestNo) (r : OrRefusal (Session_outcome Version)) → AreVersions tree
      → IsOk s Among (IsSessionOutcome s Among) r → AreVersions (after_ok tree (session_after (closes s) tree request) r)
  after_keeps tree request (Ok (Sees sight)) k w = k
  after_keeps tree request (Ok (Locks sight l)) k w = k
  after_keeps tree request (Ok (Completes h v n)) k w = each-append (IsVersion s Among) tree.versions (v ∷ []) k (w, tt)
  after_keeps tree request (Err why) k w = k

  served_keeps : (tree : Tree Version) (now lease : ℕ) (request : RequestNo) (x : Step Version) → AreVersions tree → IsStep s Among x
      → IsOutcome s Among (served (closes s) tree now lease request x).outcome × AreVersions (served (closes s) tree now lease request x).tree
  served_keeps tree now lease request (On_sessions x) k w =
      let r = outcome_keeps tree now (now + lease) request x k w in
      (r, after_keeps tree request (session_outcome (closes s) tree now (now + lease) request x) k r)
  served_keeps tree now lease request other k w = (tt, k)

  -- an event leaves all so, where the objects that are put in it are among those looked at
  module _ (state : State Version) (is : IsState s Among state) (given : Given) (m : Option Message) (place : Place) (k : IsPlace s Among m place) where
    abbrev next : Effect Version
    next = at_place s (closes s) state m given place

    versions_keep : Each (IsVersion s Among) next.state.tree.versions
    versions_keep =
        of_event s (closes s) state given m (λ x. Each (IsVersion s Among) x.state.tree.versions) place
        (record {
          nothing = λ shown idle bare. is.0;
          later = λ ticks. is.0;
          gone = λ a seat request found. is.0;
          missed = λ a seat oldest rest found e away. is.0;
          own = λ a seat x found at up. is.0;
          hears = λ c request answer seat found at about there. is.0;
          told = λ a seat oldest rest found e there. is.0;
          serve = λ a seat oldest rest found e at.
              let asked : Each (IsRequest s Among) (oldest ∷ rest) = subst (Each (IsRequest s Among)) e (is.1 a seat found).steps in
              (served_keeps (live state.clock state.tree) state.clock s.header.lease oldest.number oldest.step is.0 asked.0).1;
          postpone = λ a seat oldest rest found e. is.0;
        })

    own : (a : ℕ) (g : Agent Version) (x : At_agent) → place ≡ Agent_has a x → IsInput (known s Among) (own_input x)
    own a g (Call_comes call) at = subst (IsPlace s Among m) at k
    own a g Turn_comes at = tt
    own a g Crash_comes at = tt
    own a g Start_comes at = tt

    reply : (request : RequestNo) (o : Outcome Version) → IsOutcome s Among o → Moves.IsReply (known s Among) request o
    reply request (Of_names x r) h = tt
    reply request (Of_locks x r) h = tt
    reply request (Of_sessions x (Ok (Sees sight))) h = h
    reply request (Of_sessions x (Ok (Locks sight l))) h = h
    reply request (Of_sessions x (Ok (Completes n v node))) h = tt
    reply request (Of_sessions x (Err why)) h = tt

    pub place_keeps : Each (IsSent s Among) next.sent → IsState s Among next.state
    place_keeps sent = (
      versions_keep,
      seats_kept s (closes s) state given m next.lines (parts s Among) (parts s Among) (IsSent s Among) is.1 place
          (record {
            agents = λ a g h. h;
            steps = λ a q h. h;
            replies = λ a y h. h;
            own = λ a seat x found h at up sent. reacted_keeps s Among a seat.agent given (own_input x) up (own a seat.agent x at) h sent;
            hears = λ c request answer seat found h at about there same sent.
                reacted_keeps s Among request.agent seat.agent given (Hears c request answer) (up_there seat.agent request there)
                (subst (IsGiven s Among c) about (subst (IsPlace s Among m) at k)) h sent;
            told = λ a seat y found h l there sent.
                reacted_keeps s Among a seat.agent given (Tells y.number y.outcome) (up_there seat.agent y.number there) (reply y.number y.outcome l) h sent;
            serve = λ a q h. (served_keeps (live state.clock state.tree) state.clock s.header.lease q.number q.step is.0 h).0;
          })
          refl sent,
    )

-- f + 1 good pieces of different clouds under a version's root give back its bytes
abbrev pub GivesBack : (s : Setup) → (Among : (c : ℕ) → (bytes : List ℕ) → Type 0) → Type 0
GivesBack s Among =
    (v : Version) (pieces : List KeptPiece) → IsVersion s Among v → AreGood s Among (sealed s v.upload v.bytes).root pieces
    → length pieces ≡ s.header.f + 1 → s.format.unseal s.header.f pieces ≡ v.bytes

module _ (s : Setup) (Among : (c : ℕ) → (bytes : List ℕ) → Type 0) (gives_back : GivesBack s Among) where
  counted : (v : Version) (pieces : List KeptPiece) (bytes : List ℕ) (b : Bool) → (b ≡ true → bytes ≡ v.bytes)
      → FitsRead s WasClosed v (if b then Has bytes else Goes_on)
  counted v pieces bytes true same = same refl
  counted v pieces bytes false same = tt

  read_fits : (o : Opening Version) (there : Option KeptPiece) → IsOpening s Among o
      → AreGood s Among o.reading.root (o.reading.pieces ++ option_to_list there) → FitsRead s WasClosed o.version (read_on s o.reading there)
  read_fits o None h good = tt
  read_fits o (Some piece) h good =
      let pieces = o.reading.pieces ++ piece ∷ [] in
      counted o.version o.reading.pieces (s.format.unseal s.header.f pieces) (length o.reading.pieces == s.header.f) (λ enough.
      gives_back o.version pieces h.version (subst (λ root. AreGood s Among root pieces) h.rooted good)
      (omega (arith, length-append o.reading.pieces (piece ∷ []), eqb-true (length o.reading.pieces) s.header.f enough)))

  heard_fits : (c : ℕ) (request : RequestNo) (answer : CloudAnswer) (there : Option (Opening Version)) → IsHeard s Among c answer
      → IfSome there (IsOpening s Among)
      → IfSome there (λ (o : Opening Version). is_awaited o.reading c request ≡ true
      → FitsRead s WasClosed o.version (read_on s o.reading (piece_in s o.reading c answer)))
  heard_fits c request answer None heard h = tt
  heard_fits c request answer (Some o) heard h =
      λ counts. read_fits o (piece_in s o.reading c answer) h (heard_good s Among o.reading c request answer h.good heard counts)

  at_fits : (c : ℕ) (request : RequestNo) (answer : CloudAnswer) (there : Option (Seat Version)) → IsHeard s Among c answer
      → ((seat : Seat Version) → there ≡ Some seat → IsWaiting s Among seat.agent.waiting) → FitsAt s WasClosed c request answer there
  at_fits c request answer None heard h = tt
  at_fits c request answer (Some seat) heard h = heard_fits c request answer (open_of seat.agent.waiting) heard (h seat refl)

  module _ (state : State Version) (is : IsState s Among state) where
    given_fits : (c : ℕ) (m : Option Message) → IsGiven s Among c m → FitsGiven s WasClosed state c m
    given_fits c (Some (Of_answer request answer)) k =
        at_fits c request answer (slice_get state.seats request.agent) k (λ seat found. (is.1 request.agent seat found).agent.0)
    given_fits c other k = tt

    pub place_fits : (m : Option Message) (place : Place) → IsPlace s Among m place → FitsPlace s WasClosed state m place
    place_fits m (Cloud_has c Answer_given) k = given_fits c m k
    place_fits m other k = tt

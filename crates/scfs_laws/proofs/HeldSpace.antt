-- What the space serves leaves what is seen tied to the machine's state.
use Rattle.std.proofs.Common.{◌≡◌, ℕ, zero, suc, ◌+◌, ◌-◌, ◌≢◌, List, [], ◌∷◌, ◌++◌, refl, sym, ap, subst, ◌⊎◌, inl, inr, fold, slice_get, slice_set, Option, Some, None, Ok, Err}
use Rattle.scfs_base.specs.declared.naming.RequestNo.{RequestNo}
use Rattle.scfs_schedule.specs.declared.types.Call.TheVariants as calls
use Rattle.scfs_schedule.specs.declared.types.Event.{Event}
use Rattle.scfs_schedule.specs.declared.types.Event.TheVariants as events
use Rattle.scfs_schedule.specs.declared.types.Line.{Line}
use Rattle.scfs_schedule.specs.declared.types.Line.TheVariants as lines
use Rattle.scfs_session.specs.Contents.{bytes_from}
use Rattle.scfs_model.specs.Format.{Setup}
use Rattle.scfs_model.specs.History.{Message}
use Rattle.scfs_model.specs.Tree.{Node, Tree, live, session_lock, node_at}
use Rattle.scfs_model.specs.Walks.{OrRefusal, on_ok, file_at, free_file_at}
use Rattle.scfs_model.specs.NameSteps.{Name_outcome, Makes, Shows, name_outcome, nodes_after}
use Rattle.scfs_model.specs.LockSteps.{Lock_outcome, Frees, Renews, lock_outcome, locks_after, lock_line}
use Rattle.scfs_model.specs.SessionSteps.{Open_read, Open_write, Commit, Sees, Locks, Completes, sight_of, new_lock, still_held, with_version, session_after}
use Rattle.scfs_model.specs.Steps.{Step, On_names, On_locks, On_sessions, Outcome, Of_names, Of_locks, Of_sessions, Served, after_ok, line_of, served, served_line}
use Rattle.scfs_model.specs.Layers.{Row, rows}
use Rattle.scfs_model.specs.Agents.{Agent, Request}
use Rattle.scfs_model.specs.States.{Reply, Seat, State, Effect, leaving, with_seat, serves}
use Rattle.scfs_laws.specs.Held.{Version_seen, Seen, seen_line}
use Rattle.scfs_laws.proofs.Lists.{Each}
use Rattle.scfs_laws.proofs.HeldSeats.{IsRow, OutcomeFits, step_of}
use Rattle.scfs_laws.proofs.HeldDoing.{seat_of}
use Rattle.scfs_laws.proofs.HeldVersions.{Tied, tied_append, tied_found}
use Rattle.scfs_laws.proofs.HeldStands.{CommitRow, Stands, sees_more, served_stands, moved_stands}

-- what is seen is so in the machine's state
pub record IsSeenIn (s : Setup) (x : Seen) (state : State Row) : Type 0 where
  pub versions : Tied s state.tree.versions x.versions
  pub seats : (b : ℕ) (m : Seat Row) → slice_get state.seats b ≡ Some m → Stands s x.versions b (x.agents b) m

-- a line of bytes read shows those of the session that the event reads
abbrev pub IsShown : Event → (bytes : ℕ → ℕ → List ℕ) → Line → Type 0
IsShown event bytes (lines.Data a h shown) =
    (offset : ℕ) × (count : ℕ) × (event ≡ events.Call a (calls.Read h offset count)) × (shown ≡ bytes_from (bytes a h) offset count)
IsShown event bytes other = Unit {0}

-- after an event what is seen is so in the state that the event leaves
pub record Keeps (s : Setup) (event : Event) (message : Option Message) (bytes : ℕ → ℕ → List ℕ) (x : Seen) (e : Effect Row) : Type 0 where
  pub seen : IsSeenIn s (fold (seen_line s event message) x e.lines) e.state
  pub shown : Each (IsShown event bytes) e.lines

pub get_cases : {X : Type 0} (xs : List X) (a b : ℕ) (y m : X) → slice_get (slice_set xs a y) b ≡ Some m
    → ((b ≡ a) × (y ≡ m)) ⊎ ((b ≢ a) × (slice_get xs b ≡ Some m))
get_cases [] a b y m found = inr (absurd (none found))
  where
    none : None ≡ Some m → ⊥
    none e = cc
get_cases {X} (x ∷ xs) zero zero y m found = inl (refl, same y found)
  where
    same : (z : X) → Some z ≡ Some m → z ≡ m
    same z e = cc
get_cases (x ∷ xs) zero (suc b) y m found = inr (apart b, found)
  where
    apart : (b : ℕ) → suc b ≢ 0
    apart b e = cc
get_cases (x ∷ xs) (suc a) zero y m found = inr (apart a, found)
  where
    apart : (a : ℕ) → 0 ≢ suc a
    apart a e = cc
get_cases (x ∷ xs) (suc a) (suc b) y m found =
    elim (get_cases xs a b y m found) [ inl h ↦ inl (ap suc h.0, h.1) | inr h ↦ inr (λ same. h.0 (one_less b a same), h.1) ]
  where
    one_less : (a b : ℕ) → suc a ≡ suc b → a ≡ b
    one_less a b e = cc

module _ (s : Setup) (event : Event) (message : Option Message) (bytes : ℕ → ℕ → List ℕ) (x : Seen) (state : State Row) (a : ℕ) where
  -- one seat is another, and what is seen stays
  pub seat_set : (seat : Seat Row) → Stands s x.versions a (x.agents a) seat → IsSeenIn s x state → (tree : Tree Row)
      → tree.versions ≡ state.tree.versions
      → IsSeenIn s x (with_seat (record state { tree = tree }) a seat)
  seat_set seat mine is tree same = record {
    versions = subst (λ vs. Tied s vs x.versions) (sym same) is.versions;
    seats = λ b m found. elim (get_cases state.seats a b seat m found) [
      | inl h ↦ subst (λ k. Stands s x.versions k (x.agents k) m) (sym h.0) (subst (Stands s x.versions a (x.agents a)) h.1 mine)
      | inr h ↦ is.seats b m h.1
    ];
  }

  -- a step that completes no version is served
  serves_still : (agent : Agent Row) (oldest : Request Row) (rest : List (Request Row)) (replied : List (Reply Row)) (o : Outcome Row)
      (tree : Tree Row) (line : Line)
      → seen_line s event message x line ≡ x → IsShown event bytes line → step_of o ≡ oldest.step → OutcomeFits s x.versions o
      → tree.versions ≡ state.tree.versions → Stands s x.versions a (x.agents a) (seat_of agent (oldest ∷ rest) replied) → IsSeenIn s x state
      → Keeps s event message bytes x (leaving (with_seat (record state { tree = tree }) a
      (seat_of agent rest (replied ++ (record { number = oldest.number; outcome = o }) ∷ []))) (line ∷ []))
  serves_still agent oldest rest replied o tree line still shown same fits versions mine is = record {
    seen = subst (λ x. IsSeenIn s x
        (with_seat (record state { tree = tree }) a (seat_of agent rest (replied ++ (record { number = oldest.number; outcome = o }) ∷ []))))
        (sym still) (seat_set (seat_of agent rest (replied ++ (record { number = oldest.number; outcome = o }) ∷ []))
        (served_stands s a x.versions (x.agents a) agent oldest rest replied o same fits mine) is tree versions);
    shown = (shown, tt);
  }

  -- by what a step comes to

  abbrev after_step : Agent Row → RequestNo → List (Request Row) → List (Reply Row) → Served Row → Effect Row
  after_step agent request rest replied z =
      leaving (with_seat (record state { tree = z.tree }) a
      (seat_of agent rest (replied ++ (record { number = request; outcome = z.outcome }) ∷ [])))
      (served_line rows request z.outcome ∷ [])

  names_served : (agent : Agent Row) (oldest : Request Row) (rest : List (Request Row)) (replied : List (Reply Row)) (step : _) (tree : Tree Row)
      (r : OrRefusal Name_outcome) → On_names step ≡ oldest.step → tree.versions ≡ state.tree.versions
      → Stands s x.versions a (x.agents a) (seat_of agent (oldest ∷ rest) replied) → IsSeenIn s x state
      → Keeps s event message bytes x (after_step agent oldest.number rest replied
      (record { outcome = Of_names step r; tree = record tree { nodes = after_ok tree.nodes (nodes_after tree.nodes) r } }))
  names_served agent oldest rest replied step tree (Ok (Makes n)) same versions mine is =
      serves_still agent oldest rest replied (Of_names step (Ok (Makes n))) _ (lines.Changed oldest.number) refl tt same tt versions mine is
  names_served agent oldest rest replied step tree (Ok (Shows n)) same versions mine is =
      serves_still agent oldest rest replied (Of_names step (Ok (Shows n))) _ (lines.Looked oldest.number) refl tt same tt versions mine is
  names_served agent oldest rest replied step tree (Err why) same versions mine is =
      serves_still agent oldest rest replied (Of_names step (Err why)) _ (lines.Refused oldest.number why) refl tt same tt versions mine is

  -- an open
  reads_served : (agent : Agent Row) (oldest : Request Row) (rest : List (Request Row)) (replied : List (Reply Row)) (names : List (List ℕ)) (h : ℕ)
      (tree : Tree Row)
      (r : OrRefusal Node) → On_sessions (Open_read names h) ≡ oldest.step → tree.versions ≡ state.tree.versions
      → Stands s x.versions a (x.agents a) (seat_of agent (oldest ∷ rest) replied) → IsSeenIn s x state
      → let o = on_ok (λ n. Sees (sight_of rows tree n)) r in
      Keeps s event message bytes x (after_step agent oldest.number rest replied
      (record { outcome = Of_sessions (Open_read names h) o; tree = after_ok tree (session_after rows tree oldest.number) o }))
  reads_served agent oldest rest replied names h tree (Ok n) same versions mine is =
      serves_still agent oldest rest replied (Of_sessions (Open_read names h) (Ok (Sees (sight_of rows tree n)))) tree
      (lines.Looked oldest.number) refl tt same
      (tied_found s tree.versions x.versions n.id n.newest (subst (λ vs. Tied s vs x.versions) (sym versions) is.versions)) versions mine is
  reads_served agent oldest rest replied names h tree (Err why) same versions mine is =
      serves_still agent oldest rest replied (Of_sessions (Open_read names h) (Err why)) tree
      (lines.Refused oldest.number why) refl tt same tt versions mine is

  writes_served : (agent : Agent Row) (oldest : Request Row) (rest : List (Request Row)) (replied : List (Reply Row)) (names : List (List ℕ))
      (h until : ℕ) (tree : Tree Row)
      (r : OrRefusal Node) → On_sessions (Open_write names h) ≡ oldest.step → tree.versions ≡ state.tree.versions
      → Stands s x.versions a (x.agents a) (seat_of agent (oldest ∷ rest) replied) → IsSeenIn s x state
      → let o = on_ok (λ (n : Node). Locks (sight_of rows tree n) (new_lock oldest.number h until n.id)) r in
      Keeps s event message bytes x (after_step agent oldest.number rest replied
      (record { outcome = Of_sessions (Open_write names h) o; tree = after_ok tree (session_after rows tree oldest.number) o }))
  writes_served agent oldest rest replied names h until tree (Ok n) same versions mine is =
      let l = new_lock oldest.number h until n.id in
      serves_still agent oldest rest replied (Of_sessions (Open_write names h) (Ok (Locks (sight_of rows tree n) l)))
      (record tree { locks = tree.locks ++ l ∷ [] })
      (lines.Locked oldest.number l.file l.until) refl tt same
      (tied_found s tree.versions x.versions n.id n.newest (subst (λ vs. Tied s vs x.versions) (sym versions) is.versions)) versions mine is
  writes_served agent oldest rest replied names h until tree (Err why) same versions mine is =
      serves_still agent oldest rest replied (Of_sessions (Open_write names h) (Err why)) tree
      (lines.Refused oldest.number why) refl tt same tt versions mine is

  -- a close is completed: the version is that of the agent's latest close
  commits_served : (agent : Agent Row) (oldest : Request Row) (rest : List (Request Row)) (replied : List (Reply Row)) (h now : ℕ) (v : Row)
      (tree : Tree Row)
      (r : OrRefusal Node) → On_sessions (Commit h v) ≡ oldest.step → tree.versions ≡ state.tree.versions
      → Stands s x.versions a (x.agents a) (seat_of agent (oldest ∷ rest) replied) → IsSeenIn s x state
      → let o = on_ok (λ n. Completes h (rows.completed v now) (with_version rows n (rows.completed v now))) r in
      Keeps s event message bytes x (after_step agent oldest.number rest replied
      (record { outcome = Of_sessions (Commit h v) o; tree = after_ok tree (session_after rows tree oldest.number) o }))
  commits_served agent oldest rest replied h now v tree (Ok n) same versions mine is = record {
    seen = record {
      versions = tied_append s tree.versions x.versions (rows.completed v now) seen (subst (λ vs. Tied s vs x.versions) (sym versions) is.versions)
          (record { file = refl; number = refl; row = record { upload = row.upload; root = row.root; size = row.size } });
      seats = λ b m found. elim (get_cases state.seats a b seat m found) [
        | inl k ↦ subst (λ k. Stands s (x.versions ++ seen ∷ []) k (x.agents k) m) (sym k.0)
            (subst (Stands s (x.versions ++ seen ∷ []) a (x.agents a)) k.1 (sees_more s a x.versions (x.agents a) (seen ∷ []) seat
            (served_stands s a x.versions (x.agents a) agent oldest rest replied o same tt mine)))
        | inr k ↦ sees_more s b x.versions (x.agents b) (seen ∷ []) m (is.seats b m k.1)
      ];
    };
    shown = (tt, tt);
  }
    where
      o : Outcome Row
      o = Of_sessions (Commit h v) (Ok (Completes h (rows.completed v now) (with_version rows n (rows.completed v now))))

      seat : Seat Row
      seat = seat_of agent rest (replied ++ (record { number = oldest.number; outcome = o }) ∷ [])

      seen : Version_seen
      seen = record { file = v.file; number = v.number; close = (x.agents oldest.number.agent).close oldest.number.incarnation }

      row : IsRow s v ((x.agents oldest.number.agent).close oldest.number.incarnation)
      row =
          let first = mine.asks.0 in
          let own : CommitRow s (x.agents a) oldest.number (On_sessions (Commit h v)) =
          subst (CommitRow s (x.agents a) oldest.number) (sym same) first.1 in
          subst (λ k. IsRow s v ((x.agents k).close oldest.number.incarnation)) (sym first.0) own
  commits_served agent oldest rest replied h now v tree (Err why) same versions mine is =
      serves_still agent oldest rest replied (Of_sessions (Commit h v) (Err why)) tree
      (lines.Refused oldest.number why) refl tt same tt versions mine is

  -- a step on locks
  lock_still : (number : RequestNo) (r : OrRefusal Lock_outcome) → seen_line s event message x (line_of number lock_line r) ≡ x
  lock_still number (Ok (Frees count)) = refl
  lock_still number (Ok (Renews l)) = refl
  lock_still number (Err why) = refl

  lock_shown : (number : RequestNo) (r : OrRefusal Lock_outcome) → IsShown event bytes (line_of number lock_line r)
  lock_shown number (Ok (Frees count)) = tt
  lock_shown number (Ok (Renews l)) = tt
  lock_shown number (Err why) = tt

  -- the oldest step is served in a tree
  step_served : (agent : Agent Row) (oldest : Request Row) (step : Step Row) (rest : List (Request Row)) (replied : List (Reply Row))
      (tree : Tree Row) (now lease : ℕ)
      → step ≡ oldest.step → tree.versions ≡ state.tree.versions → Stands s x.versions a (x.agents a) (seat_of agent (oldest ∷ rest) replied)
      → IsSeenIn s x state
      → Keeps s event message bytes x (after_step agent oldest.number rest replied (served rows tree now lease oldest.number step))
  step_served agent oldest (On_names z) rest replied tree now lease same versions mine is =
      names_served agent oldest rest replied z tree (name_outcome tree.nodes z) same versions mine is
  step_served agent oldest (On_locks z) rest replied tree now lease same versions mine is =
      let r = lock_outcome tree.locks (now + lease) oldest.number z in
      serves_still agent oldest rest replied (Of_locks z r)
      (record tree { locks = after_ok tree.locks (locks_after tree.locks oldest.number z) r })
      (line_of oldest.number lock_line r) (lock_still oldest.number r) (lock_shown oldest.number r) same tt versions mine is
  step_served agent oldest (On_sessions (Open_read names h)) rest replied tree now lease same versions mine is =
      reads_served agent oldest rest replied names h tree (file_at tree.nodes names) same versions mine is
  step_served agent oldest (On_sessions (Open_write names h)) rest replied tree now lease same versions mine is =
      writes_served agent oldest rest replied names h (now + lease) tree (free_file_at tree.nodes tree.locks names) same versions mine is
  step_served agent oldest (On_sessions (Commit h v)) rest replied tree now lease same versions mine is =
      commits_served agent oldest rest replied h now v tree
      (still_held (session_lock tree.locks oldest.number v.file h) (node_at tree.nodes v.file (v.number - 1))) same versions mine is

  -- the space serves the oldest step at seat a
  pub serves_keeps : (agent : Agent Row) (oldest : Request Row) (rest : List (Request Row)) (replied : List (Reply Row))
      → Stands s x.versions a (x.agents a) (seat_of agent (oldest ∷ rest) replied) → IsSeenIn s x state
      → Keeps s event message bytes x (serves s rows state a (seat_of agent (oldest ∷ rest) replied) (oldest ∷ rest))
  serves_keeps agent oldest rest replied mine is =
      step_served agent oldest oldest.step rest replied (live state.clock state.tree) state.clock s.header.lease refl refl mine is

  -- the oldest step goes to the back
  pub postpones_keeps : (agent : Agent Row) (oldest : Request Row) (rest : List (Request Row)) (replied : List (Reply Row))
      → Stands s x.versions a (x.agents a) (seat_of agent (oldest ∷ rest) replied) → IsSeenIn s x state
      → Keeps s event message bytes x (leaving (with_seat state a (seat_of agent (rest ++ oldest ∷ []) replied)) [])
  postpones_keeps agent oldest rest replied mine is = record {
    seen = seat_set (seat_of agent (rest ++ oldest ∷ []) replied) (moved_stands s a x.versions (x.agents a) agent oldest rest replied mine) is state.tree refl;
    shown = tt;
  }

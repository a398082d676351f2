-- The versions of the tree and those seen stand one for one; more versions leave what is seen of an agent tied to its seat.
use Rattle.std.proofs.Common.{◌≡◌, ℕ, List, [], ◌∷◌, ◌++◌, find, sym, ap, ◌∙◌, subst, arith, Bool, true, false, cond, ◌&&◌, Option, Some, None, Result, Ok, Err}
use Rattle.std.specs.Prelude.{◌==◌}
use Rattle.scfs_base.specs.declared.naming.FileId.{FileId}
use Rattle.scfs_schedule.specs.declared.types.Refusal.{Refusal}
use Rattle.scfs_model.specs.Names.{same_file}
use Rattle.scfs_model.specs.Format.{Setup}
use Rattle.scfs_model.specs.Tree.{version_at}
use Rattle.scfs_model.specs.SessionSteps.{Session_outcome, Sees, Locks, Completes}
use Rattle.scfs_model.specs.Steps.{Outcome, Of_names, Of_locks, Of_sessions}
use Rattle.scfs_model.specs.Layers.{Row, rows}
use Rattle.scfs_model.specs.Agents.{Agent, Request}
use Rattle.scfs_model.specs.States.{Reply, Seat}
use Rattle.scfs_laws.specs.Held.{Version_seen, Agent_seen, is_version}
use Rattle.scfs_laws.proofs.HeldSeats.{latest, IsRow, IsSeen, ResultFits, OutcomeFits, RequestFits, ReplyFits, Fits, busy, step_of, Seated}
use Rattle.scfs_laws.proofs.Lists.{each-append, each-map}
use Rattle.scfs_laws.proofs.HeldSteps.{asked_append, replied_append}
use Rattle.scfs_laws.proofs.HeldDoing.{seat_of}

-- a version that is seen is the row of one
pub record IsVersion (s : Setup) (v : Row) (w : Version_seen) : Type 0 where
  pub file : w.file ≡ v.file
  pub number : w.number ≡ v.number
  pub row : IsRow s v w.close

module _ (s : Setup) where
  abbrev pub Tied : List Row → List Version_seen → Type 0
  Tied [] [] = Unit {0}
  Tied (v ∷ vs) (w ∷ ws) = IsVersion s v w × Tied vs ws
  Tied [] (w ∷ ws) = ⊥
  Tied (v ∷ vs) [] = ⊥

  pub tied_append : (vs : List Row) (ws : List Version_seen) (v : Row) (w : Version_seen) → Tied vs ws → IsVersion s v w
      → Tied (vs ++ v ∷ []) (ws ++ w ∷ [])
  tied_append [] [] v w is one = (one, tt)
  tied_append (x ∷ vs) (z ∷ ws) v w is one = (is.0, tied_append vs ws v w is.1 one)
  tied_append [] (z ∷ ws) v w is one = absurd is
  tied_append (x ∷ vs) [] v w is one = absurd is

  -- a version that is found is seen

  seen_behind : (w : Version_seen) (ws : List Version_seen) (file : FileId) (number : ℕ) (o : Option Row) → is_version file number w ≡ false
      → IsSeen s ws file number o → IsSeen s (w ∷ ws) file number o
  seen_behind w ws file number None other is = tt
  seen_behind w ws file number (Some v) other is =
      (is.0, ap (λ b. cond {A = Option Version_seen} b (Some w) (find (is_version file number) ws)) other ∙ is.1, is.2)

  pub tied_found : (vs : List Row) (ws : List Version_seen) (file : FileId) (number : ℕ) → Tied vs ws
      → IsSeen s ws file number (version_at rows vs file number)
  tied_found [] [] file number is = tt
  tied_found (v ∷ vs) (w ∷ ws) file number is = by (same_file v.file file && (v.number == number)) same (tied_found vs ws file number is.1)
    where
      same : is_version file number w ≡ (same_file v.file file && (v.number == number))
      same = ap (λ (f : FileId). same_file f file && (w.number == number)) is.0.file ∙ ap (λ n. same_file v.file file && (n == number)) is.0.number

      by : (b : Bool) → is_version file number w ≡ b → IsSeen s ws file number (version_at rows vs file number)
          → IsSeen s (w ∷ ws) file number (cond b (Some v) (version_at rows vs file number))
      by true passes later = (w, ap (λ b. cond {A = Option Version_seen} b (Some w) (find (is_version file number) ws)) passes, is.0.row)
      by false fails later = seen_behind w ws file number (version_at rows vs file number) fails later
  tied_found [] (w ∷ ws) file number is = absurd is
  tied_found (v ∷ vs) [] file number is = absurd is

  -- more versions are seen

  find_more : (test : Version_seen → Bool) (ws more : List Version_seen) (w : Version_seen) → find test ws ≡ Some w
      → find test (ws ++ more) ≡ Some w
  find_more test [] more w is = absurd (none is)
    where
      none : None ≡ Some w → ⊥
      none e = cc
  find_more test (x ∷ ws) more w is = by (test x) (find_more test ws more w) is
    where
      by : (b : Bool) → (find test ws ≡ Some w → find test (ws ++ more) ≡ Some w) → cond b (Some x) (find test ws) ≡ Some w
          → cond b (Some x) (find test (ws ++ more)) ≡ Some w
      by true later e = e
      by false later e = later e

  seen_more : (ws more : List Version_seen) (file : FileId) (number : ℕ) (o : Option Row) → IsSeen s ws file number o
      → IsSeen s (ws ++ more) file number o
  seen_more ws more file number None is = tt
  seen_more ws more file number (Some v) is = (is.0, find_more (is_version file number) ws more is.0 is.1, is.2)

  result_more : (ws more : List Version_seen) (r : Result (Session_outcome Row) Refusal) → ResultFits s ws r → ResultFits s (ws ++ more) r
  result_more ws more (Ok (Sees sight)) is = seen_more ws more sight.file sight.number sight.version is
  result_more ws more (Ok (Locks sight l)) is = seen_more ws more sight.file sight.number sight.version is
  result_more ws more (Ok (Completes h v n)) is = tt
  result_more ws more (Err why) is = tt

  outcome_more : (ws more : List Version_seen) (o : Outcome Row) → OutcomeFits s ws o → OutcomeFits s (ws ++ more) o
  outcome_more ws more (Of_names x r) is = tt
  outcome_more ws more (Of_locks x r) is = tt
  outcome_more ws more (Of_sessions x r) is = result_more ws more r is

  pub seated_more : (ws more : List Version_seen) (a : ℕ) (y : Agent_seen) (m : Seat Row) → Seated s ws a y m → Seated s (ws ++ more) a y m
  seated_more ws more a y m is = record {
    based = is.based;
    waits = is.waits;
    steps = record {
      asks = is.steps.asks;
      replies = each-map (ReplyFits s a ws (latest y) m.agent.waiting m.agent.closed)
          (ReplyFits s a (ws ++ more) (latest y) m.agent.waiting m.agent.closed)
          (λ r h. (h.0, h.1, outcome_more ws more r.outcome h.2)) m.replied is.steps.replies;
      alone = is.steps.alone;
    };
  }

  -- the oldest step is served
  pub served_seated : (ws : List Version_seen) (a : ℕ) (y : Agent_seen) (agent : Agent Row) (oldest : Request Row) (rest : List (Request Row))
      (replied : List (Reply Row)) (o : Outcome Row) → step_of o ≡ oldest.step → OutcomeFits s ws o
      → Seated s ws a y (seat_of agent (oldest ∷ rest) replied)
      → Seated s ws a y (seat_of agent rest (replied ++ (record { number = oldest.number; outcome = o }) ∷ []))
  served_seated ws a y agent oldest rest replied o same fits is =
      let reply : Reply Row = record { number = oldest.number; outcome = o } in
      let first = is.steps.asks.0 in
      let few = is.steps.alone in
      let sum = replied_append replied (reply ∷ []) in
      let as_busy : busy (step_of o) ≡ busy oldest.step = ap busy same in
      record {
        based = is.based;
        waits = is.waits;
        steps = record {
          asks = is.steps.asks.1;
          replies = each-append (ReplyFits s a ws (latest y) agent.waiting agent.closed) replied (reply ∷ []) is.steps.replies
              ((first.0, subst (Fits s (latest y) agent.waiting agent.closed) (sym same) first.1, fits), tt);
          alone = omega (arith, sum, few, as_busy);
        };
      }

  -- the oldest step goes to the back
  pub moved_seated : (ws : List Version_seen) (a : ℕ) (y : Agent_seen) (agent : Agent Row) (oldest : Request Row) (rest : List (Request Row))
      (replied : List (Reply Row)) → Seated s ws a y (seat_of agent (oldest ∷ rest) replied)
      → Seated s ws a y (seat_of agent (rest ++ oldest ∷ []) replied)
  moved_seated ws a y agent oldest rest replied is =
      let few = is.steps.alone in
      let sum = asked_append rest (oldest ∷ []) in
      record {
        based = is.based;
        waits = is.waits;
        steps = record {
          asks = each-append (RequestFits s a ws (latest y) agent.waiting agent.closed) rest (oldest ∷ []) is.steps.asks.1 (is.steps.asks.0, tt);
          replies = is.steps.replies;
          alone = omega (arith, few, sum);
        };
      }

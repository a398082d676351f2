-- Each sight that the space replied has the version of its number.
use Rattle.std.proofs.Common.{◌≡◌, ℕ, ◌+◌, ◌-◌, [], ◌∷◌, length, Bool, refl, Option, Some, None, IfSome, Ok, Err}
use Rattle.std.specs.Prelude.{◌&&◌, ◌==◌}
use Rattle.std.proofs.lemmas.Bool.{and_parts, eqb-true}
use Rattle.scfs_base.specs.declared.naming.RequestNo.{RequestNo}
use Rattle.scfs_model.specs.Names.{same_file}
use Rattle.scfs_model.specs.Format.{Setup}
use Rattle.scfs_model.specs.History.{History}
use Rattle.scfs_model.specs.Given.{given_of}
use Rattle.scfs_model.specs.Tree.{Node, Tree, version_at, live, session_lock, node_at}
use Rattle.scfs_model.specs.Walks.{OrRefusal, on_ok, file_at, free_file_at}
use Rattle.scfs_model.specs.SessionSteps.{Sight, Session_step, Open_read, Open_write, Commit, Session_outcome, Sees, Locks, Completes, sight_of, new_lock, with_version, still_held, session_outcome}
use Rattle.scfs_model.specs.Steps.{Step, On_names, On_locks, On_sessions, Outcome, Of_names, Of_locks, Of_sessions, served}
use Rattle.scfs_model.specs.Agents.{Sent}
use Rattle.scfs_model.specs.Layers.{Row, rows}
use Rattle.scfs_model.specs.Events.{place_of}
use Rattle.scfs_model.specs.States.{first_seat}
use Rattle.scfs_model.specs.Runs.{actual, effect_after}
use Rattle.scfs_laws.proofs.Lists.{each-always, places_replicate}
use Rattle.scfs_laws.proofs.NewestTree.{found_passes}
use Rattle.scfs_laws.proofs.Seats.{Parts, IsSeat, AreSeats, seats_kept}

abbrev pub SeesIts : Sight Row → Type 0
SeesIts sight = IfSome sight.version (λ v. v.number ≡ sight.number)

abbrev pub ResultSees : OrRefusal (Session_outcome Row) → Type 0
ResultSees (Ok (Sees sight)) = SeesIts sight
ResultSees (Ok (Locks sight l)) = SeesIts sight
ResultSees (Ok (Completes session v n)) = Unit {0}
ResultSees (Err why) = Unit {0}

-- a close sees nothing
abbrev pub CommitSees : OrRefusal (Session_outcome Row) → Type 0
CommitSees (Ok (Sees sight)) = ⊥
CommitSees (Ok (Locks sight l)) = ⊥
CommitSees (Ok (Completes session v n)) = Unit {0}
CommitSees (Err why) = Unit {0}

abbrev pub StepSees : Session_step Row → OrRefusal (Session_outcome Row) → Type 0
StepSees (Open_read names session) r = ResultSees r
StepSees (Open_write names session) r = ResultSees r
StepSees (Commit session v) r = CommitSees r

abbrev pub OutcomeSees : Outcome Row → Type 0
OutcomeSees (Of_names x r) = Unit {0}
OutcomeSees (Of_locks x r) = Unit {0}
OutcomeSees (Of_sessions x r) = StepSees x r

abbrev pub parts : Parts Row
parts = record { agent = λ a g. Unit {0}; step = λ a q. Unit {0}; reply = λ a y. OutcomeSees y.outcome }

module _ (tree : Tree Row) where
  sight_its : (n : Node) → SeesIts (sight_of rows tree n)
  sight_its n = by (version_at rows tree.versions n.id n.newest) refl
    where
      is_it : Row → Bool
      is_it v = same_file v.file n.id && (v.number == n.newest)

      by : (o : Option Row) → version_at rows tree.versions n.id n.newest ≡ o → IfSome o (λ (v : Row). v.number ≡ n.newest)
      by None found = tt
      by (Some v) found = eqb-true v.number n.newest (and_parts (same_file v.file n.id) (v.number == n.newest) (found_passes is_it tree.versions v found)).1

  read_sees : (r : OrRefusal Node) → ResultSees (on_ok (λ n. Sees (sight_of rows tree n)) r)
  read_sees (Ok n) = sight_its n
  read_sees (Err why) = tt

  written_sees : (request : RequestNo) (session until : ℕ) (r : OrRefusal Node)
      → ResultSees (on_ok (λ (n : Node). Locks (sight_of rows tree n) (new_lock request session until n.id)) r)
  written_sees request session until (Ok n) = sight_its n
  written_sees request session until (Err why) = tt

  committed_sees : (session : ℕ) (v : Row) (r : OrRefusal Node) → CommitSees (on_ok (λ n. Completes session v (with_version rows n v)) r)
  committed_sees session v (Ok n) = tt
  committed_sees session v (Err why) = tt

  session_sees : (now until : ℕ) (request : RequestNo) (x : Session_step Row) → StepSees x (session_outcome rows tree now until request x)
  session_sees now until request (Open_read names session) = read_sees (file_at tree.nodes names)
  session_sees now until request (Open_write names session) = written_sees request session until (free_file_at tree.nodes tree.locks names)
  session_sees now until request (Commit session v) =
      committed_sees session (rows.completed v now) (still_held (session_lock tree.locks request v.file session) (node_at tree.nodes v.file (v.number - 1)))

  served_sees : (now lease : ℕ) (request : RequestNo) (step : Step Row) → OutcomeSees (served rows tree now lease request step).outcome
  served_sees now lease request (On_names x) = tt
  served_sees now lease request (On_locks x) = tt
  served_sees now lease request (On_sessions x) = session_sees now (now + lease) request x

pub sights_seen : (s : Setup) (past : History) → AreSeats parts (actual s past).seats
sights_seen s [] = places_replicate (IsSeat parts) (length s.header.agents) (first_seat s) (λ a. record { agent = tt; steps = tt; replies = tt })
sights_seen s (e ∷ past) =
    let state = actual s past in
    seats_kept s rows state (given_of state.clock e) e.message (effect_after s rows past e).lines parts parts (λ (x : Sent). Unit {0}) (sights_seen s past)
    (place_of e.event)
    (record {
      agents = λ a g h. tt;
      steps = λ a q h. tt;
      replies = λ a y h. h;
      own = λ a seat x found h at up sent. (tt, each-always (λ q. Unit {0}) (λ q. tt) _);
      hears = λ c request answer seat found h at about there same sent. (tt, each-always (λ q. Unit {0}) (λ q. tt) _);
      told = λ a seat y found h k there sent. (tt, each-always (λ q. Unit {0}) (λ q. tt) _);
      serve = λ a q h. served_sees (live state.clock state.tree) state.clock s.header.lease q.number q.step;
    })
    refl (each-always (λ (x : Sent). Unit {0}) (λ x. tt) _)

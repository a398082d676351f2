-- Calls, what is told, answers of clouds and turns leave what is seen of an agent tied to its seat.
use Rattle.std.proofs.Common.{◌≡◌, ℕ, ◌+◌, ◌≤◌, List, [], ◌∷◌, Bool, true, false, cond, Option, Some, None, Ok, Err, refl, ap, ◌∙◌, arith}
use Rattle.scfs_base.specs.declared.naming.RequestNo.{RequestNo}
use Rattle.scfs_base.specs.declared.cloud.CloudAnswer.{CloudAnswer}
use Rattle.scfs_schedule.specs.declared.types.Call.{Call}
use Rattle.scfs_schedule.specs.declared.types.Event.{Event}
use Rattle.scfs_schedule.specs.declared.types.Event.TheVariants as events
use Rattle.scfs_model.specs.Format.{Setup}
use Rattle.scfs_model.specs.Given.{Given}
use Rattle.scfs_model.specs.Lives.{is_up}
use Rattle.scfs_model.specs.Walks.{OrRefusal}
use Rattle.scfs_model.specs.Reading.{Reading, is_awaited, piece_in, with_piece}
use Rattle.scfs_model.specs.SessionSteps.{Open_read, Open_write, Commit, Session_outcome, Sees, Locks, Completes}
use Rattle.scfs_model.specs.Steps.{Outcome, Of_names, Of_locks, Of_sessions}
use Rattle.scfs_model.specs.Layers.{Row, rows}
use Rattle.scfs_model.specs.Agents.{Waiting, For_step, For_clouds, For_close, Closed, Request, Agent}
use Rattle.scfs_model.specs.Calls.{call_of}
use Rattle.scfs_model.specs.Told.{is_pending, untold, tells}
use Rattle.scfs_model.specs.Reactions.{hears, turns}
use Rattle.scfs_model.specs.States.{Reply}
use Rattle.scfs_laws.specs.Held.{Version_seen, Agent_seen, with_reading, after_answer}
use Rattle.scfs_laws.proofs.HeldSeats.{latest, told_of, IsStepping, IsCommitting, Fits, OutcomeFits, busy, busy_asked, busy_replied, step_of, Seated}
use Rattle.scfs_laws.proofs.HeldLines.{Does}
use Rattle.scfs_laws.proofs.HeldDoing.{at, seat_of}
use Rattle.scfs_laws.proofs.HeldMoves.{IsNoClose, Sits, Holds, known, silent_does, awaits, reads_on, moves}
use Rattle.scfs_laws.proofs.Moves.{IsReply, awaiting, freed_open, freed_commit, freed, with_answer, heard, chosen, calls_by, turned, hears_on, told_on}

-- a call but a close
pub call_does : (s : Setup) (a : ℕ) (versions : List Version_seen) (y : Agent_seen) (asked : List (Request Row)) (replied : List (Reply Row))
    (g : Agent Row) (given : Given) (call : Call) → IsNoClose call → Seated s versions a y (seat_of g asked replied)
    → Does s (events.Call a call) a versions y asked replied (call_of a s g call g.waiting)
call_does s a versions y asked replied g given call kind is =
    let event : Event = events.Call a call in
    calls_by s rows a (known s event a versions replied) given (Holds s event a versions replied) (moves s event a versions replied given) g call
    (refl, kind) y asked is

module _ (s : Setup) (event : Event) (a : ℕ) (versions : List Version_seen) (y : Agent_seen) (asked : List (Request Row))
    (replied : List (Reply Row)) (g : Agent Row) where
  abbrev IsSo : Agent_seen → Agent Row → Type 0
  IsSo y g = Sits s event a versions replied y asked g

  pub turns_does : (given : Given) → IsSo y g → Does s event a versions y asked replied (turns s rows a g given)
  turns_does given is =
      turned s rows a (known s event a versions replied) given (Holds s event a versions replied) (moves s event a versions replied given) g tt y asked is

  -- an answer of a cloud

  told_if : (b : Bool) (x z : Reading) → cond b (told_of x) (told_of z) ≡ told_of (cond b x z)
  told_if true x z = refl
  told_if false x z = refl

  heard_sits : (c : ℕ) (request : RequestNo) (answer : CloudAnswer) (w : Option (Waiting Row)) → IsSo y (awaiting g w)
      → IsSo (with_reading (after_answer s c request answer) y) (awaiting g (heard s c request answer w))
  heard_sits c request answer (Some (For_clouds o)) is =
      reads_on s event a versions replied y asked g o (with_answer s c request answer o) (after_answer s c request answer y.reading)
      (ap (after_answer s c request answer) is.waits.0
      ∙ told_if (is_awaited o.reading c request) (with_piece o.reading (piece_in s o.reading c answer)) o.reading) is
  heard_sits c request answer None is = record { based = is.based; waits = is.waits; steps = is.steps }
  heard_sits c request answer (Some For_step) is = record { based = is.based; waits = is.waits; steps = is.steps }
  heard_sits c request answer (Some For_close) is = record { based = is.based; waits = is.waits; steps = is.steps }

  pub hears_does : (given : Given) (c : ℕ) (request : RequestNo) (answer : CloudAnswer) → IsSo y g
      → Does s event a versions (with_reading (after_answer s c request answer) y) asked replied (hears s rows a g c request answer)
  hears_does given c request answer is =
      hears_on s rows a (known s event a versions replied) given (Holds s event a versions replied) (moves s event a versions replied given) g
      c request answer tt (with_reading (after_answer s c request answer) y) asked (heard_sits c request answer g.waiting is)

-- what is told: nothing waits for its step any more
module _ (s : Setup) (event : Event) (a : ℕ) (versions : List Version_seen) (y : Agent_seen) (asked : List (Request Row))
    (rest : List (Reply Row)) where
  abbrev IsLeft : Agent Row → Type 0
  IsLeft g = Sits s event a versions rest y asked g

  abbrev none_busy : ℕ
  none_busy = busy_asked asked + busy_replied rest

  frees_step : (g : Agent Row) (w : Option (Waiting Row)) (closed : List (Closed Row)) → none_busy ≡ 0 → IsStepping w → IsLeft (at g w closed)
      → IsLeft (at g None closed)
  frees_step g None closed none stepping is = absurd stepping
  frees_step g (Some For_step) closed none stepping is =
      awaits s event a versions rest y asked (at g (Some For_step) closed) None closed none is.waits is
  frees_step g (Some (For_clouds o)) closed none stepping is = absurd stepping
  frees_step g (Some For_close) closed none stepping is = absurd stepping

  frees_open : (g : Agent Row) (r : OrRefusal (Session_outcome Row)) → none_busy ≡ 0 → IsStepping g.waiting → IsLeft g → IsLeft (freed_open g r)
  frees_open g (Ok (Sees sight)) none stepping is = frees_step g g.waiting g.closed none stepping is
  frees_open g (Ok (Locks sight l)) none stepping is = frees_step g g.waiting g.closed none stepping is
  frees_open g (Ok (Completes h v n)) none stepping is = is
  frees_open g (Err why) none stepping is = frees_step g g.waiting g.closed none stepping is

  frees_commit : (g : Agent Row) (w : Option (Waiting Row)) (closed : List (Closed Row)) (r : OrRefusal (Session_outcome Row)) → none_busy ≡ 0
      → IsCommitting s w closed → IsLeft (at g w closed) → IsLeft (freed_commit (at g w closed) closed r)
  frees_commit g None closed r none committing is = absurd committing
  frees_commit g (Some For_step) closed r none committing is = absurd committing
  frees_commit g (Some (For_clouds o)) closed r none committing is = absurd committing
  frees_commit g (Some For_close) [] r none committing is = absurd committing
  frees_commit g (Some For_close) (x ∷ []) (Ok (Sees sight)) none committing is = is
  frees_commit g (Some For_close) (x ∷ []) (Ok (Locks sight l)) none committing is = is
  frees_commit g (Some For_close) (x ∷ []) (Ok (Completes h v n)) none committing is =
      awaits s event a versions rest y asked (at g (Some For_close) (x ∷ [])) None [] none tt is
  frees_commit g (Some For_close) (x ∷ []) (Err why) none committing is =
      awaits s event a versions rest y asked (at g (Some For_close) (x ∷ [])) None [] none tt is
  frees_commit g (Some For_close) (x ∷ z ∷ more) r none committing is = absurd is.waits

  frees : (g : Agent Row) (o : Outcome Row) → busy (step_of o) + none_busy ≤ 1 → Fits s (latest y) g.waiting g.closed (step_of o) → IsLeft g
      → IsLeft (freed g o)
  frees g (Of_names x r) few fits is = frees_step g g.waiting g.closed (omega (arith, few)) fits is
  frees g (Of_locks x r) few fits is = is
  frees g (Of_sessions (Open_read names h) r) few fits is = frees_open g r (omega (arith, few)) fits is
  frees g (Of_sessions (Open_write names h) r) few fits is = frees_open g r (omega (arith, few)) fits is
  frees g (Of_sessions (Commit h v) r) few fits is = frees_commit g g.waiting g.closed r (omega (arith, few)) fits.0 is

  told_known : (request : RequestNo) (o : Outcome Row) → request.agent ≡ a → OutcomeFits s versions o → IsReply (known s event a versions rest) request o
  told_known request (Of_names x r) own fits = tt
  told_known request (Of_locks x r) own fits = tt
  told_known request (Of_sessions x (Ok (Sees sight))) own fits = (own, fits)
  told_known request (Of_sessions x (Ok (Locks sight l))) own fits = (own, fits)
  told_known request (Of_sessions x (Ok (Completes h v n))) own fits = tt
  told_known request (Of_sessions x (Err why)) own fits = tt

  -- the oldest reply is told
  pub tells_does : (g : Agent Row) (given : Given) (oldest : Reply Row) → is_up g.life ≡ true
      → Seated s versions a y (seat_of g asked (oldest ∷ rest)) → Does s event a versions y asked rest (tells s rows a g given oldest.number oldest.outcome)
  tells_does g given oldest up is =
      let few = is.steps.alone in
      let first = is.steps.replies.0 in
      let left : IsLeft g = record {
        based = is.based;
        waits = is.waits;
        steps = record { asks = is.steps.asks; replies = is.steps.replies.1; alone = omega (arith, few) };
      } in
      let without : Agent Row = untold g oldest.number in
      chosen (Does s event a versions y asked rest) (is_pending g oldest.number) _ _
      (λ pending. told_on s rows a (known s event a versions rest) given (Holds s event a versions rest) (moves s event a versions rest given)
      without oldest.number oldest.outcome up (told_known oldest.number oldest.outcome first.0 first.2) y asked
      (frees without oldest.outcome (omega (arith, few)) first.1 (record { based = left.based; waits = left.waits; steps = left.steps })))
      (λ other. silent_does s event a versions rest y asked g left)

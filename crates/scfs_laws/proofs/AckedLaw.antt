-- A close that was completed had its objects acknowledged by enough clouds, to the agent and incarnation that asked its commit.
use Rattle.std.proofs.Common.{◌≡◌, ◌≢◌, inl, inr, ℕ, List, [], ◌∷◌, ◌++◌, true, false, refl, sym, ap, ◌∙◌, subst, Some, Contains, arith, true≢false, slice_get, length}
use Rattle.std.specs.List.{AllPairs}
use Rattle.std.proofs.lemmas.List.Kept.{AllPairs-cons}
use Rattle.scfs_base.specs.declared.naming.FileId.{FileId}
use Rattle.scfs_base.specs.declared.naming.RequestNo.{RequestNo}
use Rattle.scfs_base.specs.declared.naming.UploadNo.{UploadNo}
use Rattle.scfs_base.specs.declared.cloud.CloudAnswer.{CloudAnswer}
use Rattle.scfs_base.specs.declared.cloud.CloudRequest.{CloudRequest}
use Rattle.scfs_schedule.specs.declared.types.Event.{Event}
use Rattle.scfs_schedule.specs.declared.types.Event.TheVariants as events
use Rattle.scfs_schedule.specs.declared.types.Line.TheVariants as lines
use Rattle.scfs_model.specs.Format.{Setup}
use Rattle.scfs_model.specs.History.{Of_answer, Entry, History}
use Rattle.scfs_model.specs.Given.{Given, given_of}
use Rattle.scfs_model.specs.Lives.{is_up}
use Rattle.scfs_model.specs.SessionSteps.{Commit}
use Rattle.scfs_model.specs.Steps.{On_sessions}
use Rattle.scfs_model.specs.Agents.{Closed, Request, Agent, Input, Calls, Tells, Hears, Turns, Starts, Sent, Reaction}
use Rattle.scfs_model.specs.Reactions.{responded, next_begun, reacted}
use Rattle.scfs_model.specs.Layers.{Row, rows}
use Rattle.scfs_model.specs.Events.{At_agent, Call_comes, Turn_comes, Crash_comes, Start_comes, Answer_given, Cloud_has, place_of}
use Rattle.scfs_model.specs.States.{Seat, State, first_seat, is_there, comes, sum_of}
use Rattle.scfs_model.specs.Runs.{actual, effect_after, Happens}
use Rattle.scfs_laws.specs.Acknowledged.{WasSent, WasAcked, IsUploading, WasUploading, IsAcknowledged, CommitsAreAcknowledged}
use Rattle.scfs_laws.proofs.Lists.{each-all, Each, each-map, each-append, each-front, each-back, each-inside, each-always, places_replicate}
use Rattle.scfs_laws.proofs.Commits.{committed}
use Rattle.scfs_laws.proofs.Moves.{IsInput, any_reply, has_up, responds}
use Rattle.scfs_laws.proofs.Ways.{own_input, up_there}
use Rattle.scfs_laws.proofs.Seats.{Parts, AreSeats, Reacts, seats_kept}
use Rattle.scfs_laws.proofs.AckedMoves.{Differ, AreClosed, IsHeld, IsStored, IsRequest, Keeps, comes as known, moves, begins_keeps, closed_on, step_on}

give_event : (event : Event) (c : ℕ) → place_of event ≡ Cloud_has c Answer_given → event ≡ events.Give c
give_event (events.Give d) c h = cc
give_event other c h = absurd (none h)
  where
    none : place_of other ≡ Cloud_has c Answer_given → ⊥
    none e = cc

pub to_pairs : (ns : List ℕ) → Differ ns → AllPairs (λ m n. m ≢ n) ns
to_pairs [] h = λ i j d less inside. absurd (omega arith)
to_pairs (n ∷ ns) h = AllPairs-cons (λ m n. m ≢ n) n ns (each-all (λ m. n ≢ m) ns h.0) (to_pairs ns h.1)

module _ (s : Setup) where
  -- no upload is asked of
  abbrev Any : UploadNo → (contents : List ℕ) → Type 0
  Any u contents = Unit {0}

  -- the uploads of an agent that is up; one that is down has none
  record IsAgent (past : History) (a : ℕ) (g : Agent Row) : Type 0 where
    up : is_up g.life ≡ true → AreClosed s a (WasSent s past) (WasAcked s past a) Any g.incarnation g.closed
    down : is_up g.life ≡ false → g.closed ≡ []

  abbrev parts : History → Parts Row
  parts past =
      record {
        agent = IsAgent past;
        step = λ a q. IsRequest s a (WasSent s past) (WasAcked s past a) (WasUploading s past a) q;
        reply = λ a y. Unit {0};
      }

  was_now : (past : History) (a : ℕ) (u : UploadNo) (contents : List ℕ) → IsUploading s past a u contents → WasUploading s past a u contents
  was_now [] a u contents now = now
  was_now (e ∷ past) a u contents now = inl now

  module _ (past : History) (e : Entry) where
    abbrev New : Sent → Type 0
    New x = WasSent s (e ∷ past) x

    abbrev now : Given
    now = given_of (actual s past).clock e

    -- its uploads were had
    had : (a : ℕ) (seat : Seat Row) → slice_get (actual s past).seats a ≡ Some seat → (M : Sent → Type 0) → ((x : Sent) → WasSent s past x → M x)
        → AreClosed s a (WasSent s past) (WasAcked s past a) Any seat.agent.incarnation seat.agent.closed
        → AreClosed s a M (WasAcked s (e ∷ past) a) (WasUploading s past a) seat.agent.incarnation seat.agent.closed
    had a seat found M more h =
        closed_on s a (WasSent s past) M (WasAcked s past a) (WasAcked s (e ∷ past) a) Any (WasUploading s past a) more (λ i body c k. inr k)
        seat.agent.incarnation seat.agent.closed
        (λ x u inside there any. was_now past a u.version.upload x.session.contents (seat, x, u, found, inside, there, refl, refl)) h

    -- an agent that is up has something else than a crash
    usual : (a : ℕ) (seat : Seat Row) (input : Input Row) (M : Sent → Type 0) → ((x : Sent) → WasSent s past x → M x) → ((x : Sent) → M x → New x)
        → Keeps s a M (WasAcked s (e ∷ past) a) (WasUploading s past a) New seat.agent (responded s rows a seat.agent now input)
        → slice_get (actual s past).seats a ≡ Some seat → IsAgent past a seat.agent → is_up seat.agent.life ≡ true
        → Each New (reacted s rows a seat.agent now input).sent
        → IsAgent (e ∷ past) a (reacted s rows a seat.agent now input).agent
        × Each (IsRequest s a New (WasAcked s (e ∷ past) a) (WasUploading s (e ∷ past) a)) (reacted s rows a seat.agent now input).steps
    usual a seat input M more less keeps found h up sent =
        let first : Reaction Row = responded s rows a seat.agent now input in
        let second : Reaction Row = next_begun s rows a first.agent first.agent.closed in
        let A : ℕ → CloudRequest → ℕ → Type 0 = WasAcked s (e ∷ past) a in
        let one = keeps up (had a seat found M more (h.up up)) (each-front New first.sent second.sent sent) in
        let two = begins_keeps s a New A Any (λ u contents. tt) first.agent one.0
        (closed_on s a M New A A (WasUploading s past a) Any less (λ i body c k. k) first.agent.incarnation first.agent.closed (λ x u inside there k. tt) one.1)
        (each-back New first.sent second.sent sent) in (
          record { up = λ up. two.1; down = λ down. absurd (true≢false (sym two.0 ∙ down)) },
          each-append _ first.steps second.steps
              (each-map _ _ (λ (q : Request Row). step_on s a M New A A (WasUploading s past a) (WasUploading s (e ∷ past) a) less
              (λ i body c k. k) q.number q.step (λ u contents k. inr k)) first.steps one.2)
              (subst (Each (IsRequest s a New A (WasUploading s (e ∷ past) a))) (sym two.2) tt),
        )

    -- a start has no uploads
    starts : (a : ℕ) (g : Agent Row) (closed : List (Closed Row)) → closed ≡ [] →
        let r : Reaction Row = reacted s rows a (record g { closed = closed }) now Starts in
        IsAgent (e ∷ past) a r.agent × Each (IsRequest s a New (WasAcked s (e ∷ past) a) (WasUploading s (e ∷ past) a)) r.steps
    starts a g closed none =
        subst (λ closed. let r : Reaction Row = reacted s rows a (record g { closed = closed }) now Starts in
        IsAgent (e ∷ past) a r.agent × Each (IsRequest s a New (WasAcked s (e ∷ past) a) (WasUploading s (e ∷ past) a)) r.steps) (sym none)
        (record { up = λ up. tt; down = λ down. refl }, (tt, tt))

    -- what comes to an agent, where nothing was acknowledged
    comes_to : (a : ℕ) (seat : Seat Row) (input : Input Row) → has_up input ≡ true → IsInput (known s a New (WasAcked s (e ∷ past) a) (WasUploading s past a) New) input
        → slice_get (actual s past).seats a ≡ Some seat → IsAgent past a seat.agent → is_up seat.agent.life ≡ true
        → Reacts s rows (actual s past) now e.message e.lines (parts past) (parts (e ∷ past)) New a seat.agent input
    comes_to a seat input ups fits found h up =
        let A : ℕ → CloudRequest → ℕ → Type 0 = WasAcked s (e ∷ past) a in
        let U : UploadNo → List ℕ → Type 0 = WasUploading s past a in
        usual a seat input New (λ x k. inr k) (λ x k. k)
        (responds s rows a (known s a New A U New) now (Keeps s a New A U New) (moves s a New A U New now) tt seat.agent input (up ∙ sym ups) fits) found h up

    own : (a : ℕ) (seat : Seat Row) (x : At_agent) → slice_get (actual s past).seats a ≡ Some seat → IsAgent past a seat.agent
        → is_up seat.agent.life ≡ has_up {V = Row} (own_input x)
        → Reacts s rows (actual s past) now e.message e.lines (parts past) (parts (e ∷ past)) New a seat.agent (own_input x)
    own a seat (Call_comes call) found h up = comes_to a seat (Calls call) refl tt found h up
    own a seat Turn_comes found h up = comes_to a seat Turns refl (λ x k. k) found h up
    own a seat Crash_comes found h up = λ sent. (record { up = λ up. tt; down = λ down. refl }, tt)
    own a seat Start_comes found h up = λ sent. starts a seat.agent seat.agent.closed (h.down up)

    hears : (c : ℕ) (request : RequestNo) (answer : CloudAnswer) (seat : Seat Row) → slice_get (actual s past).seats request.agent ≡ Some seat
        → IsAgent past request.agent seat.agent → place_of e.event ≡ Cloud_has c Answer_given → e.message ≡ Some (Of_answer request answer)
        → is_there seat.agent request ≡ true
        → e.lines ≡ (comes s rows (actual s past) request.agent now (lines.Gave c request (sum_of s answer) ∷ []) (Hears c request answer) seat).lines
        → Reacts s rows (actual s past) now e.message e.lines (parts past) (parts (e ∷ past)) New request.agent seat.agent (Hears c request answer)
    hears c request answer seat found h is about there same =
        let a : ℕ = request.agent in
        let M : Sent → Type 0 = WasSent s past in
        let A : ℕ → CloudRequest → ℕ → Type 0 = WasAcked s (e ∷ past) a in
        let U : UploadNo → List ℕ → Type 0 = WasUploading s past a in
        let up : is_up seat.agent.life ≡ true = up_there seat.agent request there in
        let shown : Contains e.lines (lines.Gave c request (sum_of s answer)) =
        subst (λ ls. Contains ls (lines.Gave c request (sum_of s answer))) (sym same) (0, omega arith, refl) in
        usual a seat (Hears c request answer) M (λ x k. k) (λ x k. inr k)
        (responds s rows a (known s a M A U New) now (Keeps s a M A U New) (moves s a M A U New now) tt seat.agent (Hears c request answer) up
        (λ ack body mine made. inl (
          request,
          mine,
          refl,
          give_event e.event c is,
          about ∙ ap (λ x. Some (Of_answer request x)) ack,
          subst (λ x. Contains e.lines (lines.Gave c request (sum_of s x))) ack shown,
          made,
        )))
        found h up

    next_parts : e.lines ≡ (effect_after s rows past e).lines → AreSeats (parts past) (actual s past).seats → AreSeats (parts (e ∷ past)) (actual s (e ∷ past)).seats
    next_parts same h =
        seats_kept s rows (actual s past) now e.message e.lines (parts past) (parts (e ∷ past)) New h (place_of e.event)
        (record {
          agents = λ a g k. record {
            up = λ up. closed_on s a (WasSent s past) New (WasAcked s past a) (WasAcked s (e ∷ past) a) Any Any (λ x k. inr k) (λ i body c k. inr k)
                g.incarnation g.closed (λ x u inside there k. tt) (k.up up);
            down = k.down;
          };
          steps = λ a q k. step_on s a (WasSent s past) New (WasAcked s past a) (WasAcked s (e ∷ past) a) (WasUploading s past a)
              (WasUploading s (e ∷ past) a) (λ x k. inr k) (λ i body c k. inr k) q.number q.step (λ u contents k. inr k) k;
          replies = λ a y k. tt;
          own = λ a seat x found k is up. own a seat x found k up;
          hears = hears;
          told = λ a seat y found k l there. comes_to a seat (Tells y.number y.outcome) refl
              (any_reply (known s a New (WasAcked s (e ∷ past) a) (WasUploading s past a) New) (λ request sight. tt) y.number y.outcome) found k
              (up_there seat.agent y.number there);
          serve = λ a q k. tt;
        })
        same (each-inside (λ x. Unit {0}) New (effect_after s rows past e).sent (λ x inside any. inl inside)
        (each-always (λ x. Unit {0}) (λ x. tt) (effect_after s rows past e).sent))

  parts_after : (past : History) → Happens s past → AreSeats (parts past) (actual s past).seats
  parts_after [] happens =
      places_replicate _ (length s.header.agents) (first_seat s)
      (λ a. record { agent = record { up = λ up. tt; down = λ down. refl }; steps = tt; replies = tt })
  parts_after (e ∷ past) happens = next_parts past e happens.0 (parts_after past happens.1)

  -- each committed line
  acknowledged : (past : History) (e : Entry) → AreSeats (parts past) (actual s past).seats → e.lines ≡ (effect_after s rows past e).lines
      → (request : RequestNo) (file : FileId) (number : ℕ) → Contains e.lines (lines.Committed request file number)
      → IsAcknowledged s e past request file number
  acknowledged past e h same request file number inside =
      let state : State Row = actual s past in
      let k = committed s rows state (given_of state.clock e) e.message (place_of e.event) request file number
      (subst (λ ls. Contains ls (lines.Committed request file number)) same inside) in
      let steps : Each ((parts past).step k.a) ((record { number = request; step = On_sessions (Commit k.session k.version) }) ∷ k.rest) =
      subst (Each ((parts past).step k.a)) k.asked (h k.a k.seat k.found).steps in
      let stored : IsStored s request.agent (WasSent s past) (WasAcked s past request.agent) (WasUploading s past request.agent) request.incarnation k.version =
      subst (λ b. IsStored s b (WasSent s past) (WasAcked s past b) (WasUploading s past b) request.incarnation k.version) (sym steps.0.0) steps.0.1 in
      record {
        close = record stored.close { moment = state.clock };
        is_put = k.is_put ∙ ap (λ v. state.tree.versions ++ rows.completed v state.clock ∷ []) stored.is_row;
        of_file = sym (ap (λ (v : Row). v.file) stored.is_row) ∙ k.of_file;
        of_number = sym (ap (λ (v : Row). v.number) stored.is_row) ∙ k.of_number;
        was_uploading = stored.had;
        clouds = stored.clouds;
        differ = to_pairs stored.clouds stored.differ;
        are_enough = stored.are_enough;
        acked = each-all (IsHeld s request.agent (WasSent s past) (WasAcked s past request.agent) (WasUploading s past request.agent)
            request.incarnation stored.close.upload stored.close.bytes) stored.clouds stored.acks;
      }

  pub commits_acknowledged : (past : History) → Happens s past → CommitsAreAcknowledged s past
  commits_acknowledged [] happens = tt
  commits_acknowledged (e ∷ past) happens = (acknowledged past e (parts_after past happens.1) happens.0, commits_acknowledged past happens.1)

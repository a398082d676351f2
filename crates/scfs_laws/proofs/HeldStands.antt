-- Of what stands between an agent and the space, what is there is as what is seen of the agent says; the rest strays.
use Rattle.std.proofs.Common.{◌≡◌, ℕ, ◌≤◌, List, [], ◌∷◌, ◌++◌, fold, filter, Bool, true, false, cond, ◌&&◌, true≢false, refl, sym, ap, subst, ◌∙◌, eq-eqb, eqb-true, arith, Option, None}
use Rattle.std.specs.Prelude.{◌==◌}
use Rattle.std.proofs.lemmas.List.{append-nil}
use Rattle.std.proofs.lemmas.List.Elements.{filter-append, filter_agree}
use Rattle.std.proofs.lemmas.Bool.{and_parts}
use Rattle.scfs_base.specs.declared.naming.RequestNo.{RequestNo}
use Rattle.scfs_base.specs.declared.cloud.CloudRequest.{CloudRequest}
use Rattle.scfs_base.specs.declared.cloud.CloudRequest.TheVariants as requests
use Rattle.scfs_schedule.specs.declared.types.Event.{Event}
use Rattle.scfs_model.specs.Format.{Setup}
use Rattle.scfs_model.specs.Lives.{is_up}
use Rattle.scfs_model.specs.SessionSteps.{Session_step, Open_read, Open_write, Commit}
use Rattle.scfs_model.specs.Steps.{Step, On_names, On_locks, On_sessions, Outcome}
use Rattle.scfs_model.specs.Sayings.{Saying, Saw}
use Rattle.scfs_model.specs.Agents.{Waiting, Closed, Request, Agent, Sent, Reaction}
use Rattle.scfs_model.specs.Layers.{Row}
use Rattle.scfs_model.specs.States.{Reply, Seat, is_there}
use Rattle.scfs_laws.specs.Held.{Version_seen, Agent_seen}
use Rattle.scfs_laws.proofs.Lists.{Each, each-map, each-append, each-front, each-back, each-two}
use Rattle.scfs_laws.proofs.HeldSeats.{latest, IsRow, Fits, OutcomeFits, RequestFits, step_of, Seated}
use Rattle.scfs_laws.proofs.HeldLines.{after_body, after_sent, after_saying, after_doing}
use Rattle.scfs_laws.proofs.HeldDoing.{seat_of}
use Rattle.scfs_laws.proofs.HeldStays.{IsOf, Stays}
use Rattle.scfs_laws.proofs.HeldVersions.{seated_more, served_seated, moved_seated}

-- of a commit, its version is the close that was the latest in the incarnation that asked
abbrev pub SessionRow : (s : Setup) → Agent_seen → RequestNo → Session_step Row → Type 0
SessionRow s y number (Open_read names h) = Unit {0}
SessionRow s y number (Open_write names h) = Unit {0}
SessionRow s y number (Commit h v) = IsRow s v (y.close number.incarnation)

abbrev pub CommitRow : (s : Setup) → Agent_seen → RequestNo → Step Row → Type 0
CommitRow s y number (On_names x) = Unit {0}
CommitRow s y number (On_locks x) = Unit {0}
CommitRow s y number (On_sessions x) = SessionRow s y number x

pub fits_row : (s : Setup) (y : Agent_seen) (number : RequestNo) (waiting : Option (Waiting Row)) (closed : List (Closed Row)) (x : Step Row)
    → Fits s (latest y) waiting closed x → y.incarnation ≡ number.incarnation → CommitRow s y number x
fits_row s y number waiting closed (On_names x) h e = tt
fits_row s y number waiting closed (On_locks x) h e = tt
fits_row s y number waiting closed (On_sessions (Open_read names k)) h e = tt
fits_row s y number waiting closed (On_sessions (Open_write names k)) h e = tt
fits_row s y number waiting closed (On_sessions (Commit k v)) h e = subst (λ i. IsRow s v (y.close i)) e h.1

pub row_with : (s : Setup) (y z : Agent_seen) (number : RequestNo) (x : Step Row) → y.close number.incarnation ≡ z.close number.incarnation
    → CommitRow s y number x → CommitRow s z number x
row_with s y z number (On_names x) e h = tt
row_with s y z number (On_locks x) e h = tt
row_with s y z number (On_sessions (Open_read names k)) e h = tt
row_with s y z number (On_sessions (Open_write names k)) e h = tt
row_with s y z number (On_sessions (Commit k v)) e h = subst (IsRow s v) e h

-- of the steps and replies at a seat, those that are there
abbrev pub asks_there : Agent Row → List (Request Row) → List (Request Row)
asks_there g asked = filter (λ (q : Request Row). is_there g q.number) asked

abbrev pub replies_there : Agent Row → List (Reply Row) → List (Reply Row)
replies_there g replied = filter (λ (r : Reply Row). is_there g r.number) replied

-- a step that waits, whether it is there or not
abbrev pub IsOne : (s : Setup) → (a : ℕ) → Agent_seen → Agent Row → Request Row → Type 0
IsOne s a y g q = (q.number.agent ≡ a) × CommitRow s y q.number q.step × (q.number.incarnation ≤ g.incarnation)

abbrev pub IsPast : Agent Row → Reply Row → Type 0
IsPast g r = r.number.incarnation ≤ g.incarnation

-- what is seen of agent a is so at its seat
pub record Stands (s : Setup) (versions : List Version_seen) (a : ℕ) (y : Agent_seen) (m : Seat Row) : Type 0 where
  pub seated : Seated s versions a y (seat_of m.agent (asks_there m.agent m.asked) (replies_there m.agent m.replied))
  pub asks : Each (IsOne s a y m.agent) m.asked
  pub replies : Each (IsPast m.agent) m.replied
  pub down : is_up m.agent.life ≡ false → (m.agent.waiting ≡ None) × (m.agent.closed ≡ [])

-- who is there is of the agent's incarnation
pub there_now : (g : Agent Row) (number : RequestNo) → is_there g number ≡ true → g.incarnation ≡ number.incarnation
there_now g number h = eqb-true g.incarnation number.incarnation (and_parts (is_up g.life) (g.incarnation == number.incarnation) h).1

-- what holds of items that pass a test, and of those that fail, holds of each
each_by : {X : Type 0} (p : X → Bool) (P R Q : X → Type 0) → ((x : X) → p x ≡ true → P x → Q x) → ((x : X) → p x ≡ false → R x → Q x)
    → (xs : List X) → Each P (filter p xs) → Each R xs → Each Q xs
each_by p P R Q f g [] h k = tt
each_by p P R Q f g (x ∷ xs) h k = by (p x) refl h (λ more. each_by p P R Q f g xs more k.1)
  where
    by : (b : Bool) → p x ≡ b → Each P (cond b (x ∷ filter p xs) (filter p xs)) → (Each P (filter p xs) → Each Q xs) → Each Q (x ∷ xs)
    by true e h rest = (f x e h.0, rest h.1)
    by false e h rest = (g x e k.0, rest h)

pub filter_all : {X : Type 0} (p : X → Bool) (xs : List X) → Each (λ x. p x ≡ true) xs → filter p xs ≡ xs
filter_all p [] h = refl
filter_all p (x ∷ xs) h = ap (λ b. cond b (x ∷ filter p xs) (filter p xs)) h.0 ∙ ap (λ ys. x ∷ ys) (filter_all p xs h.1)

pub filter_none : {X : Type 0} (p : X → Bool) (xs : List X) → Each (λ x. p x ≡ false) xs → filter p xs ≡ []
filter_none p [] h = refl
filter_none p (x ∷ xs) h = ap (λ b. cond b (x ∷ filter p xs) (filter p xs)) h.0 ∙ filter_none p xs h.1

-- what agents do closes nothing

module _ (s : Setup) (event : Event) (versions : List Version_seen) where
  saying_close : (y : Agent_seen) (z : Saying) → (after_saying s event versions y z).close ≡ y.close
  saying_close y (Saw request file number) = refl
  saying_close y _ = refl

  says_close : (said : List Saying) (y : Agent_seen) → (fold (after_saying s event versions) y said).close ≡ y.close
  says_close [] y = refl
  says_close (z ∷ rest) y = says_close rest (after_saying s event versions y z) ∙ saying_close y z

  body_close : (y : Agent_seen) (request : RequestNo) (c : ℕ) (body : CloudRequest) → (after_body y request c body).close ≡ y.close
  body_close y request c (requests.Get name limit) = refl
  body_close y request c _ = refl

  sent_close : (sent : List Sent) (y : Agent_seen) → (fold after_sent y sent).close ≡ y.close
  sent_close [] y = refl
  sent_close (q ∷ rest) y = sent_close rest (after_sent y q) ∙ body_close y q.number q.cloud q.body

  pub doing_close : (said : List Saying) (sent : List Sent) (y : Agent_seen) → (after_doing s event versions said sent y).close ≡ y.close
  doing_close said sent y = sent_close sent (fold (after_saying s event versions) y said) ∙ says_close said y

module _ (s : Setup) (a : ℕ) (versions : List Version_seen) (y0 z : Agent_seen) (seat : Seat Row) (r : Reaction Row)
    (mine : Stands s versions a y0 seat) (up : is_up seat.agent.life ≡ true) (stays : Stays s a seat.agent r)
    (closes : (i : ℕ) → (seat.agent.incarnation == i) ≡ false → y0.close i ≡ z.close i) where
  same_there : (number : RequestNo) → is_there r.agent number ≡ is_there seat.agent number
  same_there number =
      ap (λ b. b && (r.agent.incarnation == number.incarnation)) (stays.0 ∙ sym up)
      ∙ ap (λ i. is_up seat.agent.life && (i == number.incarnation)) stays.1

  now_there : (number : RequestNo) → is_there seat.agent number ≡ (seat.agent.incarnation == number.incarnation)
  now_there number = ap (λ b. b && (seat.agent.incarnation == number.incarnation)) up

  all_there : asks_there r.agent (seat.asked ++ r.steps) ≡ asks_there seat.agent seat.asked ++ r.steps
  all_there =
      filter_agree _ (λ (q : Request Row). is_there seat.agent q.number) (λ q. same_there q.number) (seat.asked ++ r.steps)
      ∙ filter-append (λ (q : Request Row). is_there seat.agent q.number) seat.asked r.steps
      ∙ ap (λ new. asks_there seat.agent seat.asked ++ new) (filter_all (λ (q : Request Row). is_there seat.agent q.number) r.steps
      (each-map (IsOf s a seat.agent.incarnation) _ (λ q e. now_there q.number ∙ eq-eqb seat.agent.incarnation q.number.incarnation (sym e))
      r.steps stays.2))

  -- after a reaction, where these replies are left
  pub reacted_stands : (all : List (Reply Row)) → Each (IsPast seat.agent) all
      → Seated s versions a z (seat_of r.agent (asks_there seat.agent seat.asked ++ r.steps) (replies_there seat.agent all))
      → Stands s versions a z (seat_of r.agent (seat.asked ++ r.steps) all)
  reacted_stands all past seated =
      let fits = seated.steps.asks in
      let of_fits : (q : Request Row) → q.number.incarnation ≡ seat.agent.incarnation
      → RequestFits s a versions (latest z) r.agent.waiting r.agent.closed q → IsOne s a z r.agent q =
      λ q same k. (
        k.0,
        fits_row s z q.number r.agent.waiting r.agent.closed q.step k.1 (seated.based.same ∙ (stays.1 ∙ sym same)),
        omega (arith, same, stays.1),
      ) in
      record {
        seated = subst (λ asked. Seated s versions a z (seat_of r.agent asked (replies_there r.agent all))) (sym all_there)
            (subst (λ replied. Seated s versions a z (seat_of r.agent (asks_there seat.agent seat.asked ++ r.steps) replied))
            (filter_agree (λ (q : Reply Row). is_there seat.agent q.number) _ (λ q. sym (same_there q.number)) all) seated);
        asks = each-append (IsOne s a z r.agent) seat.asked r.steps
            (each_by (λ (q : Request Row). is_there seat.agent q.number) _ (IsOne s a y0 seat.agent) (IsOne s a z r.agent)
            (λ q there k. of_fits q (sym (there_now seat.agent q.number there)) k)
            (λ q away k. (
              k.0,
              row_with s y0 z q.number q.step (closes q.number.incarnation (sym (now_there q.number) ∙ away)) k.1,
              omega (arith, k.2, stays.1),
            ))
            seat.asked (each-front _ (asks_there seat.agent seat.asked) r.steps fits) mine.asks)
            (each-two (IsOf s a seat.agent.incarnation) _ _ of_fits r.steps stays.2
            (each-back _ (asks_there seat.agent seat.asked) r.steps fits));
        replies = each-map (IsPast seat.agent) (IsPast r.agent) (λ q k. omega (arith, k, stays.1)) all past;
        down = λ e. absurd (true≢false (sym stays.0 ∙ e));
      }

module _ (s : Setup) (a : ℕ) (versions : List Version_seen) (y : Agent_seen) where
  pub sees_more : (more : List Version_seen) (m : Seat Row) → Stands s versions a y m → Stands s (versions ++ more) a y m
  sees_more more m is =
      record { seated = seated_more s versions more a y _ is.seated; asks = is.asks; replies = is.replies; down = is.down }

  -- the oldest step is served
  pub served_stands : (agent : Agent Row) (oldest : Request Row) (rest : List (Request Row)) (replied : List (Reply Row)) (o : Outcome Row)
      → step_of o ≡ oldest.step → OutcomeFits s versions o → Stands s versions a y (seat_of agent (oldest ∷ rest) replied)
      → Stands s versions a y (seat_of agent rest (replied ++ (record { number = oldest.number; outcome = o }) ∷ []))
  served_stands agent oldest rest replied o same fits is = record {
    seated = by (is_there agent oldest.number) refl is.seated;
    asks = is.asks.1;
    replies = each-append (IsPast agent) replied (reply ∷ []) is.replies (is.asks.0.2, tt);
    down = is.down;
  }
    where
      reply : Reply Row
      reply = record { number = oldest.number; outcome = o }

      here : List (Reply Row)
      here = replies_there agent replied

      its : (b : Bool) → is_there agent oldest.number ≡ b → replies_there agent (replied ++ reply ∷ []) ≡ here ++ cond b (reply ∷ []) []
      its b e =
          filter-append (λ (r : Reply Row). is_there agent r.number) replied (reply ∷ []) ∙ ap (λ b. here ++ cond b (reply ∷ []) []) e

      by : (b : Bool) → is_there agent oldest.number ≡ b
          → Seated s versions a y (seat_of agent (cond b (oldest ∷ asks_there agent rest) (asks_there agent rest)) here)
          → Seated s versions a y (seat_of agent (asks_there agent rest) (replies_there agent (replied ++ reply ∷ [])))
      by true e k =
          subst (λ all. Seated s versions a y (seat_of agent (asks_there agent rest) all)) (sym (its true e))
          (served_seated s versions a y agent oldest (asks_there agent rest) here o same fits k)
      by false e k =
          subst (λ all. Seated s versions a y (seat_of agent (asks_there agent rest) all)) (sym (its false e ∙ append-nil here)) k

  -- the oldest step goes to the back
  pub moved_stands : (agent : Agent Row) (oldest : Request Row) (rest : List (Request Row)) (replied : List (Reply Row))
      → Stands s versions a y (seat_of agent (oldest ∷ rest) replied) → Stands s versions a y (seat_of agent (rest ++ oldest ∷ []) replied)
  moved_stands agent oldest rest replied is = record {
    seated = by (is_there agent oldest.number) refl is.seated;
    asks = each-append (IsOne s a y agent) rest (oldest ∷ []) is.asks.1 (is.asks.0, tt);
    replies = is.replies;
    down = is.down;
  }
    where
      its : (b : Bool) → is_there agent oldest.number ≡ b
          → asks_there agent (rest ++ oldest ∷ []) ≡ asks_there agent rest ++ cond b (oldest ∷ []) []
      its b e =
          filter-append (λ (q : Request Row). is_there agent q.number) rest (oldest ∷ [])
          ∙ ap (λ b. asks_there agent rest ++ cond b (oldest ∷ []) []) e

      by : (b : Bool) → is_there agent oldest.number ≡ b
          → Seated s versions a y (seat_of agent (cond b (oldest ∷ asks_there agent rest) (asks_there agent rest)) (replies_there agent replied))
          → Seated s versions a y (seat_of agent (asks_there agent (rest ++ oldest ∷ [])) (replies_there agent replied))
      by true e k =
          subst (λ all. Seated s versions a y (seat_of agent all (replies_there agent replied))) (sym (its true e))
          (moved_seated s versions a y agent oldest (asks_there agent rest) (replies_there agent replied) k)
      by false e k =
          subst (λ all. Seated s versions a y (seat_of agent all (replies_there agent replied))) (sym (its false e ∙ append-nil (asks_there agent rest))) k

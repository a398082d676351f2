-- What is known of the steps that an agent has pending, by the numbers that it drew, and that it stays known.
use Rattle.std.proofs.Common.{◌≡◌, ℕ, ◌+◌, ◌≤◌, List, [], ◌∷◌, ◌++◌, Bool, refl, sym, ap, arith, le_refl}
use Rattle.scfs_base.specs.declared.naming.RequestNo.{RequestNo}
use Rattle.scfs_model.specs.Lists.{without_first}
use Rattle.scfs_model.specs.Names.{request_no, same_request}
use Rattle.scfs_model.specs.Format.{Setup}
use Rattle.scfs_model.specs.Given.{Given}
use Rattle.scfs_model.specs.Layers.{Row, rows}
use Rattle.scfs_model.specs.Lives.{is_up}
use Rattle.scfs_model.specs.Steps.{Step}
use Rattle.scfs_model.specs.Agents.{Request, Agent, Input, Reaction}
use Rattle.scfs_model.specs.Reactions.{reacted}
use Rattle.scfs_model.specs.States.{Reply, Seat}
use Rattle.scfs_laws.proofs.HeldSeats.{step_of}
use Rattle.scfs_laws.proofs.Moves.{Known, has_up, IsInput, Moves, reacts}
use Rattle.scfs_laws.proofs.Lists.{Each, chosen, each-map, each-append}

-- what an agent has pending, and which requests it drew: all of earlier incarnations, and so many of this one
pub record Drawn : Type 0 where
  pub pending : List (Request Row)
  pub incarnation : ℕ
  pub requests : ℕ

abbrev pub drawn_of : Agent Row → Drawn
drawn_of g = record { pending = g.pending; incarnation = g.incarnation; requests = g.requests }

-- a number was drawn
abbrev pub Drew : Drawn → RequestNo → Type 0
Drew d number = (number.incarnation ≤ d.incarnation) × (d.incarnation ≤ number.incarnation → number.number ≤ d.requests)

abbrev pub AllDrew : Drawn → Type 0
AllDrew d = Each (λ (p : Request Row). Drew d p.number) d.pending

-- a pending step under a number is this
abbrev pub Agrees : RequestNo → Step Row → Request Row → Type 0
Agrees number step p = p.number ≡ number → p.step ≡ step

abbrev pub Stands : Drawn → RequestNo → Step Row → Type 0
Stands d number step = Drew d number × Each (Agrees number step) d.pending

-- from one to the other what stood stands, and so do these steps
pub record Keeps (d e : Drawn) (xs : List (Request Row)) : Type 0 where
  pub drew : AllDrew e
  pub on : (number : RequestNo) (step : Step Row) → Stands d number step → Stands e number step
  pub new : Each (λ (x : Request Row). Stands e x.number x.step) xs

abbrev pub Kept : Drawn → Drawn → List (Request Row) → Type 0
Kept d e xs = AllDrew d → Keeps d e xs

each_without : {X : Type 0} (P : X → Type 0) (test : X → Bool) (xs : List X) → Each P xs → Each P (without_first test xs)
each_without P test [] h = tt
each_without P test (x ∷ xs) h = chosen (Each P) (test x) xs (x ∷ without_first test xs) h.1 (h.0, each_without P test xs h.1)

-- nothing more is pending
fewer : (d e : Drawn) → ((r : RequestNo) → Drew d r → Drew e r)
    → ((P : Request Row → Type 0) → Each P d.pending → Each P e.pending) → Kept d e []
fewer d e more left drew = record {
  drew = left (λ p. Drew e p.number) (each-map _ _ (λ p. more p.number) d.pending drew);
  on = λ number step k. (more number k.0, left (Agrees number step) k.1);
  new = tt;
}

stays : (d : Drawn) → Kept d d []
stays d = fewer d d (λ r h. h) (λ P h. h)

draws : (d : Drawn) (n : ℕ) → Kept d (record d { requests = d.requests + n }) []
draws d n = fewer d (record d { requests = d.requests + n }) (λ r h. (h.0, λ l. omega (arith, h.1 l))) (λ P h. h)

-- the next number was not drawn
unseen : (a : ℕ) (d : Drawn) (r : RequestNo) → Drew d r → ¬ (r ≡ request_no a d.incarnation (d.requests + 1))
unseen a d r h same =
    omega (arith, h.1 (omega (arith, ap (λ (n : RequestNo). n.incarnation) same)), ap (λ (n : RequestNo). n.number) same)

asks : (a : ℕ) (d : Drawn) (step : Step Row) →
    let x : Request Row = record { number = request_no a d.incarnation (d.requests + 1); step = step } in
    Kept d (record d { requests = d.requests + 1; pending = d.pending ++ x ∷ [] }) (x ∷ [])
asks a d step drew =
    let x : Request Row = record { number = request_no a d.incarnation (d.requests + 1); step = step } in
    let e : Drawn = record d { requests = d.requests + 1; pending = d.pending ++ x ∷ [] } in
    let more : (r : RequestNo) → Drew d r → Drew e r = λ r h. (h.0, λ l. omega (arith, h.1 l)) in
    let its : Drew e x.number = (le_refl _, λ l. le_refl _) in
    record {
      drew = each-append _ d.pending (x ∷ []) (each-map _ _ (λ p. more p.number) d.pending drew) (its, tt);
      on = λ number other k. (
        more number k.0,
        each-append (Agrees number other) d.pending (x ∷ []) k.1 ((λ same. absurd (unseen a d number k.0 (sym same))), tt),
      );
      new = (
        (
          its,
          each-append (Agrees x.number step) d.pending (x ∷ [])
              (each-map _ _ (λ p h same. absurd (unseen a d p.number h same)) d.pending drew) ((λ same. refl), tt),
        ),
        tt,
      );
    }

follows : (d e h : Drawn) (xs ys : List (Request Row)) → Kept d e xs → Kept e h ys → Kept d h (xs ++ ys)
follows d e h xs ys first second drew =
    let k : Keeps d e xs = first drew in
    let l : Keeps e h ys = second k.drew in
    record {
      drew = l.drew;
      on = λ number step known. l.on number step (k.on number step known);
      new = each-append _ xs ys (each-map _ _ (λ x. l.on x.number x.step) xs k.new) l.new;
    }

-- of each step that waits at a seat, and of each that a reply there is of
pub record SeatKept (a : ℕ) (seat : Seat Row) : Type 0 where
  pub pending : AllDrew (drawn_of seat.agent)
  pub asked : Each (λ (x : Request Row). Stands (drawn_of seat.agent) x.number x.step) seat.asked
  pub replied : Each (λ (y : Reply Row). Stands (drawn_of seat.agent) y.number (step_of y.outcome)) seat.replied

-- whatever comes to an agent
abbrev pub anything : Known Row
anything =
    record {
      call = λ call. Unit {0};
      sight = λ request sight. Unit {0};
      answer = λ c request answer. Unit {0};
      turn = Unit {0};
      crash = Unit {0};
      start = Unit {0};
      takes = Unit {0};
    }

module _ (s : Setup) (a : ℕ) (given : Given) where
  abbrev Does : Agent Row → Reaction Row → Type 0
  Does g r = Kept (drawn_of g) (drawn_of r.agent) r.steps

  moves : Moves s rows a anything given Does
  moves =
      record {
        still = λ g. stays (drawn_of g);
        follow = λ g first second order. follows (drawn_of g) (drawn_of first.agent) (drawn_of second.agent) first.steps second.steps;
        aside = λ g life leases tallies opens same. stays (drawn_of g);
        told = λ g request. fewer (drawn_of g) _ (λ r h. h) (λ P. each_without P (λ (x : Request Row). same_request x.number request) g.pending);
        frees = λ g takes. stays (drawn_of g);
        says_plain = λ g x plain. stays (drawn_of g);
        asks = λ g x. asks a (drawn_of g) _;
        steps = λ g step common. asks a (drawn_of g) step;
        makes = λ g path names k. asks a (drawn_of g) _;
        reads = λ g h offset count bytes k ok. stays (drawn_of g);
        writes = λ g h offset new y k ok. stays (drawn_of g);
        truncates = λ g h size y k ok. stays (drawn_of g);
        ends = λ g h k. stays (drawn_of g);
        closes = λ g h y k found. stays (drawn_of g);
        sees_empty = λ g request h writes sight k is. stays (drawn_of g);
        sees_version = λ g request h writes sight v k is. draws (drawn_of g) _;
        turns_open = λ g o. stays (drawn_of g);
        hears_open = λ g o c request answer takes k awaited. stays (drawn_of g);
        gets = λ g o clouds. draws (drawn_of g) _;
        loses = λ g o. stays (drawn_of g);
        shows = λ g o bytes all. stays (drawn_of g);
        turns_upload = λ g x u. stays (drawn_of g);
        hears_upload = λ g x u c request answer k new few. stays (drawn_of g);
        puts = λ g x u clouds k within. draws (drawn_of g) _;
        commits = λ g x u c request answer k new just. asks a (drawn_of g) _;
        drops = λ g x why. stays (drawn_of g);
        downs = λ g up k. fewer (drawn_of g) _ (λ r h. h) (λ P h. tt);
        ups = λ g down k. fewer (drawn_of g) _ (λ r h. (omega (arith, h.0), λ l. absurd (omega (arith, l, h.0)))) (λ P h. h);
      }

  pub seat_reacted : (seat : Seat Row) (input : Input Row) → is_up seat.agent.life ≡ has_up input → IsInput anything input → SeatKept a seat →
      let r : Reaction Row = reacted s rows a seat.agent given input in SeatKept a (record seat { agent = r.agent; asked = seat.asked ++ r.steps })
  seat_reacted seat input up known h =
      let r : Reaction Row = reacted s rows a seat.agent given input in
      let k : Keeps (drawn_of seat.agent) (drawn_of r.agent) r.steps =
      reacts s rows a anything given Does moves (λ g x. draws (drawn_of g) _) tt seat.agent input up known h.pending in
      record {
        pending = k.drew;
        asked = each-append _ seat.asked r.steps (each-map _ _ (λ x. k.on x.number x.step) seat.asked h.asked) k.new;
        replied = each-map _ _ (λ y. k.on y.number (step_of y.outcome)) seat.replied h.replied;
      }

-- What holds of each agent, of each step that waits and of each reply that waits, where agents and the space keep it, holds after an event.
use Rattle.std.proofs.Common.{◌≡◌, ℕ, List, [], ◌∷◌, true, subst, Option, Some, slice_get, slice_set}
use Rattle.scfs_schedule.specs.declared.types.Line.{Line}
use Rattle.scfs_schedule.specs.declared.types.Line.TheVariants as lines
use Rattle.scfs_base.specs.declared.naming.RequestNo.{RequestNo}
use Rattle.scfs_base.specs.declared.cloud.CloudAnswer.{CloudAnswer}
use Rattle.scfs_model.specs.Format.{Setup}
use Rattle.scfs_model.specs.History.{Message, Of_answer}
use Rattle.scfs_model.specs.Versions.{Versions}
use Rattle.scfs_model.specs.Given.{Given}
use Rattle.scfs_model.specs.Lives.{is_up}
use Rattle.scfs_model.specs.Tree.{live}
use Rattle.scfs_model.specs.Steps.{Served, served}
use Rattle.scfs_model.specs.Agents.{Request, Agent, Input, Tells, Hears, Sent, Reaction}
use Rattle.scfs_model.specs.Reactions.{reacted}
use Rattle.scfs_model.specs.Events.{At_agent, Answer_given, Place, Agent_has, Cloud_has}
use Rattle.scfs_model.specs.States.{Reply, Seat, State, Effect, sum_of, is_there, comes, at_place}
use Rattle.scfs_laws.proofs.Lists.{Each, Places, each-map, each-append, each-moved, places_set}
use Rattle.scfs_laws.proofs.Moves.{has_up}
use Rattle.scfs_laws.proofs.Ways.{own_input, of_event}

-- what holds of agents, of steps that wait, and of replies that wait, by the number of the seat
pub record Parts (V : Type 0) : Type 1 where
  pub agent : (a : ℕ) → Agent V → Type 0
  pub step : (a : ℕ) → Request V → Type 0
  pub reply : (a : ℕ) → Reply V → Type 0

module _ {V : Type 0} where
  pub record IsSeat (parts : Parts V) (a : ℕ) (seat : Seat V) : Type 0 where
    pub agent : parts.agent a seat.agent
    pub steps : Each (parts.step a) seat.asked
    pub replies : Each (parts.reply a) seat.replied

  abbrev pub AreSeats : Parts V → List (Seat V) → Type 0
  AreSeats parts seats = Places (IsSeat parts) seats

-- what is so before an event and after it, where these are its lines and what it sends is such
module _ {V : Type 0} (s : Setup) (vs : Versions V) (state : State V) (given : Given) (message : Option Message) (shown : List Line)
    (before after : Parts V) (IsSent : Sent → Type 0) where
  -- a reaction of an agent that was such
  abbrev pub Reacts : (a : ℕ) → Agent V → Input V → Type 0
  Reacts a g input =
      let r : Reaction V = reacted s vs a g given input in Each IsSent r.sent → after.agent a r.agent × Each (after.step a) r.steps

  pub record Kept (place : Place) : Type 0 where
    pub agents : (a : ℕ) (g : Agent V) → before.agent a g → after.agent a g
    pub steps : (a : ℕ) (q : Request V) → before.step a q → after.step a q
    pub replies : (a : ℕ) (y : Reply V) → before.reply a y → after.reply a y
    pub own : (a : ℕ) (seat : Seat V) (x : At_agent) → slice_get state.seats a ≡ Some seat → before.agent a seat.agent → place ≡ Agent_has a x
        → is_up seat.agent.life ≡ has_up {V = V} (own_input x)
        → Reacts a seat.agent (own_input x)
    pub hears : (c : ℕ) (request : RequestNo) (answer : CloudAnswer) (seat : Seat V) → slice_get state.seats request.agent ≡ Some seat
        → before.agent request.agent seat.agent → place ≡ Cloud_has c Answer_given → message ≡ Some (Of_answer request answer)
        → is_there seat.agent request ≡ true
        → shown ≡ (comes s vs state request.agent given (lines.Gave c request (sum_of s answer) ∷ []) (Hears c request answer) seat).lines
        → Reacts request.agent seat.agent (Hears c request answer)
    pub told : (a : ℕ) (seat : Seat V) (y : Reply V) → slice_get state.seats a ≡ Some seat → before.agent a seat.agent → before.reply a y
        → is_there seat.agent y.number ≡ true
        → Reacts a seat.agent (Tells y.number y.outcome)
    pub serve : (a : ℕ) (q : Request V) → before.step a q →
        let x : Served V = served vs (live state.clock state.tree) state.clock s.header.lease q.number q.step in
        after.reply a (record { number = q.number; outcome = x.outcome })

  module _ (are : AreSeats before state.seats) (place : Place) (k : Kept place) where
    abbrev Fine : Effect V → Type 0
    Fine x = shown ≡ x.lines → Each IsSent x.sent → AreSeats after x.state.seats

    stays : (a : ℕ) (seat : Seat V) → IsSeat before a seat → IsSeat after a seat
    stays a seat h =
        record {
          agent = k.agents a seat.agent h.agent;
          steps = each-map (before.step a) (after.step a) (k.steps a) seat.asked h.steps;
          replies = each-map (before.reply a) (after.reply a) (k.replies a) seat.replied h.replies;
        }

    all_stay : AreSeats after state.seats
    all_stay a seat found = stays a seat (are a seat found)

    -- one seat is another
    set : (a : ℕ) (old new : Seat V) → slice_get state.seats a ≡ Some old → IsSeat after a new → AreSeats after (slice_set state.seats a new)
    set a old new found here = places_set (IsSeat after) state.seats a old new found here (λ b other seat there. all_stay b seat there)

    fewer : (a : ℕ) (seat : Seat V) (oldest : Reply V) (rest : List (Reply V)) → slice_get state.seats a ≡ Some seat → seat.replied ≡ oldest ∷ rest
        → IsSeat before a (record seat { replied = oldest ∷ rest })
    fewer a seat oldest rest found is = subst (λ xs. IsSeat before a (record seat { replied = xs })) is (are a seat found)

    comes_fine : (a : ℕ) (old seat : Seat V) (first : List Line) (input : Input V) → slice_get state.seats a ≡ Some old → IsSeat before a seat
        → let x : Effect V = comes s vs state a given first input seat in (shown ≡ x.lines → Reacts a seat.agent input) → Fine x
    comes_fine a old seat first input found h each same sent =
        let r : Reaction V = reacted s vs a seat.agent given input in
        let now : after.agent a r.agent × Each (after.step a) r.steps = each same sent in
        let g : IsSeat after a seat = stays a seat h in
        set a old _ found (record { agent = now.0; steps = each-append (after.step a) seat.asked r.steps g.steps now.1; replies = g.replies })

    pub seats_kept : Fine (at_place s vs state message given place)
    seats_kept =
        of_event s vs state given message Fine place
        (record {
          nothing = λ quiet idle bare same sent. all_stay;
          later = λ ticks same sent. all_stay;
          gone = λ a seat request found same sent. set a seat seat found (all_stay a seat found);
          missed = λ a seat oldest rest found is away same sent.
              let h : IsSeat before a (record seat { replied = oldest ∷ rest }) = fewer a seat oldest rest found is in
              set a seat _ found (stays a (record seat { replied = rest }) (record { agent = h.agent; steps = h.steps; replies = h.replies.1 }));
          own = λ a seat x found is up. comes_fine a seat seat [] (own_input x) found (are a seat found) (λ same. k.own a seat x found (are a seat found).agent is up);
          hears = λ c request answer seat found is about there.
              comes_fine request.agent seat seat (lines.Gave c request (sum_of s answer) ∷ []) (Hears c request answer) found (are request.agent seat found)
              (k.hears c request answer seat found (are request.agent seat found).agent is about there);
          told = λ a seat oldest rest found is there.
              let h : IsSeat before a (record seat { replied = oldest ∷ rest }) = fewer a seat oldest rest found is in
              comes_fine a seat (record seat { replied = rest }) [] (Tells oldest.number oldest.outcome) found
              (record { agent = h.agent; steps = h.steps; replies = h.replies.1 })
              (λ same. k.told a seat oldest found h.agent h.replies.0 there);
          serve = λ a seat oldest rest found is at same sent.
              let h : IsSeat before a (record seat { asked = oldest ∷ rest }) = subst (λ xs. IsSeat before a (record seat { asked = xs })) is (are a seat found) in
              let g : IsSeat after a (record seat { asked = rest }) =
              stays a (record seat { asked = rest }) (record { agent = h.agent; steps = h.steps.1; replies = h.replies }) in
              set a seat _ found (record {
                agent = g.agent;
                steps = g.steps;
                replies = each-append (after.reply a) seat.replied _ g.replies (k.serve a oldest h.steps.0, tt);
              });
          postpone = λ a seat oldest rest found is same sent.
              let g : IsSeat after a seat = all_stay a seat found in
              set a seat _ found (record { agent = g.agent; steps = each-moved (after.step a) seat.asked g.steps; replies = g.replies });
        })

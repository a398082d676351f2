-- What an event does with agents and requests: nothing, or one agent does something.
use Rattle.std.proofs.Common.{◌≡◌, ◌⊎◌, inl, inr, ℕ, List, [], ◌∷◌, ◌++◌, true, refl, Option, Some, slice_get, slice_set}
use Rattle.scfs_base.specs.declared.naming.UploadNo.{UploadNo}
use Rattle.scfs_schedule.specs.declared.types.Line.{Line}
use Rattle.scfs_schedule.specs.declared.types.Line.TheVariants as lines
use Rattle.scfs_model.specs.Format.{Setup}
use Rattle.scfs_model.specs.History.{Message}
use Rattle.scfs_model.specs.Given.{Given}
use Rattle.scfs_model.specs.Lives.{is_up}
use Rattle.scfs_model.specs.Agents.{Agent, Input, Calls, Tells, Hears, Turns, Crashes, Starts, Reaction, silent}
use Rattle.scfs_model.specs.Layers.{Row, rows}
use Rattle.scfs_model.specs.Reactions.{next_life, reacted}
use Rattle.scfs_model.specs.Events.{At_agent, Call_comes, Turn_comes, Crash_comes, Start_comes, Place}
use Rattle.scfs_model.specs.States.{Seat, State, Effect, sum_of, comes, at_place}
use Rattle.scfs_laws.proofs.Moves.{has_up}
use Rattle.scfs_laws.proofs.Ways.{own_input, of_event, up_there}
use Rattle.scfs_durable.proofs.Sending.{AreOwn}
use Rattle.scfs_durable.proofs.Reacting.{Does, reacted_does, started_does, nothing_does}

module _ (s : Setup) (state : State Row) (given : Given) (message : Option Message) (Had : (a : ℕ) → UploadNo → (contents : List ℕ) → Type 0)
    (own : (a : ℕ) (seat : Seat Row) → slice_get state.seats a ≡ Some seat → AreOwn s a (Had a) seat.agent.closed) where
  -- an agent at its seat, perhaps in its next incarnation, does something
  pub record IsAct (x : Effect Row) : Type 0 where
    pub a : ℕ
    pub seat : Seat Row
    pub found : slice_get state.seats a ≡ Some seat
    pub from : Agent Row
    pub begun : (from ≡ seat.agent) ⊎ (from ≡ next_life seat.agent)
    pub reaction : Reaction Row
    pub does : Does s a (Had a) from reaction
    pub after : Seat Row
    pub agent : after.agent ≡ reaction.agent
    pub seats : x.state.seats ≡ slice_set state.seats a after
    pub sent : x.sent ≡ reaction.sent

  abbrev IsQuiet : Effect Row → Type 0
  IsQuiet x = (x.state.seats ≡ state.seats) × (x.sent ≡ [])

  abbrev pub Acts : Effect Row → Type 0
  Acts x = IsQuiet x ⊎ IsAct x

  -- one seat has other messages
  stays : (x : Effect Row) (a : ℕ) (seat after : Seat Row) → slice_get state.seats a ≡ Some seat → after.agent ≡ seat.agent
      → x.state.seats ≡ slice_set state.seats a after → x.sent ≡ [] → Acts x
  stays x a seat after found same seats none =
      inr (record {
        a = a;
        seat = seat;
        found = found;
        from = seat.agent;
        begun = inl refl;
        reaction = silent seat.agent;
        does = nothing_does s a (Had a) seat.agent (own a seat found);
        after = after;
        agent = same;
        seats = seats;
        sent = none;
      })

  -- an agent that is up has an input
  come : (a : ℕ) (old seat : Seat Row) (first : List Line) (input : Input Row) → slice_get state.seats a ≡ Some old → seat.agent ≡ old.agent
      → AreOwn s a (Had a) seat.agent.closed → is_up seat.agent.life ≡ true → has_up input ≡ true
      → Acts (comes s rows state a given first input seat)
  come a old seat first input found same has up ups =
      inr (record {
        a = a;
        seat = old;
        found = found;
        from = seat.agent;
        begun = inl same;
        reaction = reacted s rows a seat.agent given input;
        does = reacted_does s a (Had a) seat.agent given input up ups has;
        after = record seat { agent = (reacted s rows a seat.agent given input).agent; asked = seat.asked ++ (reacted s rows a seat.agent given input).steps };
        agent = refl;
        seats = refl;
        sent = refl;
      })

  start : (a : ℕ) (seat : Seat Row) → slice_get state.seats a ≡ Some seat → Acts (comes s rows state a given [] Starts seat)
  start a seat found =
      inr (record {
        a = a;
        seat = seat;
        found = found;
        from = next_life seat.agent;
        begun = inr refl;
        reaction = reacted s rows a seat.agent given Starts;
        does = started_does s a (Had a) seat.agent given (own a seat found);
        after = record seat { agent = (reacted s rows a seat.agent given Starts).agent; asked = seat.asked ++ (reacted s rows a seat.agent given Starts).steps };
        agent = refl;
        seats = refl;
        sent = refl;
      })

  by_itself : (a : ℕ) (seat : Seat Row) (x : At_agent) → slice_get state.seats a ≡ Some seat → is_up seat.agent.life ≡ has_up {V = Row} (own_input x)
      → Acts (comes s rows state a given [] (own_input x) seat)
  by_itself a seat (Call_comes call) found up = come a seat seat [] (Calls call) found refl (own a seat found) up refl
  by_itself a seat Turn_comes found up = come a seat seat [] Turns found refl (own a seat found) up refl
  by_itself a seat Crash_comes found up = come a seat seat [] Crashes found refl (own a seat found) up refl
  by_itself a seat Start_comes found up = start a seat found

  pub event_acts : (place : Place) → Acts (at_place s rows state message given place)
  event_acts place =
      of_event s rows state given message Acts place
      (record {
        nothing = λ shown idle bare. inl (refl, refl);
        later = λ ticks. inl (refl, refl);
        gone = λ a seat request found. stays _ a seat seat found refl refl refl;
        missed = λ a seat oldest rest found is away. stays _ a seat _ found refl refl refl;
        own = λ a seat x found is up. by_itself a seat x found up;
        hears = λ c request answer seat found is about there.
            come request.agent seat seat (lines.Gave c request (sum_of s answer) ∷ []) (Hears c request answer) found refl
            (own request.agent seat found) (up_there seat.agent request there) refl;
        told = λ a seat oldest rest found is there.
            come a seat (record seat { replied = rest }) [] (Tells oldest.number oldest.outcome) found refl (own a seat found)
            (up_there seat.agent oldest.number there) refl;
        serve = λ a seat oldest rest found is at. stays _ a seat _ found refl refl refl;
        postpone = λ a seat oldest rest found is. stays _ a seat _ found refl refl refl;
      })

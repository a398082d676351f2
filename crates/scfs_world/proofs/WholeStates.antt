-- What is known of each seat after a history.
use Rattle.std.proofs.Common.{◌≡◌, ℕ, List, [], ◌∷◌, ◌++◌, refl, sym, subst, Some, slice_get, slice_set, length}
use Rattle.scfs_base.specs.declared.naming.RequestNo.{RequestNo}
use Rattle.scfs_model.specs.Lists.{moved_back}
use Rattle.scfs_model.specs.Format.{Setup}
use Rattle.scfs_model.specs.Given.{Given, given_of}
use Rattle.scfs_model.specs.History.{History}
use Rattle.scfs_model.specs.Layers.{Row, rows}
use Rattle.scfs_model.specs.Lives.{is_up}
use Rattle.scfs_model.specs.Tree.{Tree, live}
use Rattle.scfs_model.specs.Steps.{Step, On_names, On_locks, On_sessions, served}
use Rattle.scfs_model.specs.Agents.{Request, Input, Tells, Hears}
use Rattle.scfs_model.specs.Events.{At_agent, Call_comes, Turn_comes, Crash_comes, Start_comes, place_of}
use Rattle.scfs_model.specs.States.{Reply, Seat, State, first_seat, comes}
use Rattle.scfs_model.specs.Runs.{actual}
use Rattle.scfs_laws.proofs.HeldSeats.{step_of}
use Rattle.scfs_laws.proofs.Moves.{has_up, IsInput, any_reply}
use Rattle.scfs_laws.proofs.Lists.{Each, Places, each-append, each-moved, places_set, places_replicate}
use Rattle.scfs_laws.proofs.Ways.{own_input, up_there, of_event}
use Rattle.scfs_world.proofs.WholeSeats.{drawn_of, Stands, SeatKept, anything, seat_reacted}

served_step : (tree : Tree Row) (now lease : ℕ) (request : RequestNo) (x : Step Row) → step_of (served rows tree now lease request x).outcome ≡ x
served_step tree now lease request (On_names x) = refl
served_step tree now lease request (On_locks x) = refl
served_step tree now lease request (On_sessions x) = refl

own_known : (x : At_agent) → IsInput anything (own_input x)
own_known (Call_comes call) = tt
own_known Turn_comes = tt
own_known Crash_comes = tt
own_known Start_comes = tt

module _ (s : Setup) (state : State Row) (given : Given) (kept : Places SeatKept state.seats) where
  -- one seat is another
  set : (a : ℕ) (seat new : Seat Row) → slice_get state.seats a ≡ Some seat → SeatKept a new → Places SeatKept (slice_set state.seats a new)
  set a seat new found here = places_set SeatKept state.seats a seat new found here (λ b other y there. kept b y there)

  come : (a : ℕ) (old seat : Seat Row) (input : Input Row) → slice_get state.seats a ≡ Some old
      → is_up seat.agent.life ≡ has_up input → IsInput anything input → SeatKept a seat
      → Places SeatKept (comes s rows state a given [] input seat).state.seats
  come a old seat input found up known h = set a old _ found (seat_reacted s a given seat input up known h)

  told : (a : ℕ) (seat : Seat Row) (oldest : Reply Row) (rest : List (Reply Row)) → slice_get state.seats a ≡ Some seat
      → seat.replied ≡ oldest ∷ rest → SeatKept a (record seat { replied = rest })
  told a seat oldest rest found is =
      let h : SeatKept a seat = kept a seat found in
      let all : Each (λ (y : Reply Row). Stands (drawn_of seat.agent) y.number (step_of y.outcome)) (oldest ∷ rest) = subst (Each _) is h.replied in
      record { pending = h.pending; asked = h.asked; replied = all.1 }

  serve : (a : ℕ) (seat : Seat Row) (oldest : Request Row) (rest : List (Request Row)) → slice_get state.seats a ≡ Some seat
      → seat.asked ≡ oldest ∷ rest →
      let x = served rows (live state.clock state.tree) state.clock s.header.lease oldest.number oldest.step in
      SeatKept a (record seat { asked = rest; replied = seat.replied ++ (record { number = oldest.number; outcome = x.outcome }) ∷ [] })
  serve a seat oldest rest found is =
      let h : SeatKept a seat = kept a seat found in
      let all : Each (λ (x : Request Row). Stands (drawn_of seat.agent) x.number x.step) (oldest ∷ rest) = subst (Each _) is h.asked in
      let its = served_step (live state.clock state.tree) state.clock s.header.lease oldest.number oldest.step in
      record {
        pending = h.pending;
        asked = all.1;
        replied = each-append _ seat.replied _ h.replied (subst (Stands (drawn_of seat.agent) oldest.number) (sym its) all.0, tt);
      }

  postpone : (a : ℕ) (seat : Seat Row) → slice_get state.seats a ≡ Some seat → SeatKept a (record seat { asked = moved_back seat.asked })
  postpone a seat found =
      let h : SeatKept a seat = kept a seat found in record { pending = h.pending; asked = each-moved _ seat.asked h.asked; replied = h.replied }

pub kept_after : (s : Setup) (past : History) → Places SeatKept (actual s past).seats
kept_after s [] =
    places_replicate SeatKept (length s.header.agents) (first_seat s) (λ a. record { pending = tt; asked = tt; replied = tt })
kept_after s (e ∷ past) =
    let state : State Row = actual s past in
    let given : Given = given_of state.clock e in
    let kept : Places SeatKept state.seats = kept_after s past in
    of_event s rows state given e.message (λ x. Places SeatKept x.state.seats) (place_of e.event)
    (record {
      nothing = λ shown idle bare. kept;
      later = λ ticks. kept;
      gone = λ a seat request found. set s state given kept a seat seat found (kept a seat found);
      missed = λ a seat oldest rest found is away. set s state given kept a seat _ found (told s state given kept a seat oldest rest found is);
      own = λ a seat x found at up. come s state given kept a seat seat (own_input x) found up (own_known x) (kept a seat found);
      hears = λ c request answer seat found at about there. come s state given kept request.agent seat seat (Hears c request answer) found
          (up_there seat.agent request there) tt (kept request.agent seat found);
      told = λ a seat oldest rest found is there. come s state given kept a seat (record seat { replied = rest })
          (Tells oldest.number oldest.outcome) found (up_there seat.agent oldest.number there)
          (any_reply anything (λ request sight. tt) oldest.number oldest.outcome) (told s state given kept a seat oldest rest found is);
      serve = λ a seat oldest rest found is at. set s state given kept a seat _ found (serve s state given kept a seat oldest rest found is);
      postpone = λ a seat oldest rest found is. set s state given kept a seat _ found (postpone s state given kept a seat found);
    })

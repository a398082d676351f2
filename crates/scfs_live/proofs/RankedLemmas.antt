-- What the rank rule is asked in an event does not rest on what it answers there.
use Rattle.std.proofs.Common.{◌≡◌, ℕ, List, [], ◌∷◌, ◌++◌, refl, ap, ◌∙◌, sym, Bool, true, false, not, cond, Option, Some, None, Ok, Err}
use Rattle.std.specs.Prelude.{slice_get}
use Rattle.scfs_base.specs.declared.naming.RequestNo.{RequestNo}
use Rattle.scfs_policy.specs.declared.rank.RankFacts.{RankFacts}
use Rattle.scfs_schedule.specs.declared.types.Event.{Event}
use Rattle.scfs_schedule.specs.declared.types.Line.{Line}
use Rattle.scfs_schedule.specs.declared.types.Line.TheVariants as lines
use Rattle.scfs_model.specs.Agents.{Agent, Calls, Closed, Crashes, Hears, Input, Reaction, Starts, Tells, Turns, Upload, silent}
use Rattle.scfs_model.specs.Events.{Agent_has, Answer_given, At_agent, At_space, Call_comes, Clock_has, Cloud_has, Crash_comes, Message_moved, Place, Reply_told, Request_answered, Space_has, Start_comes, Step_postponed, Step_served, Turn_comes, place_of}
use Rattle.scfs_model.specs.Format.{Setup}
use Rattle.scfs_model.specs.Given.{Given}
use Rattle.scfs_model.specs.History.{Message, Of_answer, Of_request}
use Rattle.scfs_model.specs.Leases.{leased}
use Rattle.scfs_model.specs.Lists.{if_some}
use Rattle.scfs_model.specs.Lives.{is_up}
use Rattle.scfs_model.specs.Opens.{As_empty, Found, On_clouds, found, saw, sighted}
use Rattle.scfs_model.specs.Reactions.{begun, next_begun, reacted, responded}
use Rattle.scfs_model.specs.SessionSteps.{Commit, Completes, Locks, Open_read, Open_write, Sees, Session_outcome, Session_step, Sight}
use Rattle.scfs_model.specs.States.{Effect, Reply, Seat, State, at_agent, at_place, at_space, comes, comes_back, comes_if, effect, gives, is_there, leaving, skips, sum_of, with_seat}
use Rattle.scfs_model.specs.Steps.{Of_locks, Of_names, Of_sessions, Outcome}
use Rattle.scfs_model.specs.States as states
use Rattle.scfs_model.specs.Told as telling
use Rattle.scfs_model.specs.Versions.{Versions}
use Rattle.scfs_model.specs.Walks.{OrRefusal}

-- two choices by one test that ask the same
by_choice : {X : Type 0} (asks : X → List RankFacts) (t : Bool) (x x' y y' : X) → asks x ≡ asks x' → asks y ≡ asks y' → asks (cond t x y) ≡ asks (cond t x' y')
by_choice asks true x x' y y' first second = first
by_choice asks false x x' y y' first second = second

module _ {V : Type 0} (s : Setup) (vs : Versions V) (now : ℕ) (ranks ranks' : List ℕ) where
  abbrev one : Given
  one = record { now = now; ranks = ranks }

  abbrev other : Given
  other = record { now = now; ranks = ranks' }

  abbrev asked_by : Reaction V → List RankFacts
  asked_by r = r.ranked

  abbrev asked_in : Effect V → List RankFacts
  asked_in x = x.ranked

  module _ (a : ℕ) where
    sighted_asks : (agent : Agent V) (h : ℕ) (writes : Bool) (sight : Sight V) (f : Found V)
        → asked_by (sighted s vs a agent one h writes sight f) ≡ asked_by (sighted s vs a agent other h writes sight f)
    sighted_asks agent h writes sight As_empty = refl
    sighted_asks agent h writes sight (On_clouds v) = refl

    saw_asks : (agent : Agent V) (request : RequestNo) (h : ℕ) (writes : Bool) (sight : Sight V)
        → asked_by (saw s vs a agent one request h writes sight) ≡ asked_by (saw s vs a agent other request h writes sight)
    saw_asks agent request h writes sight = sighted_asks agent h writes sight (found sight)

    open_asks : (agent : Agent V) (request : RequestNo) (h : ℕ) (r : OrRefusal (Session_outcome V))
        → asked_by (telling.told_open s vs a agent one request h r) ≡ asked_by (telling.told_open s vs a agent other request h r)
    open_asks agent request h (Ok (Sees sight)) = saw_asks agent request h false sight
    open_asks agent request h (Ok (Locks sight l)) = saw_asks (leased agent h l.until) request h true sight
    open_asks agent request h (Ok (Completes session v n)) = refl
    open_asks agent request h (Err why) = refl

    sessions_asks : (agent : Agent V) (request : RequestNo) (x : Session_step V) (r : OrRefusal (Session_outcome V))
        → asked_by (telling.told_sessions s vs a agent one request x r) ≡ asked_by (telling.told_sessions s vs a agent other request x r)
    sessions_asks agent request (Open_read names h) r = open_asks agent request h r
    sessions_asks agent request (Open_write names h) r = open_asks agent request h r
    sessions_asks agent request (Commit h v) r = refl

    told_asks : (agent : Agent V) (request : RequestNo) (o : Outcome V)
        → asked_by (telling.told s vs a agent one request o) ≡ asked_by (telling.told s vs a agent other request o)
    told_asks agent request (Of_names x r) = refl
    told_asks agent request (Of_locks x r) = refl
    told_asks agent request (Of_sessions x r) = sessions_asks agent request x r

    tells_asks : (agent : Agent V) (request : RequestNo) (o : Outcome V)
        → asked_by (telling.tells s vs a agent one request o) ≡ asked_by (telling.tells s vs a agent other request o)
    tells_asks agent request o =
        let untold = telling.untold agent request in
        by_choice asked_by (telling.is_pending agent request) (telling.told s vs a untold one request o) (telling.told s vs a untold other request o)
        (silent agent) (silent agent) (told_asks untold request o) refl

    responded_asks : (agent : Agent V) (input : Input V) → asked_by (responded s vs a agent one input) ≡ asked_by (responded s vs a agent other input)
    responded_asks agent (Calls call) = refl
    responded_asks agent (Tells request o) = tells_asks agent request o
    responded_asks agent (Hears c request answer) = refl
    responded_asks agent Turns = refl
    responded_asks agent Crashes = refl
    responded_asks agent Starts = refl

    -- an upload that begins asks nothing
    begun_asks : (agent : Agent V) (rest : List (Closed V)) (x : Closed V) (u : Option (Upload V)) → asked_by (begun s vs a agent rest x u) ≡ []
    begun_asks agent rest x None = refl
    begun_asks agent rest x (Some u) = refl

    next_asks : (agent : Agent V) (closed : List (Closed V)) → asked_by (next_begun s vs a agent closed) ≡ []
    next_asks agent [] = refl
    next_asks agent (x ∷ rest) = begun_asks agent rest x x.upload

    reacted_asks : (agent : Agent V) (input : Input V) → asked_by (reacted s vs a agent one input) ≡ asked_by (reacted s vs a agent other input)
    reacted_asks agent input =
        let first = responded s vs a agent one input in
        let second = responded s vs a agent other input in
        ap (λ (l : List RankFacts). first.ranked ++ l) (next_asks first.agent first.agent.closed)
        ∙ ap (λ (l : List RankFacts). l ++ []) (responded_asks agent input)
        ∙ ap (λ (l : List RankFacts). second.ranked ++ l) (sym (next_asks second.agent second.agent.closed))

  module _ (state : State V) where
    comes_asks : (a : ℕ) (before : List Line) (input : Input V) (seat : Seat V)
        → asked_in (comes s vs state a one before input seat) ≡ asked_in (comes s vs state a other before input seat)
    comes_asks a before input seat = reacted_asks a seat.agent input

    comes_if_asks : (can : Bool) (a : ℕ) (input : Input V) (seat : Seat V)
        → asked_in (comes_if s vs can state a one input seat) ≡ asked_in (comes_if s vs can state a other input seat)
    comes_if_asks can a input seat =
        by_choice asked_in can (comes s vs state a one [] input seat) (comes s vs state a other [] input seat) (skips state) (skips state)
        (comes_asks a [] input seat) refl

    comes_back_asks : (a : ℕ) (request : RequestNo) (before : List Line) (input : Input V) (seat : Seat V)
        → asked_in (comes_back s vs state a one request before input seat) ≡ asked_in (comes_back s vs state a other request before input seat)
    comes_back_asks a request before input seat =
        let gone = leaving (with_seat state a seat) (lines.Gone request ∷ []) in
        by_choice asked_in (is_there seat.agent request) (comes s vs state a one before input seat) (comes s vs state a other before input seat) gone gone
        (comes_asks a before input seat) refl

    tells_seat_asks : (a : ℕ) (seat : Seat V) (replies : List (Reply V))
        → asked_in (states.tells s vs state a one seat replies) ≡ asked_in (states.tells s vs state a other seat replies)
    tells_seat_asks a seat [] = refl
    tells_seat_asks a seat (oldest ∷ rest) = comes_back_asks a oldest.number [] (Tells oldest.number oldest.outcome) (record seat { replied = rest })

    at_seat_asks : (found : Option (Seat V)) (on on' : Seat V → Effect V) → ((seat : Seat V) → asked_in (on seat) ≡ asked_in (on' seat))
        → asked_in (if_some found (leaving state []) on) ≡ asked_in (if_some found (leaving state []) on')
    at_seat_asks None on on' each = refl
    at_seat_asks (Some seat) on on' each = each seat

    gives_asks : (c : ℕ) (message : Option Message) → asked_in (gives s vs state one c message) ≡ asked_in (gives s vs state other c message)
    gives_asks c None = refl
    gives_asks c (Some (Of_request request)) = refl
    gives_asks c (Some (Of_answer request answer)) =
        let shown = lines.Gave c request (sum_of s answer) ∷ [] in
        at_seat_asks (slice_get state.seats request.agent)
        (comes_back s vs state request.agent one request shown (Hears c request answer))
        (comes_back s vs state request.agent other request shown (Hears c request answer))
        (comes_back_asks request.agent request shown (Hears c request answer))

    at_agent_asks : (a : ℕ) (x : At_agent) (seat : Seat V) → asked_in (at_agent s vs state one a x seat) ≡ asked_in (at_agent s vs state other a x seat)
    at_agent_asks a (Call_comes call) seat = comes_if_asks (is_up seat.agent.life) a (Calls call) seat
    at_agent_asks a Turn_comes seat = comes_if_asks (is_up seat.agent.life) a Turns seat
    at_agent_asks a Crash_comes seat = comes_if_asks (is_up seat.agent.life) a Crashes seat
    at_agent_asks a Start_comes seat = comes_if_asks (not (is_up seat.agent.life)) a Starts seat

    at_space_asks : (a : ℕ) (x : At_space) (seat : Seat V) → asked_in (at_space s vs state one a x seat) ≡ asked_in (at_space s vs state other a x seat)
    at_space_asks a Step_served seat = refl
    at_space_asks a Step_postponed seat = refl
    at_space_asks a Reply_told seat = tells_seat_asks a seat seat.replied

    at_place_asks : (message : Option Message) (place : Place)
        → asked_in (at_place s vs state message one place) ≡ asked_in (at_place s vs state message other place)
    at_place_asks message (Agent_has a x) =
        at_seat_asks (slice_get state.seats a) (at_agent s vs state one a x) (at_agent s vs state other a x) (at_agent_asks a x)
    at_place_asks message (Space_has a x) =
        at_seat_asks (slice_get state.seats a) (at_space s vs state one a x) (at_space s vs state other a x) (at_space_asks a x)
    at_place_asks message (Cloud_has c Request_answered) = refl
    at_place_asks message (Cloud_has c Answer_given) = gives_asks c message
    at_place_asks message (Cloud_has c Message_moved) = refl
    at_place_asks message (Clock_has ticks) = refl

    pub effect_asks : (event : Event) (message : Option Message)
        → asked_in (effect s vs state event message one) ≡ asked_in (effect s vs state event message other)
    effect_asks event message = at_place_asks message (place_of event)

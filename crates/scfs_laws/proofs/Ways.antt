-- What an event does, in some ways: nothing, the clock going on, an input to an agent, a reply that is gone, a step served, a step postponed.
use Rattle.std.proofs.Common.{◌≡◌, ℕ, ◌+◌, Bool, true, false, not, cond, List, [], ◌∷◌, refl, Option, Some, None, slice_get}
use Rattle.std.specs.Prelude.{◌==◌}
use Rattle.std.proofs.lemmas.Bool.{and_parts}
use Rattle.scfs_base.specs.declared.naming.RequestNo.{RequestNo}
use Rattle.scfs_base.specs.declared.cloud.CloudAnswer.{CloudAnswer}
use Rattle.scfs_schedule.specs.declared.types.Line.{Line}
use Rattle.scfs_schedule.specs.declared.types.Line.TheVariants as lines
use Rattle.scfs_model.specs.Lists.{if_some}
use Rattle.scfs_model.specs.Format.{Setup}
use Rattle.scfs_model.specs.History.{Message, Of_request, Of_answer, History}
use Rattle.scfs_model.specs.Versions.{Versions}
use Rattle.scfs_model.specs.Given.{Given, given_of}
use Rattle.scfs_model.specs.Tree.{Tree, empty_tree, live}
use Rattle.scfs_model.specs.Steps.{Step, served}
use Rattle.scfs_model.specs.Runs.{state_after}
use Rattle.scfs_model.specs.Agents.{Request, Agent, Input, Calls, Tells, Hears, Turns, Crashes, Starts}
use Rattle.scfs_model.specs.Lives.{is_up}
use Rattle.scfs_model.specs.Events.{At_agent, Call_comes, Turn_comes, Crash_comes, Start_comes, At_space, Step_served, Step_postponed, Reply_told, Request_answered, Answer_given, Message_moved, Place, Agent_has, Space_has, Cloud_has, Clock_has, place_of}
use Rattle.scfs_model.specs.States.{Reply, Seat, State, Effect, sum_of, leaving, with_seat, is_there, postpones, moves, answers_by, comes, serves, tells, gives, at_agent, at_space, at_place}
use Rattle.scfs_laws.proofs.Lists.{Each}
use Rattle.scfs_laws.proofs.Moves.{has_up}

-- a line that is neither the space's nor an agent's
abbrev pub IsIdle : Line → Type 0
IsIdle lines.Skip = Unit {0}
IsIdle (lines.Gone request) = Unit {0}
IsIdle (lines.Did c request sum) = Unit {0}
IsIdle (lines.Gave c request sum) = Unit {0}
IsIdle other = ⊥

-- one that tells of no answer to an agent
abbrev pub IsStill : Line → Type 0
IsStill lines.Skip = Unit {0}
IsStill (lines.Did c request sum) = Unit {0}
IsStill other = ⊥

-- what an agent has of its own accord
abbrev pub own_input : {V : Type 0} → At_agent → Input V
own_input (Call_comes call) = Calls call
own_input Turn_comes = Turns
own_input Crash_comes = Crashes
own_input Start_comes = Starts

-- an agent is up where a reply to its request is told
pub up_there : {V : Type 0} (g : Agent V) (request : RequestNo) → is_there g request ≡ true → is_up g.life ≡ true
up_there g request there = (and_parts (is_up g.life) (g.incarnation == request.incarnation) there).0

-- an event at a place, about this message of a cloud
module _ {V : Type 0} (s : Setup) (vs : Versions V) (state : State V) (given : Given) (message : Option Message) (Q : Effect V → Type 0) where
  -- what each of the ways has
  pub record Ways (place : Place) : Type 0 where
    pub nothing : (shown : List Line) → Each IsIdle shown → Each IsStill shown → Q (leaving state shown)
    pub later : (ticks : ℕ) → Q (leaving (record state { clock = state.clock + ticks }) [])
    pub gone : (a : ℕ) (seat : Seat V) (request : RequestNo) → slice_get state.seats a ≡ Some seat
        → Q (leaving (with_seat state a seat) (lines.Gone request ∷ []))
    pub missed : (a : ℕ) (seat : Seat V) (oldest : Reply V) (rest : List (Reply V)) → slice_get state.seats a ≡ Some seat
        → seat.replied ≡ oldest ∷ rest → is_there seat.agent oldest.number ≡ false
        → Q (leaving (with_seat state a (record seat { replied = rest })) (lines.Gone oldest.number ∷ []))
    pub own : (a : ℕ) (seat : Seat V) (x : At_agent) → slice_get state.seats a ≡ Some seat → place ≡ Agent_has a x
        → is_up seat.agent.life ≡ has_up {V = V} (own_input x)
        → Q (comes s vs state a given [] (own_input x) seat)
    pub hears : (c : ℕ) (request : RequestNo) (answer : CloudAnswer) (seat : Seat V) → slice_get state.seats request.agent ≡ Some seat
        → place ≡ Cloud_has c Answer_given → message ≡ Some (Of_answer request answer) → is_there seat.agent request ≡ true
        → Q (comes s vs state request.agent given (lines.Gave c request (sum_of s answer) ∷ []) (Hears c request answer) seat)
    pub told : (a : ℕ) (seat : Seat V) (oldest : Reply V) (rest : List (Reply V)) → slice_get state.seats a ≡ Some seat → seat.replied ≡ oldest ∷ rest
        → is_there seat.agent oldest.number ≡ true
        → Q (comes s vs state a given [] (Tells oldest.number oldest.outcome) (record seat { replied = rest }))
    pub serve : (a : ℕ) (seat : Seat V) (oldest : Request V) (rest : List (Request V)) → slice_get state.seats a ≡ Some seat
        → seat.asked ≡ oldest ∷ rest → place ≡ Space_has a Step_served
        → Q (serves s vs state a seat (oldest ∷ rest))
    pub postpone : (a : ℕ) (seat : Seat V) (oldest : Request V) (rest : List (Request V)) → slice_get state.seats a ≡ Some seat
        → seat.asked ≡ oldest ∷ rest
        → Q (postpones state a seat (oldest ∷ rest))

  of_seat : (o : Option (Seat V)) (x : Effect V) (on : Seat V → Effect V) → Q x → ((y : Seat V) → o ≡ Some y → Q (on y)) → Q (if_some o x on)
  of_seat None x on h each = h
  of_seat (Some y) x on h each = each y refl

  either : (b : Bool) (x y : Effect V) → (b ≡ true → Q x) → (b ≡ false → Q y) → Q (cond b x y)
  either true x y h k = h refl
  either false x y h k = k refl

  not_down : (b : Bool) → not b ≡ true → b ≡ false
  not_down true h = cc
  not_down false h = refl

  of_agent : (a : ℕ) (x : At_agent) (seat : Seat V) → Ways (Agent_has a x) → slice_get state.seats a ≡ Some seat
      → Q (at_agent s vs state given a x seat)
  of_agent a (Call_comes call) seat ways found =
      either (is_up seat.agent.life) _ _ (ways.own a seat (Call_comes call) found refl) (λ down. ways.nothing _ (tt, tt) (tt, tt))
  of_agent a Turn_comes seat ways found =
      either (is_up seat.agent.life) _ _ (ways.own a seat Turn_comes found refl) (λ down. ways.nothing _ (tt, tt) (tt, tt))
  of_agent a Crash_comes seat ways found =
      either (is_up seat.agent.life) _ _ (ways.own a seat Crash_comes found refl) (λ down. ways.nothing _ (tt, tt) (tt, tt))
  of_agent a Start_comes seat ways found =
      either (not (is_up seat.agent.life)) _ _ (λ down. ways.own a seat Start_comes found refl (not_down (is_up seat.agent.life) down))
      (λ up. ways.nothing _ (tt, tt) (tt, tt))

  of_serves : (a : ℕ) (seat : Seat V) (asked : List (Request V)) → Ways (Space_has a Step_served) → slice_get state.seats a ≡ Some seat
      → seat.asked ≡ asked → Q (serves s vs state a seat asked)
  of_serves a seat [] ways found e = ways.nothing _ (tt, tt) (tt, tt)
  of_serves a seat (oldest ∷ rest) ways found e = ways.serve a seat oldest rest found e refl

  of_postpones : (a : ℕ) (seat : Seat V) (asked : List (Request V)) → Ways (Space_has a Step_postponed) → slice_get state.seats a ≡ Some seat
      → seat.asked ≡ asked → Q (postpones state a seat asked)
  of_postpones a seat [] ways found e = ways.nothing _ (tt, tt) (tt, tt)
  of_postpones a seat (oldest ∷ rest) ways found e = ways.postpone a seat oldest rest found e

  of_tells : (a : ℕ) (seat : Seat V) (replied : List (Reply V)) → Ways (Space_has a Reply_told) → slice_get state.seats a ≡ Some seat
      → seat.replied ≡ replied → Q (tells s vs state a given seat replied)
  of_tells a seat [] ways found e = ways.nothing _ (tt, tt) (tt, tt)
  of_tells a seat (oldest ∷ rest) ways found e =
      either (is_there seat.agent oldest.number) _ _ (ways.told a seat oldest rest found e) (ways.missed a seat oldest rest found e)

  of_space : (a : ℕ) (x : At_space) (seat : Seat V) → Ways (Space_has a x) → slice_get state.seats a ≡ Some seat
      → Q (at_space s vs state given a x seat)
  of_space a Step_served seat ways found = of_serves a seat seat.asked ways found refl
  of_space a Step_postponed seat ways found = of_postpones a seat seat.asked ways found refl
  of_space a Reply_told seat ways found = of_tells a seat seat.replied ways found refl

  of_answers : (c : ℕ) (m : Option Message) → Ways (Cloud_has c Request_answered) → Q (answers_by s state c m)
  of_answers c None ways = ways.nothing _ (tt, tt) (tt, tt)
  of_answers c (Some (Of_request request)) ways = ways.nothing _ tt tt
  of_answers c (Some (Of_answer request answer)) ways = ways.nothing _ (tt, tt) (tt, tt)

  of_gives : (c : ℕ) (m : Option Message) → message ≡ m → Ways (Cloud_has c Answer_given) → Q (gives s vs state given c m)
  of_gives c None e ways = ways.nothing _ (tt, tt) (tt, tt)
  of_gives c (Some (Of_request request)) e ways = ways.nothing _ tt tt
  of_gives c (Some (Of_answer request answer)) e ways =
      of_seat (slice_get state.seats request.agent) _ _ (ways.nothing _ tt tt) (λ seat found.
      either (is_there seat.agent request) _ _ (ways.hears c request answer seat found refl e) (λ away. ways.gone request.agent seat request found))

  of_moves : (c : ℕ) (m : Option Message) → Ways (Cloud_has c Message_moved) → Q (moves state m)
  of_moves c None ways = ways.nothing _ (tt, tt) (tt, tt)
  of_moves c (Some m) ways = ways.nothing _ tt tt

  -- an event goes one of these ways
  pub of_event : (place : Place) → Ways place → Q (at_place s vs state message given place)
  of_event (Agent_has a x) ways = of_seat (slice_get state.seats a) _ _ (ways.nothing _ tt tt) (λ seat found. of_agent a x seat ways found)
  of_event (Space_has a x) ways = of_seat (slice_get state.seats a) _ _ (ways.nothing _ tt tt) (λ seat found. of_space a x seat ways found)
  of_event (Cloud_has c Request_answered) ways = of_answers c message ways
  of_event (Cloud_has c Answer_given) ways = of_gives c message refl ways
  of_event (Cloud_has c Message_moved) ways = of_moves c message ways
  of_event (Clock_has ticks) ways = ways.later ticks

-- what steps keep of the tree, each event keeps, and holds of the first tree, holds after each history
module _ {V : Type 0} (s : Setup) (vs : Versions V) (T : Tree V → Type 0)
    (each : (tree : Tree V) (now lease : ℕ) (request : RequestNo) (step : Step V) → T tree → T
    (served vs (live now tree) now lease request step).tree) where
  pub tree_always : T empty_tree → (past : History) → T (state_after s vs past).tree
  tree_always first [] = first
  tree_always first (e ∷ past) =
      let state : State V = state_after s vs past in
      let before : T state.tree = tree_always first past in
      of_event s vs state (given_of state.clock e) e.message (λ x. T x.state.tree) (place_of e.event)
      (record {
        nothing = λ shown idle still. before;
        later = λ ticks. before;
        gone = λ a seat request found. before;
        missed = λ a seat oldest rest found is away. before;
        own = λ a seat x found is up. before;
        hears = λ c request answer seat found is about there. before;
        told = λ a seat oldest rest found is there. before;
        serve = λ a seat oldest rest found is at. each state.tree state.clock s.header.lease oldest.number oldest.step before;
        postpone = λ a seat oldest rest found is. before;
      })

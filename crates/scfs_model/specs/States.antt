use Rattle.std.specs.Prelude.{ℕ, ◌+◌, Bool, not, ◌&&◌, ◌==◌, if◌then◌else◌, List, [], ◌∷◌, ◌++◌, length, map, replicate, Option, Some, None, slice_get, slice_set}
use Rattle.scfs_base.specs.declared.naming.RequestNo.{RequestNo}
use Rattle.scfs_base.specs.declared.cloud.CloudAnswer.{CloudAnswer}
use Rattle.scfs_base.specs.declared.cloud.CloudAnswer.TheVariants as answers
use Rattle.scfs_base.specs.declared.cloud.CloudRequest.{CloudRequest}
use Rattle.scfs_base.specs.declared.cloud.CloudRequest.TheVariants as requests
use Rattle.scfs_policy.specs.declared.rank.RankFacts.{RankFacts}
use Rattle.scfs_schedule.specs.declared.types.Event.{Event}
use Rattle.scfs_schedule.specs.declared.types.Line.{Line}
use Rattle.scfs_schedule.specs.declared.types.Line.TheVariants as lines
use Rattle.scfs_schedule.specs.declared.types.Sum.{Sum}
use Rattle.scfs_schedule.specs.declared.types.Sum.TheVariants as sums
use Rattle.scfs_model.specs.Lists.{if_some, moved_back}
use Rattle.scfs_model.specs.Format.{Setup}
use Rattle.scfs_model.specs.History.{Message, Of_request, Of_answer}
use Rattle.scfs_model.specs.Versions.{Versions}
use Rattle.scfs_model.specs.Given.{Given}
use Rattle.scfs_model.specs.Tree.{Tree, empty_tree, live}
use Rattle.scfs_model.specs.Steps.{Outcome, served, served_line}
use Rattle.scfs_model.specs.Sayings.{said_by}
use Rattle.scfs_model.specs.Lives.{is_up}
use Rattle.scfs_model.specs.Agents.{Request, Agent, first_agent, Input, Calls, Tells, Hears, Turns, Crashes, Starts, Sent, Reaction}
use Rattle.scfs_model.specs.Reactions.{reacted}
use Rattle.scfs_model.specs.Events.{At_agent, Call_comes, Turn_comes, Crash_comes, Start_comes, At_space, Step_served, Step_postponed, Reply_told, At_cloud, Request_answered, Answer_given, Message_moved, Place, Agent_has, Space_has, Cloud_has, Clock_has, place_of}

-- a step that the space served, with what it came to
pub record Reply (V : Type 0) : Type 0 where
  pub number : RequestNo
  pub outcome : Outcome V

-- an agent, and what stands between it and the space, the oldest first: steps that are not served, replies that are not told
pub record Seat (V : Type 0) : Type 0 where
  pub agent : Agent V
  pub asked : List (Request V)
  pub replied : List (Reply V)

-- the clock, the shared tree, and the agents by number
pub record State (V : Type 0) : Type 0 where
  pub clock : ℕ
  pub tree : Tree V
  pub seats : List (Seat V)

-- at first the tree is empty, and no agent has asked anything
abbrev pub first_seat : {V : Type 0} → Setup → Seat V
first_seat s = record { agent = first_agent s; asked = []; replied = [] }

abbrev pub first_state : {V : Type 0} → Setup → State V
first_state s = record { clock = 0; tree = empty_tree; seats = replicate (length s.header.agents) (first_seat s) }

-- what an event does: how all is afterwards, its lines, and what agents asked of clouds and of the caller's rank rule in it
pub record Effect (V : Type 0) : Type 0 where
  pub state : State V
  pub lines : List Line
  pub sent : List Sent
  pub ranked : List RankFacts

-- what a line says of an answer
abbrev pub sum_of : Setup → CloudAnswer → Sum
sum_of s answers.Ack = sums.Ack
sum_of s answers.Absent = sums.Absent
sum_of s (answers.Bytes bytes) = sums.Bytes (length bytes) (s.format.digest bytes)
sum_of s (answers.Names names) = sums.Names (length names)
sum_of s answers.Fail = sums.Fail

-- the line of a request to a cloud
abbrev pub request_line : Setup → (number : RequestNo) → (c : ℕ) → CloudRequest → Line
request_line s number c (requests.Put name body) = lines.Put number c name (length body) (s.format.digest body)
request_line s number c (requests.Get name limit) = lines.Get number c name
request_line s number c (requests.Delete name) = lines.Del number c name
request_line s number c (requests.List prefix) = lines.Ls number c prefix

module _ {V : Type 0} where
  -- an event that leaves this, and asks nothing
  abbrev pub leaving : State V → List Line → Effect V
  leaving state shown = record { state = state; lines = shown; sent = []; ranked = [] }

  abbrev pub skips : State V → Effect V
  skips state = leaving state (lines.Skip ∷ [])

  -- seat a is like this now
  abbrev pub with_seat : State V → (a : ℕ) → Seat V → State V
  with_seat state a seat = record state { seats = slice_set state.seats a seat }

  -- on at seat a
  abbrev pub at_seat : State V → (a : ℕ) → (Seat V → Effect V) → Effect V
  at_seat state a on = if_some (slice_get state.seats a) (leaving state []) on

  -- whether an agent is told the reply to a request: it is up, in the incarnation that asked
  abbrev pub is_there : Agent V → RequestNo → Bool
  is_there agent request = is_up agent.life && (agent.incarnation == request.incarnation)

  -- the oldest step at the seat goes to the back
  abbrev pub postpones : State V → (a : ℕ) → Seat V → List (Request V) → Effect V
  postpones state a seat [] = skips state
  postpones state a seat (oldest ∷ rest) = leaving (with_seat state a (record seat { asked = moved_back seat.asked })) []

  -- a message of a cloud is lost, moved or repeated
  abbrev pub moves : State V → Option Message → Effect V
  moves state None = skips state
  moves state (Some message) = leaving state []

module _ {V : Type 0} (s : Setup) where
  -- what agent a did: the steps that it asked wait at its seat, and its lines come after those of a cloud
  abbrev pub did : State V → (a : ℕ) → Seat V → List Line → Reaction V → Effect V
  did state a seat before r =
      record {
        state = with_seat state a (record seat { agent = r.agent; asked = seat.asked ++ r.steps });
        lines = before ++ map (said_by a) r.says ++ map (λ (x : Sent). request_line s x.number x.cloud x.body) r.sent;
        sent = r.sent;
        ranked = r.ranked;
      }

  -- a cloud answers its oldest request
  abbrev pub answers_by : State V → (c : ℕ) → Option Message → Effect V
  answers_by state c None = skips state
  answers_by state c (Some (Of_request request)) = leaving state []
  answers_by state c (Some (Of_answer request answer)) = leaving state (lines.Did c request (sum_of s answer) ∷ [])

module _ {V : Type 0} (s : Setup) (vs : Versions V) where
  -- an input comes to the agent at seat a
  abbrev pub comes : State V → (a : ℕ) → Given → List Line → Input V → Seat V → Effect V
  comes state a given before input seat = did s state a seat before (reacted s vs a seat.agent given input)

  -- where the agent at seat a can have it, an input comes to it
  abbrev pub comes_if : Bool → State V → (a : ℕ) → Given → Input V → Seat V → Effect V
  comes_if can state a given input seat = if can then comes state a given [] input seat else skips state

  -- a reply to a request comes to the agent at seat a, or it is gone
  abbrev pub comes_back : State V → (a : ℕ) → Given → RequestNo → List Line → Input V → Seat V → Effect V
  comes_back state a given request before input seat =
      if is_there seat.agent request then comes state a given before input seat else leaving (with_seat state a seat) (lines.Gone request ∷ [])

  -- the space serves the oldest step at seat a
  abbrev pub serves : State V → (a : ℕ) → Seat V → List (Request V) → Effect V
  serves state a seat [] = skips state
  serves state a seat (oldest ∷ rest) =
      let x = served vs (live state.clock state.tree) state.clock s.header.lease oldest.number oldest.step in
      leaving
      (with_seat (record state { tree = x.tree }) a
      (record seat { asked = rest; replied = seat.replied ++ (record { number = oldest.number; outcome = x.outcome }) ∷ [] }))
      (served_line vs oldest.number x.outcome ∷ [])

  -- the agent at seat a is told the oldest reply
  abbrev pub tells : State V → (a : ℕ) → Given → Seat V → List (Reply V) → Effect V
  tells state a given seat [] = skips state
  tells state a given seat (oldest ∷ rest) =
      comes_back state a given oldest.number [] (Tells oldest.number oldest.outcome) (record seat { replied = rest })

  -- the agent that asked is given a cloud's oldest answer
  abbrev pub gives : State V → Given → (c : ℕ) → Option Message → Effect V
  gives state given c None = skips state
  gives state given c (Some (Of_request request)) = leaving state []
  gives state given c (Some (Of_answer request answer)) =
      at_seat state request.agent
      (comes_back state request.agent given request (lines.Gave c request (sum_of s answer) ∷ []) (Hears c request answer))

  abbrev pub at_agent : State V → Given → (a : ℕ) → At_agent → Seat V → Effect V
  at_agent state given a (Call_comes call) seat = comes_if (is_up seat.agent.life) state a given (Calls call) seat
  at_agent state given a Turn_comes seat = comes_if (is_up seat.agent.life) state a given Turns seat
  at_agent state given a Crash_comes seat = comes_if (is_up seat.agent.life) state a given Crashes seat
  at_agent state given a Start_comes seat = comes_if (not (is_up seat.agent.life)) state a given Starts seat

  abbrev pub at_space : State V → Given → (a : ℕ) → At_space → Seat V → Effect V
  at_space state given a Step_served seat = serves state a seat seat.asked
  at_space state given a Step_postponed seat = postpones state a seat seat.asked
  at_space state given a Reply_told seat = tells state a given seat seat.replied

  abbrev pub at_cloud : State V → (message : Option Message) → Given → (c : ℕ) → At_cloud → Effect V
  at_cloud state message given c Request_answered = answers_by s state c message
  at_cloud state message given c Answer_given = gives state given c message
  at_cloud state message given c Message_moved = moves state message

  abbrev pub at_place : State V → (message : Option Message) → Given → Place → Effect V
  at_place state message given (Agent_has a x) = at_seat state a (at_agent state given a x)
  at_place state message given (Space_has a x) = at_seat state a (at_space state given a x)
  at_place state message given (Cloud_has c x) = at_cloud state message given c x
  at_place state message given (Clock_has ticks) = leaving (record state { clock = state.clock + ticks }) []

  -- what an event does, where the cloud's message is this and it is given this
  abbrev pub effect : State V → Event → (message : Option Message) → Given → Effect V
  effect state event message given = at_place state message given (place_of event)

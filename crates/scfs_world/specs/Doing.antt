use Rattle.std.specs.Prelude.{◌≡◌, ◌+◌, ◌<◌, ◌≤◌, ℕ, Bool, true, false, not, List, [], ◌∷◌, ◌++◌, fold, All, Result, Ok, Err}
use Rattle.std.specs.List.{flat_map}
use Rattle.scfs_base.specs.Limits.{carried_limit}
use Rattle.scfs_base.specs.declared.naming.RequestNo.{RequestNo}
use Rattle.scfs_policy.specs.declared.rank.RankFacts.{RankFacts}
use Rattle.scfs_schedule.specs.declared.types.Event.{Event}
use Rattle.scfs_schedule.specs.declared.types.Event.TheVariants as events
use Rattle.scfs_schedule.specs.declared.types.Header.{Header}
use Rattle.scfs_schedule.specs.declared.types.Line.{Line}
use Rattle.scfs_schedule.specs.declared.types.Line.TheVariants as lines
use Rattle.scfs_tuples.specs.After.{reply_of, left_after}
use Rattle.scfs_tuples.specs.declared.types.Tuple.{Tuple}
use Rattle.scfs_net.specs.Queues.{NetState, net_asked}
use Rattle.scfs_model.specs.Format.{Setup}
use Rattle.scfs_model.specs.Lives.{Life, is_up}
use Rattle.scfs_model.specs.States.{is_there, request_line}
use Rattle.scfs_model.specs.UnitFormat.{under}
use Rattle.scfs_agent.specs.Keeping.{FitsOutput}
use Rattle.scfs_agent.specs.Reacting.{FitsInput, Reacts}
use Rattle.scfs_agent.specs.State.{AgentState}
use Rattle.scfs_agent.specs.declared.types.Input.{Input}
use Rattle.scfs_agent.specs.declared.types.Input.TheVariants as inputs
use Rattle.scfs_agent.specs.declared.types.Output.{Output}
use Rattle.scfs_agent.specs.declared.types.Output.TheVariants as outputs
use Rattle.scfs_world.specs.State.{SeatState}
use Rattle.scfs_world.specs.Showing.{line_of}
use Rattle.scfs_world.specs.declared.fault.StepFault.{StepFault}
use Rattle.scfs_world.specs.declared.fault.StepFault.TheVariants as faults
use Rattle.scfs_world.specs.declared.seat.StepAsked.{StepAsked}
use Rattle.scfs_world.specs.declared.seat.StepReply.{StepReply}

-- What is done with an agent's outputs.

-- its steps wait at its seat
abbrev pub step_out : Output → List StepAsked
step_out (outputs.Space request step) = (record { request = request; step = step }) ∷ []
step_out (outputs.Cloud c request body) = []
step_out (outputs.Line line) = []

abbrev pub steps_out : List Output → List StepAsked
steps_out given = flat_map step_out given

-- an answer is a line, and each request to a cloud has one
abbrev pub line_out : Setup → Output → List Line
line_out s (outputs.Space request step) = []
line_out s (outputs.Cloud c request body) = request_line s request c body ∷ []
line_out s (outputs.Line line) = line ∷ []

abbrev pub lines_out : Setup → List Output → List Line
lines_out s given = flat_map (line_out s) given

-- its requests to clouds wait there
abbrev pub net_by : NetState → Output → NetState
net_by net (outputs.Space request step) = net
net_by net (outputs.Cloud c request body) = net_asked net c request body
net_by net (outputs.Line line) = net

abbrev pub net_with : NetState → List Output → NetState
net_with net given = fold net_by net given

-- a request is of a cloud that is there
abbrev pub AsksAmong : (clouds : ℕ) → Output → Type 0
AsksAmong clouds (outputs.Space request step) = Unit {0}
AsksAmong clouds (outputs.Cloud c request body) = c < clouds
AsksAmong clouds (outputs.Line line) = Unit {0}

-- an agent was given an input: how it was and is, and what it put out
pub record IsGiven (allows : RankFacts → ℕ → Type 0) (now : ℕ) (input : Input) (was is : AgentState) (given : List Output) : Type 0 where
  pub reacts : Reacts allows now was.header was.no was.agent is.agent given input
  pub fits : All (FitsOutput was.header.f) given
  pub header : is.header ≡ was.header
  pub no : is.no ≡ was.no
  pub inputs : is.inputs ≡ was.inputs + 1

-- and what it put out was done; the lines stand behind these
pub record IsDone (allows : RankFacts → ℕ → Type 0) (now : ℕ) (input : Input) (before : List Line) (old new : SeatState) (net after : NetState)
    (shown : List Line) : Type 0 where
  pub given : List Output
  pub it : IsGiven allows now input old.agent new.agent given
  pub asked : new.asked ≡ old.asked ++ steps_out given
  pub replied : new.replied ≡ old.replied
  pub sent : after ≡ net_with net given
  pub lines : (header : Header) → shown ≡ before ++ lines_out (under header) given
  pub carried : after.carried ≤ carried_limit

-- or would carry too many bytes
pub record IsTooMuch (allows : RankFacts → ℕ → Type 0) (now : ℕ) (input : Input) (old : SeatState) (net : NetState) : Type 0 where
  pub is : AgentState
  pub given : List Output
  pub it : IsGiven allows now input old.agent is given
  pub more : carried_limit < (net_with net given).carried

-- the numbers of the oldest reply that waits fit
abbrev pub FitsOldest : AgentState → List StepReply → Type 0
FitsOldest a [] = Unit {0}
FitsOldest a (oldest ∷ rest) = FitsInput a.header a.agent (inputs.Space oldest.request oldest.reply)

-- what an event brings to an agent
abbrev pub input_of : Event → Input
input_of (events.Call a call) = inputs.Call call
input_of (events.Crash a) = inputs.Crash
input_of (events.Start a) = inputs.Start
input_of other = inputs.Turn

-- whether an agent can have it
abbrev pub can_come : Event → Life → Bool
can_come (events.Start a) life = not (is_up life)
can_come other life = is_up life

-- nothing was done but that a line says so
abbrev pub Says : (old new : SeatState) → (net after : NetState) → Line → Result (List Line) StepFault → Type 0
Says old new net after line (Ok shown) = (new ≡ old) × (after ≡ net) × (shown ≡ line ∷ [])
Says old new net after line (Err faults.TooLarge) = ⊥
Says old new net after line (Err faults.Memory) = Unit {0}

module _ (allows : RankFacts → ℕ → Type 0) (now : ℕ) (old new : SeatState) (net after : NetState) where
  -- an input came to the agent, with its lines behind these
  abbrev pub Comes : Input → (before : List Line) → Result (List Line) StepFault → Type 0
  Comes input before (Ok shown) = IsDone allows now input before old new net after shown
  Comes input before (Err faults.TooLarge) = IsTooMuch allows now input old net
  Comes input before (Err faults.Memory) = Unit {0}

  -- it came if the agent could have it; otherwise a line says so
  abbrev pub ComesIf : Bool → Input → (before : List Line) → (other : Line) → Result (List Line) StepFault → Type 0
  ComesIf true input before other result = Comes input before result
  ComesIf false input before other result = Says old new net after other result

  -- what an event brings
  abbrev pub Brings : Event → Result (List Line) StepFault → Type 0
  Brings event result = ComesIf (can_come event old.agent.agent.life) (input_of event) [] lines.Skip result

  -- the reply to a request; it is gone where the agent is not there any more
  abbrev pub ComesBack : RequestNo → Input → (before : List Line) → Result (List Line) StepFault → Type 0
  ComesBack request input before result = ComesIf (is_there old.agent.agent request) input before (lines.Gone request) result

-- the agent was told the oldest of these replies, or there is none
abbrev pub TellsOldest : (allows : RankFacts → ℕ → Type 0) → (now : ℕ) → (old new : SeatState) → (net after : NetState) → List StepReply
    → Result (List Line) StepFault → Type 0
TellsOldest allows now old new net after [] result = Says old new net after lines.Skip result
TellsOldest allows now old new net after (oldest ∷ rest) result =
    ComesBack allows now (record old { replied = rest }) new net after oldest.request (inputs.Space oldest.request oldest.reply) [] result

-- the space served the oldest of these steps, or there is none
abbrev pub ServesOldest : (now : ℕ) → (old new : SeatState) → (space after : List Tuple) → List Line → List StepAsked → Type 0
ServesOldest now old new space after shown [] = (new ≡ old) × (after ≡ space) × (shown ≡ lines.Skip ∷ [])
ServesOldest now old new space after shown (oldest ∷ rest) =
    let reply = reply_of space now oldest.step in
    (new ≡ record old { asked = rest; replied = old.replied ++ (record { request = oldest.request; reply = reply }) ∷ [] })
    × (after ≡ left_after space now oldest.step) × (shown ≡ line_of oldest.request oldest.step reply ∷ [])

-- the oldest of these steps went to the back, or there is none
abbrev pub PostponesOldest : (old new : SeatState) → List Line → List StepAsked → Type 0
PostponesOldest old new shown [] = (new ≡ old) × (shown ≡ lines.Skip ∷ [])
PostponesOldest old new shown (oldest ∷ rest) = (new ≡ record old { asked = rest ++ oldest ∷ [] }) × (shown ≡ [])

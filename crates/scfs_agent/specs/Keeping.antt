use Rattle.std.specs.Prelude.{◌≡◌, ◌≢◌, ◌<◌, ◌≤◌, ℕ, ◌+◌, ◌*◌, List, [], ◌∷◌, length, map, cond, Bool, true, false, ◌||◌, ◌==◌, Option, Some, None}
use Rattle.std.specs.List.{All, list_any}
use Rattle.scfs_base.specs.Limits.{contents_limit}
use Rattle.scfs_lease.specs.declared.leases.Lease.{Lease}
use Rattle.scfs_policy.specs.declared.rank.RankFacts.{RankFacts}
use Rattle.scfs_schedule.specs.Grammar.{IsHeader}
use Rattle.scfs_schedule.specs.declared.types.Header.{Header}
use Rattle.scfs_session.specs.declared.sessions.Session.{Session}
use Rattle.scfs_session.specs.Open.{OpenSessions}
use Rattle.scfs_tuples.specs.Steps.{IsStep}
use Rattle.scfs_unit.specs.declared.pieces.KeptPiece.{KeptPiece}
use Rattle.scfs_quorum_read.specs.Tracking.{IsOrder}
use Rattle.scfs_quorum_read.specs.declared.steps.ReadStep.{ReadStep}
use Rattle.scfs_quorum_read.specs.declared.steps.ReadStep.TheVariants as read_steps
use Rattle.scfs_quorum_write.specs.Acks.{count_of}
use Rattle.scfs_anchor.specs.declared.seen.VersionRow.{VersionRow}
use Rattle.scfs_model.specs.Lists.{below}
use Rattle.scfs_model.specs.Asked as requests
use Rattle.scfs_model.specs.Layers.{Row}
use Rattle.scfs_model.specs.Lives.{Ready}
use Rattle.scfs_model.specs.SessionSteps.{Open_read, Open_write, Commit}
use Rattle.scfs_model.specs.Steps.{Step, On_names, On_locks, On_sessions}
use Rattle.scfs_model.specs.Agents as machine
use Rattle.scfs_model.specs.Agents.{Waiting, For_step, For_clouds, For_close, Closed, Request}
use Rattle.scfs_agent.specs.State.{AgentState}
use Rattle.scfs_agent.specs.Settled.{OneBegun}
use Rattle.scfs_agent.specs.Views.{asked_of, acked_of, turns_left, row_of, waiting_of, request_of}
use Rattle.scfs_agent.specs.Asking.{MayClose}
use Rattle.scfs_agent.specs.declared.types.Output.{Output}
use Rattle.scfs_agent.specs.declared.types.Output.TheVariants as outputs
use Rattle.scfs_agent.specs.declared.work.Asking.{Asking}
use Rattle.scfs_agent.specs.declared.work.Asking.TheVariants as askings
use Rattle.scfs_agent.specs.declared.work.Fetch.{Fetch}
use Rattle.scfs_agent.specs.declared.work.Pending.{Pending}
use Rattle.scfs_agent.specs.declared.work.Upload.{Upload}
use Rattle.scfs_agent.specs.declared.work.Work.{Work}
use Rattle.scfs_agent.specs.declared.work.Work.TheVariants as works

-- What holds of every agent.

-- a version that is read: its numbers fit
pub record IsRow (row : VersionRow) : Type 0 where
  pub short : row.length ≤ contents_limit
  pub last : row.number ≤ 1000000

-- the clouds of the Gets, and these, are those that the tracker asked
abbrev pub AreAsked : List requests.Asked → (more asked : List ℕ) → Type 0
AreAsked gets more asked =
    (c : ℕ) → (list_any (λ (x : requests.Asked). x.cloud == c) gets || list_any (λ other. other == c) more) ≡ list_any (λ other. other == c) asked

-- clouds that were asked are of the order
abbrev pub AreOf : (order asked : List ℕ) → Type 0
AreOf order asked = (c : ℕ) → list_any (λ other. other == c) asked ≡ true → list_any (λ other. other == c) order ≡ true

-- a cloud with a good piece was asked
abbrev pub WereAsked : List KeptPiece → (asked : List ℕ) → Type 0
WereAsked pieces asked = (c : ℕ) → list_any (λ (p : KeptPiece). p.cloud == c) pieces ≡ true → list_any (λ other. other == c) asked ≡ true

-- an open that reads the clouds, once Gets of these clouds are asked: its reading is not at its end
pub record IsFetchAsking (f : ℕ) (fetch : Fetch) (more : List ℕ) : Type 0 where
  pub reading : fetch.tracker.reading.f ≡ f
  pub clouds : IsOrder f fetch.tracker.reading.order
  pub size : fetch.tracker.reading.size ≡ fetch.row.length
  pub row : IsRow fetch.row
  pub few : length fetch.tracker.pieces ≤ f
  pub sized : All (λ (p : KeptPiece). p.length ≡ fetch.tracker.reading.size) fetch.tracker.pieces
  pub first : 1 ≤ turns_left fetch.tracker.left
  pub last : turns_left fetch.tracker.left ≤ 8
  pub asked : AreAsked (asked_of fetch.gets) more fetch.tracker.asked
  pub within : AreOf fetch.tracker.reading.order fetch.tracker.asked
  pub good : WereAsked fetch.tracker.pieces fetch.tracker.asked

abbrev pub IsFetch : (f : ℕ) → Fetch → Type 0
IsFetch f fetch = IsFetchAsking f fetch []

-- an upload: it has one part, and at most one turn an input; its version is one that the agent may ask to be completed
pub record IsUpload (a incarnation f inputs : ℕ) (upload : Upload) : Type 0 where
  pub acks : upload.acks.f ≡ f
  pub part : length upload.acks.parts ≡ 1
  pub counted : count_of upload.acks ≡ length (acked_of upload.acks)
  pub turns : upload.turns ≤ inputs
  pub closes : MayClose a incarnation (row_of upload.row)

abbrev pub IsWork : (a incarnation f inputs : ℕ) → Work → Type 0
IsWork a incarnation f inputs works.Down = Unit {0}
IsWork a incarnation f inputs works.Starting = Unit {0}
IsWork a incarnation f inputs works.Idle = Unit {0}
IsWork a incarnation f inputs works.Step = Unit {0}
IsWork a incarnation f inputs (works.Fetch fetch) = IsFetch f fetch
IsWork a incarnation f inputs (works.Upload upload) = IsUpload a incarnation f inputs upload

-- no session is of a version above this
abbrev pub HaveBases : OpenSessions → Type 0
HaveBases sessions = All (λ (x : ℕ × Session). x.1.base ≤ 1000000) sessions

-- the tallies are of all clouds by number, and count at most one answer an input
pub record AreTallies (f inputs : ℕ) (tallies : List RankFacts) : Type 0 where
  pub clouds : map (λ (x : RankFacts). x.cloud) tallies ≡ below (3 * f + 1)
  pub few : All (λ (x : RankFacts). (x.good ≤ inputs) × (x.bad ≤ inputs)) tallies

-- whether a call waits for a step
abbrev pub is_call : Step Row → Bool
is_call (On_names x) = true
is_call (On_locks x) = false
is_call (On_sessions (Open_read names session)) = true
is_call (On_sessions (Open_write names session)) = true
is_call (On_sessions (Commit session v)) = false

-- how many of these steps are such, and for how many a call may wait
abbrev pub calls_in : List (Request Row) → ℕ
calls_in [] = 0
calls_in (x ∷ rest) = cond (is_call x.step) 1 0 + calls_in rest

abbrev pub calls_of : Option (Waiting Row) → ℕ
calls_of None = 0
calls_of (Some For_step) = 1
calls_of (Some (For_clouds o)) = 0
calls_of (Some For_close) = 0

-- a step can be asked: its path is below the root, but for a look; a session that opens has a number above 0; a version is not the first
-- state of a file
abbrev pub FitsAsking : Asking → Type 0
FitsAsking (askings.Make path id) = path ≢ []
FitsAsking (askings.Look path) = Unit {0}
FitsAsking (askings.OpenRead path session) = (path ≢ []) × (1 ≤ session)
FitsAsking (askings.OpenWrite path session) = (path ≢ []) × (1 ≤ session)
FitsAsking (askings.Commit session row) = 1 ≤ row.number
FitsAsking (askings.Unlock id session) = Unit {0}
FitsAsking askings.UnlockAll = Unit {0}
FitsAsking (askings.Renew id session) = Unit {0}

-- the sessions with a lock have numbers above 0, and are at most so many
pub record AreLeases (most : ℕ) (leases : List Lease) : Type 0 where
  pub few : length leases ≤ most
  pub numbered : All (λ (l : Lease). 1 ≤ l.session) leases

-- its numbers are in their ranges, and each input has it draw at most 2,000,000 requests and one incarnation, session, file, upload and
-- lock; the step of its unanswered call is the only one for which a call waits
pub record IsKept (header : Header) (no incarnation inputs requests opens files uploads : ℕ) (work : Work) (sessions : OpenSessions)
    (leases : List Lease) (tallies : List RankFacts) (pending : List Pending) : Type 0 where
  pub is_header : IsHeader header
  pub member : no < length header.agents
  pub counted : inputs ≤ 1000000
  pub started : incarnation ≤ inputs
  pub drawn : requests ≤ 2000000 * inputs
  pub opened : opens ≤ inputs
  pub made : files ≤ inputs
  pub begun : uploads ≤ inputs
  pub working : IsWork no incarnation header.f inputs work
  pub bases : HaveBases sessions
  pub leased : AreLeases inputs leases
  pub tallied : AreTallies header.f inputs tallies
  pub waits : calls_in (map request_of pending) ≤ calls_of (waiting_of work)
  pub fitting : All (λ (x : Pending). FitsAsking x.asking) pending

abbrev pub HaveRoom : (inputs : ℕ) → List RankFacts → Type 0
HaveRoom inputs tallies = All (λ (x : RankFacts). (x.good + 1 ≤ inputs) × (x.bad + 1 ≤ inputs)) tallies

abbrev pub HasTurns : (inputs : ℕ) → Option (machine.Upload Row) → Type 0
HasTurns inputs None = Unit {0}
HasTurns inputs (Some u) = u.storing.turns + 1 ≤ inputs

-- the turns of its upload may be one more
abbrev pub MayTurn : (inputs : ℕ) → List (Closed Row) → Type 0
MayTurn inputs [] = Unit {0}
MayTurn inputs (x ∷ rest) = HasTurns inputs x.upload

-- a few requests more may be drawn, once all locks could be renewed
abbrev pub MayDraw : AgentState → Type 0
MayDraw a = a.agent.requests + 32 ≤ 2000000 * a.inputs

-- an input was counted, for which requests, an incarnation, a session, a file, an upload and a lock may still be drawn
pub record HasRoom (a : AgentState) : Type 0 where
  pub requests : a.agent.requests + 2000000 ≤ 2000000 * a.inputs
  pub incarnation : a.agent.incarnation + 1 ≤ a.inputs
  pub opens : a.agent.opens + 1 ≤ a.inputs
  pub files : a.agent.files + 1 ≤ a.inputs
  pub uploads : a.agent.uploads + 1 ≤ a.inputs
  pub leases : length a.agent.leases + 1 ≤ a.inputs
  pub tallies : HaveRoom a.inputs a.agent.tallies
  pub turns : MayTurn a.inputs a.agent.closed
  pub closed : OneBegun a.agent.closed

-- it is ready, no session is being uploaded, and no call waits for a step
pub record IsFree (a : AgentState) : Type 0 where
  pub life : a.agent.life ≡ Ready
  pub closed : a.agent.closed ≡ []
  pub calls : calls_in a.agent.pending ≡ 0

-- no call is unanswered
pub record IsIdle (a : AgentState) : Type 0 where
  pub waiting : a.agent.waiting ≡ None
  pub free : IsFree a

-- what an answer brought can be done: a cloud that is asked is one of all, and contents fit a session
abbrev pub HasRead : (f : ℕ) → Fetch → ReadStep → Type 0
HasRead f fetch (read_steps.Ask cloud) = IsFetchAsking f fetch (cloud ∷ []) × (cloud < 3 * f + 1)
HasRead f fetch read_steps.Wait = IsFetch f fetch
HasRead f fetch (read_steps.Whole contents) = IsRow fetch.row × (length contents ≤ contents_limit)

-- a step that is asked is one that the space takes, and a cloud that is asked is one of the 3f + 1
abbrev pub FitsOutput : (f : ℕ) → Output → Type 0
FitsOutput f (outputs.Space request step) = IsStep step
FitsOutput f (outputs.Cloud c request body) = c < 3 * f + 1
FitsOutput f (outputs.Line line) = Unit {0}

-- what no input changes, but for their count
pub record Keeps (old new : AgentState) : Type 0 where
  pub header : new.header ≡ old.header
  pub no : new.no ≡ old.no
  pub inputs : new.inputs ≡ old.inputs

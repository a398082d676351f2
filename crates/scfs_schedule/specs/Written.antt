use Rattle.std.specs.Prelude.{◌≡◌, ℕ, ◌^◌, ◌<◌, ◌≤◌, List, [], ◌∷◌, ◌++◌, codes, Bool, true, length}
use Rattle.std.specs.List.{flat_map}
use Rattle.scfs_base.specs.Limits.{line_limit}
use Rattle.scfs_base.specs.Words.{AreBytes}
use Rattle.scfs_base.specs.declared.cloud.CloudAnswer.{CloudAnswer}
use Rattle.scfs_base.specs.declared.cloud.CloudAnswer.TheVariants as answers
use Rattle.scfs_schedule.specs.declared.types.Call.{Call}
use Rattle.scfs_schedule.specs.declared.types.Call.TheVariants as calls
use Rattle.scfs_schedule.specs.declared.types.Event.{Event}
use Rattle.scfs_schedule.specs.declared.types.Event.TheVariants as events
use Rattle.scfs_schedule.specs.declared.types.Header.{Header}
use Rattle.scfs_schedule.specs.declared.types.Mode.{Mode}
use Rattle.scfs_schedule.specs.Grammar.{IsEvent, IsScriptEvent}
use Rattle.scfs_schedule.specs.Text.{event_text, event_line, header_text}

-- the numbers of a call are below 2^64, its paths and contents are bytes, as its type says
abbrev pub IsCallInRange : Call → Type 0
IsCallInRange (calls.Mkdir p) = AreBytes p
IsCallInRange (calls.Rmdir p) = AreBytes p
IsCallInRange (calls.Create p) = AreBytes p
IsCallInRange (calls.Unlink p) = AreBytes p
IsCallInRange (calls.Stat p) = AreBytes p
IsCallInRange (calls.List p) = AreBytes p
IsCallInRange (calls.Rename p q) = AreBytes p × AreBytes q
IsCallInRange (calls.OpenR p) = AreBytes p
IsCallInRange (calls.OpenW p) = AreBytes p
IsCallInRange (calls.Openat p version) = AreBytes p × (version < 2 ^ 64)
IsCallInRange (calls.Read session offset count) = (session < 2 ^ 64) × (offset < 2 ^ 64) × (count < 2 ^ 64)
IsCallInRange (calls.Write session offset bytes) = (session < 2 ^ 64) × (offset < 2 ^ 64) × AreBytes bytes
IsCallInRange (calls.Truncate session length) = (session < 2 ^ 64) × (length < 2 ^ 64)
IsCallInRange (calls.Close session) = session < 2 ^ 64
IsCallInRange calls.Sync = Unit {0}
IsCallInRange (calls.Versions p) = AreBytes p
IsCallInRange (calls.Collect p) = AreBytes p
IsCallInRange calls.Purge = Unit {0}

-- each name is bytes
abbrev pub AreNames : List (List ℕ) → Type 0
AreNames [] = Unit {0}
AreNames (name ∷ names) = AreBytes name × AreNames names

abbrev pub IsAnswerInRange : CloudAnswer → Type 0
IsAnswerInRange answers.Ack = Unit {0}
IsAnswerInRange answers.Absent = Unit {0}
IsAnswerInRange answers.Fail = Unit {0}
IsAnswerInRange (answers.Bytes bytes) = AreBytes bytes
IsAnswerInRange (answers.Names names) = AreNames names

-- the same of an event
abbrev pub IsInRange : Event → Type 0
IsInRange (events.Call a call) = (a < 2 ^ 64) × IsCallInRange call
IsInRange (events.Say c answer) = (c < 2 ^ 64) × IsAnswerInRange answer
IsInRange (events.Tick n) = n < 2 ^ 64
IsInRange (events.Space a) = a < 2 ^ 64
IsInRange (events.Later a) = a < 2 ^ 64
IsInRange (events.Told a) = a < 2 ^ 64
IsInRange (events.Serve a) = a < 2 ^ 64
IsInRange (events.Hide a) = a < 2 ^ 64
IsInRange (events.Fail a) = a < 2 ^ 64
IsInRange (events.Give a) = a < 2 ^ 64
IsInRange (events.Lose a) = a < 2 ^ 64
IsInRange (events.Drop a) = a < 2 ^ 64
IsInRange (events.Defer a) = a < 2 ^ 64
IsInRange (events.Swap a) = a < 2 ^ 64
IsInRange (events.Again a) = a < 2 ^ 64
IsInRange (events.Twice a) = a < 2 ^ 64
IsInRange (events.Turn a) = a < 2 ^ 64
IsInRange (events.Crash a) = a < 2 ^ 64
IsInRange (events.Start a) = a < 2 ^ 64

-- an event that may stand under a header in a schedule, or in a script: its line is within the limit
pub record MayStand (script : Bool) (header : Header) (event : Event) : Type 0 where
  pub form : IsEvent header event
  pub range : IsInRange event
  pub short : length (event_text event) ≤ line_limit
  pub of_script : script ≡ true → IsScriptEvent event

-- each of them may
abbrev pub AllMayStand : Bool → Header → List Event → Type 0
AllMayStand script header [] = Unit {0}
AllMayStand script header (event ∷ events) = MayStand script header event × AllMayStand script header events

-- each agent's seed is 32 bytes, as its type says
abbrev pub AreAgents : List (Mode × List ℕ) → Type 0
AreAgents [] = Unit {0}
AreAgents (agent ∷ agents) = (length agent.1 ≡ 32) × AreBytes agent.1 × AreAgents agents

-- the text of a header and of events, with its last line
abbrev pub schedule_text : Header → List Event → List ℕ
schedule_text header events = header_text header ++ (flat_map event_line events ++ codes "end\n")

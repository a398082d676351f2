use Rattle.std.specs.Prelude.{◌≡◌, ◌≤◌, ℕ, List, [], ◌∷◌, ◌-◌, ◌+◌, length, find, Bool, true, false, ◌&&◌, not, ◌==◌, is_some, if◌then◌else◌, Option, Some, None, option_map, IfSome}
use Rattle.scfs_base.specs.declared.naming.RequestNo.{RequestNo}
use Rattle.scfs_schedule.specs.declared.types.How.TheVariants as hows
use Rattle.scfs_schedule.specs.declared.types.Kind.{Kind}
use Rattle.scfs_schedule.specs.declared.types.Kind.TheVariants as kinds
use Rattle.scfs_schedule.specs.declared.types.Line.{Line}
use Rattle.scfs_schedule.specs.declared.types.Line.TheVariants as lines
use Rattle.scfs_tuples.specs.declared.types.Field.{Field}
use Rattle.scfs_tuples.specs.declared.types.Reply.{Reply}
use Rattle.scfs_tuples.specs.declared.types.StepResult.{StepResult}
use Rattle.scfs_tuples.specs.declared.types.StepResult.TheVariants as results
use Rattle.scfs_anchor.specs.Fields.{number_at}
use Rattle.scfs_anchor.specs.Replies.{sight_of}
use Rattle.scfs_anchor.specs.StepReplies.{IsReplyTo, FitsOutcome}
use Rattle.scfs_anchor.specs.declared.seen.Sight.{Sight}
use Rattle.scfs_anchor.specs.declared.seen.VersionRow.{VersionRow}
use Rattle.scfs_model.specs.Names.{same_request, root_id}
use Rattle.scfs_model.specs.Layers.{Row}
use Rattle.scfs_model.specs.SessionSteps as machine
use Rattle.scfs_model.specs.SessionSteps.{Session_step, Open_read, Open_write, Commit}
use Rattle.scfs_model.specs.Steps.{Step, On_names, On_locks, On_sessions, Outcome, Of_names, Of_locks, Of_sessions}
use Rattle.scfs_model.specs.Agents.{Request}
use Rattle.scfs_model.specs.Opens.{Found, As_empty, On_clouds}
use Rattle.scfs_agent.specs.Views.{row_of}
use Rattle.scfs_agent.specs.Keeping.{IsRow}

-- What the space's reply says to the agent that asked.

-- the step of an outcome
abbrev pub outcome_step : Outcome Row → Step Row
outcome_step (Of_names x r) = On_names x
outcome_step (Of_locks x r) = On_locks x
outcome_step (Of_sessions x r) = On_sessions x

abbrev pub is_numbered : RequestNo → Request Row → Bool
is_numbered request x = same_request x.number request

-- the step that was asked under this number and not told yet
abbrev pub pending_step : List (Request Row) → RequestNo → Option (Request Row)
pending_step pending request = find (is_numbered request) pending

-- a step that was asked, where there is one, is this
abbrev pub IsIts : Option (Request Row) → Step Row → Type 0
IsIts None step = Unit {0}
IsIts (Some x) step = x.step ≡ step

-- a reply to a request is that of an outcome: of the step that was asked under that number
pub record IsTold (lease : ℕ) (pending : List (Request Row)) (request : RequestNo) (reply : Reply) (o : Outcome Row) : Type 0 where
  pub replied : IsReplyTo lease request o reply
  pub fits : FitsOutcome o
  pub asked : IsIts (pending_step pending request) (outcome_step o)

-- the kind that a number of a node's tuple stands for
abbrev pub kind_of : ℕ → Kind
kind_of number = if number == 0 then kinds.Dir else kinds.File

-- the answer to a look, from the last four fields that its step bound
abbrev pub stat_line : (a : ℕ) → (of_root : Bool) → List Field → Line
stat_line a of_root bound =
    if of_root then lines.OkStat a kinds.Dir root_id 0 0 hows.Fresh
    else (let at = length bound - 4 in
    lines.OkStat a (kind_of (number_at bound (at + 1))) (record {
      0 =
          number_at bound at;
    }) (number_at bound (at + 2)) (number_at bound (at + 3)) hows.Fresh)

-- a sight whose numbers fit
pub record FitsSeen (seen : Sight) : Type 0 where
  pub newest : seen.newest ≤ 1000000
  pub row : IfSome seen.row IsRow

-- a sight as the machine's; who holds the lock does not matter
abbrev pub sight_meant : Sight → machine.Sight Row
sight_meant seen = record { file = seen.id; number = seen.newest; version = option_map row_of seen.row; lock = None }

-- where the contents of an open are, by the row that is read, if one is
abbrev pub found_of : Option VersionRow → Found Row
found_of None = As_empty
found_of (Some row) = On_clouds (row_of row)

-- whether a sight shows a version that is to be read
abbrev pub has_version : Sight → Bool
has_version seen = not (seen.newest == 0) && is_some seen.row

abbrev pub shows_version : StepResult → Bool
shows_version (results.Did bound taken rows) = has_version (sight_of (results.Did bound taken rows))
shows_version (results.Refused index found) = false

-- whether a step is an open
abbrev pub is_open : Step Row → Bool
is_open (On_names x) = false
is_open (On_locks x) = false
is_open (On_sessions (Open_read names session)) = true
is_open (On_sessions (Open_write names session)) = true
is_open (On_sessions (Commit session v)) = false

-- whether a reply to what was asked has a version read
abbrev pub reads_version : Option (Request Row) → StepResult → Bool
reads_version None result = false
reads_version (Some x) result = is_open x.step && shows_version result

-- the numbers fit that a reply to an open shows
abbrev pub FitsReply : Option (Request Row) → Reply → Type 0
FitsReply None reply = Unit {0}
FitsReply (Some x) reply = is_open x.step ≡ true → FitsSeen (sight_of reply.result)

-- the place of the first item that passes a test, behind all where there is none
abbrev pub first_place : {X : Type 0} → (X → Bool) → List X → ℕ
first_place test [] = 0
first_place test (x ∷ xs) = if test x then 0 else first_place test xs + 1

-- the step of an open for a session
abbrev pub open_step : (writes : Bool) → (names : List (List ℕ)) → (session : ℕ) → Session_step Row
open_step true names session = Open_write names session
open_step false names session = Open_read names session

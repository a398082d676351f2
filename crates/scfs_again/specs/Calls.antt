-- A call of `scfs` with the word `run`, and what it has run.
use Rattle.std.specs.Prelude.{◌≡◌, ◌⊎◌, ℕ, List, [], ◌++◌, Option, Some, None}
use mathlib.Core.Logic.{inl, inr}
use Rattle.scfs_policy.specs.declared.rank.RankFacts.{RankFacts}
use Rattle.scfs_schedule.specs.declared.types.Header.{Header}
use Rattle.scfs_schedule.specs.declared.types.Which.TheVariants as whichs
use Rattle.scfs_model.specs.History.{History}
use Rattle.scfs_live.specs.Asked.{Told}
use Rattle.scfs_live.specs.Reopened.{EndsReopening}
use Rattle.scfs_live.specs.Reopening.{Walk}
use Rattle.scfs_live.specs.declared.ending.LiveEnd.{LiveEnd}
use Rattle.scfs_live.specs.declared.ending.LiveEnd.TheVariants as lives
use Rattle.scfs_top.specs.declared.closing.Status.{Status}
use Rattle.scfs_top.specs.declared.stopping.RunEnd.{RunEnd}
use Rattle.scfs_top.specs.Outer.{SinkView, SourceView}
use Rattle.scfs_top.specs.Running.{RunsOn, RunsScript, StopsAtHeader, StopsReopening}

-- what is known of a call: the script, the old journal, out, the journal and the clouds, before it and after it, and its status
pub record Call : Type 0 where
  pub input : SourceView
  pub input' : SourceView
  pub old : SourceView
  pub old' : SourceView
  pub out : SinkView
  pub shown : Option (List ℕ)
  pub journal : SinkView
  pub journal' : SinkView
  pub clouds : List Told
  pub clouds' : List Told
  pub status : Status

-- it met the contract of `scfs` for the word `run` (its clause `runs`), where the rank rule may answer so
abbrev pub Meets : (allows : RankFacts → ℕ → Type 0) → Call → Type 0
Meets allows call =
    RunsScript allows call.input call.input' call.old call.old' call.out call.shown call.journal call.journal' call.clouds call.clouds' call.status

-- how it ended: at the script's header, in running the old journal again, or behind that
abbrev pub Comes : (allows : RankFacts → ℕ → Type 0) → Call → (taken : List ℕ) → (shown : SinkView) → RunEnd → Type 0
Comes allows call taken shown end =
    StopsAtHeader taken call.old call.old' call.out shown call.journal call.journal' call.clouds call.clouds' end
    ⊎ StopsReopening allows taken call.old call.old' call.out shown call.journal call.journal' call.clouds call.clouds' end
    ⊎ RunsOn allows taken call.old call.old' call.out shown call.journal call.journal' call.clouds call.clouds' end

-- what was run: under the script's header the old journal, to a place at its end, and new events behind that
pub record Course : Type 0 where
  pub header : Header
  pub place : Walk
  pub new : History

-- its history
abbrev pub history : Course → History
history course = course.new ++ course.place.past

-- where running the old journal again ended the run: all of it had been run only where then writing what was missing failed
abbrev pub course_in_old : (allows : RankFacts → ℕ → Type 0) (header : Header) (left left' : Option (List ℕ)) (ends_then ends_now : ℕ)
    (before after : Option (List ℕ)) (why : LiveEnd) → EndsReopening allows header left left' ends_then ends_now before after why → Option Course
course_in_old allows header left left' ends_then ends_now before after (lives.WriteFault whichs.Journal) unwritten =
    Some (record { header = header; place = unwritten.place; new = [] })
course_in_old allows header left left' ends_then ends_now before after why unread = None

-- the same wherever the run ended
abbrev pub course_by : (allows : RankFacts → ℕ → Type 0) (call : Call) (taken : List ℕ) (shown : SinkView) (end : RunEnd)
    → Comes allows call taken shown end → Option Course
course_by allows call taken shown end (inl at_header) = None
course_by allows call taken shown end (inr (inl in_old)) =
    course_in_old allows in_old.header call.old.left call.old'.left call.old.ends call.old'.ends call.journal.written call.journal'.written in_old.why in_old.reopening
course_by allows call taken shown end (inr (inr on)) = Some (record { header = on.header; place = on.place; new = on.new })

-- what a call has run; there is none of a call that did not come to the end of its old journal
abbrev pub course_of : (allows : RankFacts → ℕ → Type 0) (call : Call) → Meets allows call → Option Course
course_of allows call meets = course_by allows call meets.runs.taken meets.shown meets.end meets.runs.comes

-- a call came to the end of its old journal, and has run this
abbrev pub HasRun : (allows : RankFacts → ℕ → Type 0) (call : Call) → Meets allows call → Course → Type 0
HasRun allows call meets course = course_of allows call meets ≡ Some course

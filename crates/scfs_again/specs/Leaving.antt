-- What a call leaves in its journal.
use Rattle.std.specs.Prelude.{◌≡◌, ◌≢◌, ℕ, List, [], ◌++◌, Some, None}
use Rattle.scfs_anchor.specs.Tree.{Each}
use Rattle.scfs_policy.specs.declared.rank.RankFacts.{RankFacts}
use Rattle.scfs_model.specs.History.{Entry}
use Rattle.scfs_live.specs.GoingOn.{journal_lines, kept_lines}
use Rattle.scfs_live.specs.Keeping.{whole_lines}
use Rattle.scfs_live.specs.Reopened.{old_lines}
use Rattle.scfs_live.specs.RunAgain.{IsLeftOf}
use Rattle.scfs_live.specs.Stopped.{SaysBytes}
use Rattle.scfs_top.specs.declared.closing.Status.TheVariants as statuses
use Rattle.scfs_again.specs.Calls.{Call, Course, HasRun, Meets, course_of, history}

-- The bytes that an old journal has behind a call, where the call's old journal and its journal tell theirs: those that it had, and then those
-- that the call wrote, or the first of them where the others are lost. They keep the limits of an old journal and of a line.
pub record Leaves (call : Call) (text : List ℕ) : Type 0 where
  pub had : List ℕ
  pub there : List ℕ
  pub lost : List ℕ
  pub before : List ℕ
  pub read : call.old.left ≡ Some had
  pub was : call.journal.written ≡ Some before
  pub wrote : call.journal'.written ≡ Some (before ++ (there ++ lost))
  pub is : text ≡ had ++ there
  pub within : (old_lines text).passed ≡ None

-- what the clouds said in the new events is of bytes, as its type has it
abbrev pub SaidBytes : Course → Type 0
SaidBytes course = Each (λ (e : Entry). SaysBytes e.event) course.new

-- A call that did not read its old journal to its end wrote nothing. What one that did leaves is left of the journal of its history; with
-- another status than that of a failed write, and nothing lost, it has all lines of that journal.
pub record CallsLeaveJournals (allows : RankFacts → ℕ → Type 0) : Type 0 where
  pub nothing :
      (call : Call) (meets : Meets allows call) → course_of allows call meets ≡ None → call.journal'.written ≡ call.journal.written
  pub left :
      (call : Call) (meets : Meets allows call) (course : Course) (text : List ℕ) → HasRun allows call meets course → SaidBytes course → Leaves call text
      → IsLeftOf course.header (history course) text
  pub whole :
      (call : Call) (meets : Meets allows call) (course : Course) (text : List ℕ) → HasRun allows call meets course → (leaves : Leaves call text)
      → leaves.lost ≡ [] → call.status ≢ statuses.WriteFault → kept_lines (whole_lines text) ≡ journal_lines course.header (history course)

-- Two calls, the second over what the first left.
use Rattle.std.specs.Prelude.{◌≡◌, ◌≢◌, ℕ, List, [], Some, None}
use Rattle.scfs_policy.specs.declared.rank.RankFacts.{RankFacts}
use Rattle.scfs_schedule.specs.declared.types.Which.TheVariants as whichs
use Rattle.scfs_live.specs.Keeping.{whole_lines}
use Rattle.scfs_live.specs.RunAgain.{GoesAgain, HasOneAnswer}
use Rattle.scfs_live.specs.declared.ending.LiveEnd.TheVariants as lives
use Rattle.scfs_top.specs.declared.closing.Status.TheVariants as statuses
use Rattle.scfs_top.specs.declared.stopping.RunEnd.{RunEnd}
use Rattle.scfs_top.specs.declared.stopping.RunEnd.TheVariants as runs
use Rattle.scfs_top.specs.Scripting.{script_of}
use Rattle.scfs_again.specs.Again.{GoesOn}
use Rattle.scfs_again.specs.Calls.{Call, Course, HasRun, Meets, course_of, history}
use Rattle.scfs_again.specs.Leaving.{Leaves, SaidBytes}

-- A second call comes behind a first that ran its old journal to the end: its old journal has what the first left, and its script says the
-- first one's header.
pub record ComesBehind (allows later : RankFacts → ℕ → Type 0) (first second : Call) (meets : Meets allows first) (again : Meets later second)
    (course : Course) (text : List ℕ) : Type 0 where
  pub ran : HasRun allows first meets course
  pub said : SaidBytes course
  pub leaves : Leaves first text
  pub reads : second.old.left ≡ Some text
  pub header : (script_of again.runs.taken).header ≡ Some course.header

-- It goes on in the first one's history; where the first ended in another status than that of a failed write, and nothing is lost, in all of it.
pub record SecondCallsGoOn (allows later : RankFacts → ℕ → Type 0) : Type 0 where
  pub goes_on :
      (first second : Call) (meets : Meets allows first) (again : Meets later second) (course : Course) (text : List ℕ)
      → ComesBehind allows later first second meets again course text → GoesOn later course.header (history course) text second again
  pub whole :
      (first second : Call) (meets : Meets allows first) (again : Meets later second) (course next : Course) (text : List ℕ)
      → (behind : ComesBehind allows later first second meets again course text) → behind.leaves.lost ≡ [] → first.status ≢ statuses.WriteFault
      → HasRun later second again next → (goes : GoesAgain course.header (history course) (whole_lines text) next.place)
      → goes.whole ≡ history course

-- reading the old journal failed, or memory was wanting
abbrev pub IsCutShort : RunEnd → Type 0
IsCutShort (runs.Stopped (lives.ReadFault whichs.Journal)) = Unit {0}
IsCutShort (runs.Stopped lives.Memory) = Unit {0}
IsCutShort other = ⊥

-- Where both calls have one rank rule, which has one answer for each of the facts, the second goes on from the very entries of the first: no line
-- differs, and no event is too large that was not.
pub record OneRuleGoesOn (allows : RankFacts → ℕ → Type 0) : Type 0 where
  pub entries :
      (first second : Call) (meets : Meets allows first) (again : Meets allows second) (course next : Course) (text : List ℕ) → HasOneAnswer allows
      → ComesBehind allows allows first second meets again course text → HasRun allows second again next
      → (goes : GoesAgain course.header (history course) (whole_lines text) next.place) → next.place.past ≡ goes.whole
  pub earlier :
      (first second : Call) (meets : Meets allows first) (again : Meets allows second) (course : Course) (text : List ℕ) → HasOneAnswer allows
      → ComesBehind allows allows first second meets again course text → course_of allows second again ≡ None → IsCutShort again.end
  pub differs :
      (first second : Call) (meets : Meets allows first) (again : Meets allows second) (course : Course) (text : List ℕ) → HasOneAnswer allows
      → ComesBehind allows allows first second meets again course text → second.status ≢ statuses.Differs

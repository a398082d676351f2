-- A call over what is left of a journal.
use Rattle.std.specs.Prelude.{◌≡◌, ℕ, List, Some, None}
use Rattle.scfs_policy.specs.declared.rank.RankFacts.{RankFacts}
use Rattle.scfs_schedule.specs.declared.types.Header.{Header}
use Rattle.scfs_schedule.specs.declared.types.Which.TheVariants as whichs
use Rattle.scfs_model.specs.History.{History}
use Rattle.scfs_live.specs.Keeping.{whole_lines}
use Rattle.scfs_live.specs.RunAgain.{DiffersAgain, GoesAgain, IsLeftOf, TooLargeAgain}
use Rattle.scfs_live.specs.declared.ending.LiveEnd.TheVariants as lives
use Rattle.scfs_top.specs.declared.closing.LastLine.TheVariants as lasts
use Rattle.scfs_top.specs.declared.stopping.RunEnd.{RunEnd}
use Rattle.scfs_top.specs.declared.stopping.RunEnd.TheVariants as runs
use Rattle.scfs_top.specs.Headline.{Closes}
use Rattle.scfs_top.specs.Scripting.{script_of}
use Rattle.scfs_again.specs.Calls.{Call, Course, HasRun, Meets, course_of}

-- How a call ends that does not come to the end of what was left: reading that failed, or memory was wanting; or, where the rank rule
-- answers otherwise than before, a line differs, the first that does, and out got its number with both texts and nothing else; or then the next
-- event would carry too many bytes. It ends in no other way: no line is bad, none is of an event that the program can't do, and no other
-- limit is passed.
abbrev pub EndsEarlier : (allows : RankFacts → ℕ → Type 0) → Header → History → (text : List ℕ) → Call → RunEnd → Type 0
EndsEarlier allows header past text call (runs.Stopped (lives.ReadFault whichs.Journal)) = Unit {0}
EndsEarlier allows header past text call (runs.Stopped lives.Memory) = Unit {0}
EndsEarlier allows header past text call (runs.Stopped (lives.Differs number kept made)) =
    DiffersAgain allows header past (whole_lines text) number kept made
    × Closes (lasts.Differs number kept made) call.out.written call.shown call.status
EndsEarlier allows header past text call (runs.Stopped (lives.TooLarge whichs.Objects)) = TooLargeAgain allows header past (whole_lines text)
EndsEarlier allows header past text call other = ⊥

-- no line of the old journal was refused, and it passed no limit
abbrev pub IsNoRefusal : RunEnd → Type 0
IsNoRefusal (runs.Stopped (lives.Bad bad)) = ⊥
IsNoRefusal (runs.Stopped (lives.Unbuilt line)) = ⊥
IsNoRefusal (runs.Stopped (lives.TooLarge whichs.Journal)) = ⊥
IsNoRefusal (runs.Stopped (lives.TooLarge whichs.Line)) = ⊥
IsNoRefusal other = Unit {0}

-- A call goes on over what is left of a history's journal: it reads all of that, under the history's header, and runs again exactly the events
-- whose lines are whole; the kept lines are those that it makes. Or it ends earlier.
pub record GoesOn (allows : RankFacts → ℕ → Type 0) (header : Header) (past : History) (text : List ℕ) (call : Call) (meets : Meets allows call) : Type 0 where
  pub goes :
      (course : Course) → HasRun allows call meets course → (course.header ≡ header) × GoesAgain header past (whole_lines text) course.place
  pub earlier : course_of allows call meets ≡ None → EndsEarlier allows header past text call meets.end
  pub accepted : IsNoRefusal meets.end

-- so does each whose script says that header
abbrev pub CallsGoOn : (allows : RankFacts → ℕ → Type 0) → Type 0
CallsGoOn allows =
    (header : Header) (past : History) (text : List ℕ) (call : Call) (meets : Meets allows call) → IsLeftOf header past text
    → call.old.left ≡ Some text → (script_of meets.runs.taken).header ≡ Some header → GoesOn allows header past text call meets

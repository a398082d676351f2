-- Reopening an old journal: how far it is.
use Rattle.std.specs.Prelude.{◌≡◌, ℕ, List, ◌++◌, length, Option, Some, Result, Ok, Err}
use Rattle.scfs_base.specs.Outside.{Takes}
use Rattle.scfs_policy.specs.declared.rank.RankFacts.{RankFacts}
use Rattle.scfs_schedule.specs.Holding.{is_unfinished}
use Rattle.scfs_schedule.specs.Splitting.{GivesLine, Splitting, lines_of, no_lines}
use Rattle.scfs_schedule.specs.declared.types.Header.{Header}
use Rattle.scfs_schedule.specs.declared.types.Which.TheVariants as whichs
use Rattle.scfs_live.specs.declared.ending.LiveEnd.{LiveEnd}
use Rattle.scfs_live.specs.declared.ending.LiveEnd.TheVariants as ends
use Rattle.scfs_live.specs.declared.reopening.Reread.{Reread}
use Rattle.scfs_live.specs.declared.running.Running.{Running}
use Rattle.scfs_live.specs.Edges.{GetsPart}
use Rattle.scfs_live.specs.Reopened.{EndsAgain, ReadsAll, old_lines}
use Rattle.scfs_live.specs.Reopening.{IsAt, Walk, Walks, unwalked}
use Rattle.scfs_live.specs.Taking.{with_lines}

-- the next line of what was fed, or how that ended
abbrev pub GivesNext : Result (Option (List ℕ)) LiveEnd → Splitting → Splitting → Type 0
GivesNext (Ok line) old new = GivesLine (Ok line) old new
GivesNext (Err (ends.TooLarge which)) old new = (later : List ℕ) → lines_of old later ≡ no_lines (Some which)
GivesNext (Err ends.Memory) old new = Unit {0}
GivesNext (Err end) old new = ⊥

-- of the old journal these bytes were taken and these lines given and run again; the others are still to come
pub record IsSoFar (allows : RankFacts → ℕ → Type 0) (header : Header) (taken : List ℕ) (lines : Splitting) (running : Running) : Type 0 where
  pub done : List (List ℕ)
  pub place : Walk
  pub gave : (later : List ℕ) → old_lines (taken ++ later) ≡ with_lines done (lines_of lines later)
  pub number : lines.number ≡ length done
  pub walks : Walks header (unwalked header) done place
  pub at : IsAt allows header place running

-- an old journal was read to its end and run again
pub record Rereads (allows : RankFacts → ℕ → Type 0) (header : Header) (left left' : Option (List ℕ)) (ends_then ends_now : ℕ)
    (reread : Reread) : Type 0 where
  pub taken : List ℕ
  pub place : Walk
  pub reads : ReadsAll allows header left left' ends_then ends_now taken place
  pub at : IsAt allows header place reread.running
  pub unfinished : is_unfinished taken ≡ reread.unfinished

-- or that ended before
pub record StopsReading (allows : RankFacts → ℕ → Type 0) (header : Header) (left left' : Option (List ℕ)) (end : LiveEnd) : Type 0 where
  pub taken : List ℕ
  pub takes : Takes left left' taken
  pub ends : EndsAgain allows header taken end

-- how writing a text to the journal ended: not all of it was written; or memory was wanting, and nothing was
abbrev pub EndsWriting : (before after : Option (List ℕ)) → (text : List ℕ) → LiveEnd → Type 0
EndsWriting before after text (ends.WriteFault whichs.Journal) = GetsPart before after text
EndsWriting before after text ends.Memory = after ≡ before
EndsWriting before after text end = ⊥

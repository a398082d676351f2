-- What reopening an old journal comes to.
use Rattle.std.specs.Prelude.{◌≡◌, ℕ, ◌+◌, List, [], ◌∷◌, ◌++◌, length, Option, Some, None, IfSome}
use Rattle.scfs_base.specs.Outside.{Takes, Puts, Rose}
use Rattle.scfs_policy.specs.declared.rank.RankFacts.{RankFacts}
use Rattle.scfs_schedule.specs.Holding.{is_unfinished}
use Rattle.scfs_schedule.specs.Splitting.{Split, split}
use Rattle.scfs_schedule.specs.declared.types.Header.{Header}
use Rattle.scfs_schedule.specs.declared.types.Which.{Which}
use Rattle.scfs_schedule.specs.declared.types.Which.TheVariants as whichs
use Rattle.scfs_world.specs.Happening.{Stands}
use Rattle.scfs_world.specs.State.{WorldState}
use Rattle.scfs_live.specs.declared.ending.LiveEnd.{LiveEnd}
use Rattle.scfs_live.specs.declared.ending.LiveEnd.TheVariants as ends
use Rattle.scfs_live.specs.Edges.{GetsPart}
use Rattle.scfs_live.specs.Finding.{found}
use Rattle.scfs_live.specs.Keeping.{missing}
use Rattle.scfs_live.specs.Limits.{journal_limit}
use Rattle.scfs_live.specs.Reopening.{EndsAt, RunsAgain, Walk}

-- the whole lines of an old journal of these bytes, up to the place at which it passes a limit, if it does
abbrev pub old_lines : List ℕ → Split
old_lines taken = split journal_limit whichs.Journal taken

-- the old journal was run again as far as it was taken: all its whole lines lead to this place, and it passes no limit
pub record RunsAll (allows : RankFacts → ℕ → Type 0) (header : Header) (taken : List ℕ) (place : Walk) : Type 0 where
  pub within : (old_lines taken).passed ≡ None
  pub runs : RunsAgain allows header (old_lines taken).lines place

-- all its lines before the place at which it passes this limit were run again
pub record Passes (allows : RankFacts → ℕ → Type 0) (header : Header) (taken : List ℕ) (which : Which) : Type 0 where
  pub place : Walk
  pub passed : (old_lines taken).passed ≡ Some which
  pub runs : RunsAgain allows header (old_lines taken).lines place

-- the lines before one of its lines were run again, and that line ends it so
pub record StopsAt (allows : RankFacts → ℕ → Type 0) (header : Header) (taken : List ℕ) (end : LiveEnd) : Type 0 where
  pub before : List (List ℕ)
  pub line : List ℕ
  pub later : List (List ℕ)
  pub place : Walk
  pub whole : (old_lines taken).lines ≡ before ++ line ∷ later
  pub runs : RunsAgain allows header before place
  pub ends : EndsAt allows header place.past (length before + 1) (found header place.awaited line) end

-- how running its whole lines again ended, where these bytes were taken
abbrev pub EndsLines : (allows : RankFacts → ℕ → Type 0) → Header → (taken : List ℕ) → LiveEnd → Type 0
EndsLines allows header taken (ends.TooLarge whichs.Journal) = Passes allows header taken whichs.Journal
EndsLines allows header taken (ends.TooLarge whichs.Line) = Passes allows header taken whichs.Line
EndsLines allows header taken ends.Memory = Unit {0}
EndsLines allows header taken end = StopsAt allows header taken end

-- the same, or that reading failed
abbrev pub EndsAgain : (allows : RankFacts → ℕ → Type 0) → Header → (taken : List ℕ) → LiveEnd → Type 0
EndsAgain allows header taken (ends.ReadFault whichs.Journal) = (place : Walk) × RunsAll allows header taken place
EndsAgain allows header taken end = EndsLines allows header taken end

-- The old journal was read to its end, and all of it was run again, to this place: these bytes were taken, where the source tells; a read
-- gave the end, and nothing is left.
pub record ReadsAll (allows : RankFacts → ℕ → Type 0) (header : Header) (left left' : Option (List ℕ)) (ends_then ends_now : ℕ)
    (taken : List ℕ) (place : Walk) : Type 0 where
  pub takes : Takes left left' taken
  pub ended : Rose ends_then ends_now
  pub nothing_left : IfSome left' (λ rest. rest ≡ [])
  pub runs : RunsAll allows header taken place

-- a world was reopened: it stands for the history of the old journal, all of which was run again, and what was missing was written
pub record Reopens (allows : RankFacts → ℕ → Type 0) (header : Header) (left left' : Option (List ℕ)) (ends_then ends_now : ℕ)
    (before after : Option (List ℕ)) (world : WorldState) : Type 0 where
  pub taken : List ℕ
  pub place : Walk
  pub reads : ReadsAll allows header left left' ends_then ends_now taken place
  pub stands : Stands world header place.past
  pub wrote : Puts before after (missing (is_unfinished taken) place.awaited)

-- writing failed: all of the old journal was run again, and of what was missing not all was written
pub record Unwritten (allows : RankFacts → ℕ → Type 0) (header : Header) (left left' : Option (List ℕ)) (ends_then ends_now : ℕ)
    (before after : Option (List ℕ)) : Type 0 where
  pub taken : List ℕ
  pub place : Walk
  pub reads : ReadsAll allows header left left' ends_then ends_now taken place
  pub wrote : GetsPart before after (missing (is_unfinished taken) place.awaited)

-- the running again ended before, and nothing was written
pub record Unread (allows : RankFacts → ℕ → Type 0) (header : Header) (left left' before after : Option (List ℕ))
    (end : LiveEnd) : Type 0 where
  pub taken : List ℕ
  pub takes : Takes left left' taken
  pub ends : EndsAgain allows header taken end
  pub nothing : after ≡ before

-- how reopening ended with no world
abbrev pub EndsReopening : (allows : RankFacts → ℕ → Type 0) → Header → (left left' : Option (List ℕ)) → (ends_then ends_now : ℕ)
    → (before after : Option (List ℕ)) → LiveEnd → Type 0
EndsReopening allows header left left' ends_then ends_now before after (ends.WriteFault whichs.Journal) =
    Unwritten allows header left left' ends_then ends_now before after
EndsReopening allows header left left' ends_then ends_now before after end = Unread allows header left left' before after end

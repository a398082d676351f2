-- Reading an old journal, a piece at a time.
use Rattle.std.specs.Prelude.{◌≡◌, ◌≤◌, ◌<◌, ℕ, List, [], ◌++◌, length, Option, IfSome}
use Rattle.scfs_base.specs.Outside.{Takes}
use Rattle.scfs_schedule.specs.Holding.{is_unfinished}
use Rattle.scfs_schedule.specs.Splitting.{Split, Splitting, lines_of}
use Rattle.scfs_live.specs.declared.pieces.PieceRead.{PieceRead}
use Rattle.scfs_live.specs.declared.pieces.PieceRead.TheVariants as reads

-- lines before those that are given later
abbrev pub with_lines : List (List ℕ) → Split → Split
with_lines lines later = record later { lines = lines ++ later.lines }

-- these bytes were fed and no line was given: the lines that are given later were given with them in front
pub record Fed (old : Splitting) (taken : List ℕ) (new : Splitting) : Type 0 where
  pub same : (later : List ℕ) → lines_of old (taken ++ later) ≡ lines_of new later
  pub number : new.number ≡ old.number

-- One read: the bytes taken were fed, so many of them, at least one, and they end within a line or not; at the end nothing is left;
-- a failure takes nothing.
abbrev pub TakesPiece : Option (List ℕ) → Option (List ℕ) → Splitting → Splitting → ℕ → PieceRead → Type 0
TakesPiece left left' old new room (reads.Took count unfinished) =
    (taken : List ℕ) × (length taken ≡ count) × (0 < count) × (count ≤ room) × Takes left left' taken × Fed old taken new
    × (is_unfinished taken ≡ unfinished)
TakesPiece left left' old new room reads.End = (new ≡ old) × Takes left left' [] × IfSome left' (λ rest. rest ≡ [])
TakesPiece left left' old new room reads.Fault = (new ≡ old) × (left' ≡ left)
TakesPiece left left' old new room reads.Memory = (taken : List ℕ) × (length taken ≤ room) × Takes left left' taken

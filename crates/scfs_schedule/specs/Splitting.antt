use Rattle.std.specs.Prelude.{◌≡◌, ℕ, ◌+◌, ◌^◌, ◌<◌, ◌≤◌, List, [], ◌∷◌, ◌++◌, Bool, true, false, ◌||◌, nat_lt, if◌then◌else◌, Option, Some, None, Result, Ok, Err, length, take}
use Rattle.scfs_base.specs.Limits.{line_limit}
use Rattle.scfs_base.specs.Pieces.{pieces}
use Rattle.scfs_schedule.specs.declared.types.Stop.{Stop}
use Rattle.scfs_schedule.specs.declared.types.Stop.TheVariants as stops
use Rattle.scfs_schedule.specs.declared.types.Which.{Which}
use Rattle.scfs_schedule.specs.declared.types.Which.TheVariants as whichs
use Rattle.scfs_schedule.specs.Holding.{Holding}
use Rattle.scfs_schedule.specs.Reading.{is_too_long}

-- the whole lines of a text up to the place at which it passes a limit, if it does
pub record Split : Type 0 where
  pub lines : List (List ℕ)
  pub passed : Option Which

-- no further line
abbrev pub no_lines : Option Which → Split
no_lines passed = record { lines = []; passed = passed }

-- a line before the others
abbrev pub with_line : List ℕ → Split → Split
with_line line split = record split { lines = line ∷ split.lines }

-- the lines among the pieces of a text, of which the last is no whole line; `longer` says that the text goes on past its limit
abbrev pub split_lines : Bool → Which → List (List ℕ) → Split
split_lines longer which [] = no_lines None
split_lines longer which (last ∷ []) =
    if is_too_long last then no_lines (Some whichs.Line) else no_lines (if longer then Some which else None)
split_lines longer which (line ∷ next ∷ rest) =
    if is_too_long line then no_lines (Some whichs.Line) else with_line line (split_lines longer which (next ∷ rest))

-- the lines of a text of which at most `limit` bytes are taken
abbrev pub split : ℕ → Which → List ℕ → Split
split limit which text = split_lines (nat_lt limit (length text)) which (pieces 10 (take limit text))

-- where the parting of a text into lines stands: what its limit is of, how many lines were given, the bytes held, how many more are taken, whether
-- more came than were taken, and the limit that was passed
pub record Splitting : Type 0 where
  pub which : Which
  pub number : ℕ
  pub rest : List ℕ
  pub room : ℕ
  pub longer : Bool
  pub passed : Option Which

-- at the beginning of a text
abbrev pub unsplit : ℕ → Which → Splitting
unsplit limit which = record { which = which; number = 0; rest = []; room = limit; longer = false; passed = None }

abbrev pub unless_passed : Option Which → Split → Split
unless_passed None split = split
unless_passed (Some which) split = no_lines (Some which)

-- the lines still given when these bytes are fed
abbrev pub lines_of : Splitting → List ℕ → Split
lines_of splitting more =
    unless_passed splitting.passed
    (split_lines (splitting.longer || nat_lt splitting.room (length more)) splitting.which (pieces 10 (splitting.rest ++ take splitting.room more)))

-- an answer is the next of the lines that were still given: a line, none as long as nothing more is fed, or the limit that was passed;
-- want of memory leaves everything as it was
abbrev pub GivesLine : Result (Option (List ℕ)) Stop → Splitting → Splitting → Type 0
GivesLine (Ok (Some line)) old new =
    (old.passed ≡ None) × (new.passed ≡ None) × (new.number ≡ old.number + 1) × (length line ≤ line_limit)
    × (length new.rest < length old.rest) × ((more : List ℕ) → lines_of old more ≡ with_line line (lines_of new more))
GivesLine (Ok None) old new = (old.passed ≡ None) × (new ≡ old) × (lines_of old [] ≡ no_lines None) × (length old.rest ≤ line_limit)
GivesLine (Err stops.Memory) old new = (new ≡ old)
GivesLine (Err (stops.Bad bad)) old new = ⊥
GivesLine (Err (stops.TooLarge which)) old new =
    (new ≡ record old { passed = Some which }) × ((more : List ℕ) → lines_of old more ≡ no_lines (Some which))

-- what is kept of the fields
pub record KeepsLines (held : Holding) (number : ℕ) : Type 0 where
  pub counted : number + (length held.rest + held.room) < 2 ^ 64
  pub full : held.longer ≡ true → held.room ≡ 0

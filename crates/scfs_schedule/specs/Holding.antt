use Rattle.std.specs.Prelude.{◌≡◌, ℕ, ◌+◌, ◌-◌, ◌<◌, ◌≤◌, List, [], ◌∷◌, ◌++◌, Bool, false, ◌||◌, not, nat_lt, ◌==◌, length, take, drop}
use Rattle.scfs_base.specs.Limits.{line_limit}
use Rattle.scfs_base.specs.Pieces.{pieces, CutsAt}
use Rattle.scfs_schedule.specs.declared.progress.FirstLine.{FirstLine}
use Rattle.scfs_schedule.specs.declared.progress.FirstLine.TheVariants as firsts

-- bytes that wait to be read, how many more are taken, and whether more came than were taken
pub record Holding : Type 0 where
  pub rest : List ℕ
  pub room : ℕ
  pub longer : Bool

-- the same with one more piece, or the front of it for which there is room
abbrev pub with_piece : Holding → List ℕ → Holding
with_piece held piece =
    record {
      rest = held.rest ++ take held.room piece;
      room = held.room - length piece;
      longer = held.longer || nat_lt held.room (length piece);
    }

-- bytes without a whole line
abbrev pub HoldsNoLine : List ℕ → Type 0
HoldsNoLine bytes = pieces 10 bytes ≡ bytes ∷ []

-- whatever comes behind them, these bytes begin with a line that is too long
abbrev pub HoldsLongLine : List ℕ → Type 0
HoldsLongLine bytes =
    (more : List ℕ) → (first : List ℕ) × (others : List (List ℕ)) × (pieces 10 (bytes ++ more) ≡ first ∷ others) × (line_limit < length first)

-- bytes that end within a line
abbrev pub is_unfinished : List ℕ → Bool
is_unfinished [] = false
is_unfinished (byte ∷ []) = not (byte == 10)
is_unfinished (byte ∷ next ∷ bytes) = is_unfinished (next ∷ bytes)

-- of the bytes held the first `clear` are known to hold no line
pub record IsHeld (held : List ℕ) (clear : ℕ) : Type 0 where
  pub within : clear ≤ length held
  pub no_line : HoldsNoLine (take clear held)

-- what stands first in some bytes
abbrev pub StandsFirst : FirstLine → List ℕ → Type 0
StandsFirst firsts.Unfinished bytes = HoldsNoLine bytes × (length bytes ≤ line_limit)
StandsFirst firsts.TooLong bytes = HoldsLongLine bytes
StandsFirst (firsts.Whole n) bytes = (n < length bytes) × (n ≤ line_limit) × CutsAt 10 bytes (take n bytes) (drop (n + 1) bytes)

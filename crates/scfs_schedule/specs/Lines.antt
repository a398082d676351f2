use Rattle.std.specs.Prelude.{◌≡◌, ℕ, ◌+◌, ◌<◌, ◌≤◌, List, true, Option, Some, None, Result, Ok, Err, length}
use Rattle.scfs_base.specs.Limits.{input_limit, line_limit}
use Rattle.scfs_base.specs.Pieces.{CutsAt}
use Rattle.scfs_schedule.specs.declared.types.Ending.{Ending}
use Rattle.scfs_schedule.specs.declared.types.Ending.TheVariants as endings
use Rattle.scfs_schedule.specs.declared.types.Place.{Place}
use Rattle.scfs_schedule.specs.declared.types.Said.{Said}
use Rattle.scfs_schedule.specs.declared.types.Stop.{Stop}
use Rattle.scfs_schedule.specs.declared.progress.Found.{Found}
use Rattle.scfs_schedule.specs.declared.progress.Found.TheVariants as founds
use Rattle.scfs_schedule.specs.declared.progress.Progress.{Progress}
use Rattle.scfs_schedule.specs.declared.progress.Progress.TheVariants as progress
use Rattle.scfs_schedule.specs.Grammar.{said_of}
use Rattle.scfs_schedule.specs.Holding.{Holding, HoldsNoLine, HoldsLongLine}
use Rattle.scfs_schedule.specs.Places.{IsPlace, IsInHeader, IsBehind, IsSaidAt}
use Rattle.scfs_schedule.specs.Reading.{Reading, Gives, Stops, gives}

-- the text ended only behind its header
abbrev pub EndsBehindHeader : Option Ending → Place → Type 0
EndsBehindHeader (Some endings.Ended) place = IsInHeader place → ⊥
EndsBehindHeader ending place = Unit {0}

-- before an ending, so many lines may stand before the place
abbrev pub IsNumbered : Option Ending → Place → ℕ → Type 0
IsNumbered (Some ending) place lines = Unit {0}
IsNumbered None place lines = IsBehind place lines

-- what a reader keeps of its fields
pub record Keeps (held : Holding) (lines : ℕ) (place : Place) (ending : Option Ending) : Type 0 where
  pub counted : lines + (length held.rest + held.room) ≤ input_limit
  pub full : held.longer ≡ true → held.room ≡ 0
  pub in_range : IsPlace place
  pub ended : EndsBehindHeader ending place
  pub numbered : IsNumbered ending place lines

-- a whole line was taken off and says this
pub record Cuts (old new : Reading) (said : Said) : Type 0 where
  pub line : List ℕ
  pub tail : List ℕ
  pub cut : CutsAt 10 old.rest line tail
  pub short : length line ≤ line_limit
  pub says : said ≡ said_of old.script old.place line
  pub fits : IsSaidAt old.place said
  pub numbered : IsBehind old.place old.lines
  pub counted : old.lines + (length tail + old.room) < input_limit
  pub state : new ≡ record old { rest = tail }

-- a whole line is taken off, or nothing changes since there is none or a line is too long
abbrev pub Finds : Found → Reading → Reading → Type 0
Finds founds.NoLine old new = HoldsNoLine old.rest × (length old.rest ≤ line_limit) × (new ≡ old)
Finds founds.LongLine old new = HoldsLongLine old.rest × (new ≡ old)
Finds (founds.Line said) old new = Cuts old new said

-- a line of the header that only moves on
pub record MovesOn (old new : Reading) : Type 0 where
  pub from : IsInHeader old.place
  pub to : IsInHeader new.place
  pub shorter : length new.rest < length old.rest
  pub goes_on : new.ending ≡ old.ending
  pub same : (more : List ℕ) → gives old more ≡ gives new more
  pub script : new.script ≡ old.script

-- what one line does to a reader that met no ending
abbrev pub Goes : Result Progress Stop → Reading → Reading → Type 0
Goes (Ok progress.Nothing) old new = HoldsNoLine old.rest × (length old.rest ≤ line_limit) × (new ≡ old)
Goes (Ok progress.Moved) old new = MovesOn old new
Goes (Ok (progress.Gave item)) old new = Gives (Ok (Some item)) old new
Goes (Err stop) old new = Stops stop old new

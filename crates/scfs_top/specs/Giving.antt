-- What the text on the input gives next, and what is read for it.
use Rattle.std.specs.Prelude.{◌≡◌, ◌≢◌, ◌≤◌, ◌⊎◌, ℕ, ◌+◌, List, [], ◌++◌, Bool, false, length, Option, None, IfSome}
use Rattle.scfs_base.specs.Limits.{input_limit}
use Rattle.scfs_base.specs.Outside.{Takes, Rose}
use Rattle.scfs_schedule.specs.Grammar.{IsHeader, IsEvent}
use Rattle.scfs_schedule.specs.Reading.{Reading, IsAtEvents, IsDrained, gives, stopped, unfinished, unread, with_event, with_header}
use Rattle.scfs_schedule.specs.declared.types.Header.{Header}
use Rattle.scfs_top.specs.declared.closing.Filled.{Filled}
use Rattle.scfs_top.specs.declared.closing.Filled.TheVariants as filleds
use Rattle.scfs_top.specs.declared.intake.Given.{Given}
use Rattle.scfs_top.specs.declared.intake.Given.TheVariants as givens
use Rattle.scfs_top.specs.declared.intake.Intake.{Intake}
use Rattle.scfs_top.specs.Pace.{piece_limit}
use Rattle.scfs_top.specs.Playing.{header_lines}

-- a text that goes on, of whose further lines none is held
pub record IsAwaiting (reader : Reading) : Type 0 where
  pub drained : IsDrained reader
  pub goes_on : reader.ending ≡ None
  pub within : reader.longer ≡ false

-- an intake of which nothing was read, of a schedule or of a script
pub record IsFresh (script : Bool) (intake : Intake) : Type 0 where
  pub unread : intake.reader ≡ unread script
  pub room : intake.room ≡ input_limit + 1

-- how reading ended; it is open where the text gave something
abbrev pub filled_by : Given → Filled
filled_by (givens.Header header) = filleds.Open
filled_by (givens.Event event) = filleds.Open
filled_by (givens.Ended ending filled) = filled
filled_by givens.Memory = filleds.Open

-- what a reader gave next, these bytes having been fed to it
abbrev pub GivesNext : Given → List ℕ → Reading → Reading → Type 0
GivesNext (givens.Header header) more old new =
    IsHeader header × IsAtEvents new header × ((h : Header) → ¬ IsAtEvents old h) × (new.lines ≡ header_lines header)
    × ((later : List ℕ) → gives old (more ++ later) ≡ with_header header (gives new later))
GivesNext (givens.Event event) more old new =
    (header : Header) × IsAtEvents old header × IsAtEvents new header × IsEvent header event × (new.lines ≡ old.lines + 1)
    × ((later : List ℕ) → gives old (more ++ later) ≡ with_event event (gives new later))
GivesNext (givens.Ended ending filled) more old new = gives old more ≡ stopped ending
GivesNext givens.Memory more old new = Unit {0}

-- these bytes were taken for what an intake gave next
pub record Draws (left left' : Option (List ℕ)) (more : List ℕ) (old new : Intake) (given : Given) : Type 0 where
  pub takes : Takes left left' more
  pub few : length more ≤ old.room
  pub next : GivesNext given more old.reader new.reader
  pub leaves : given ≢ givens.Memory → length more + new.room ≡ old.room
  pub full : filled_by given ≡ filleds.Full → length more ≡ old.room
  pub nothing_left : filled_by given ≡ filleds.End → IfSome left' (λ rest. rest ≡ [])

-- they are early ones, of which a reader gives nothing, and at most one piece
pub record InPieces (reader : Reading) (more : List ℕ) : Type 0 where
  pub early : List ℕ
  pub piece : List ℕ
  pub whole : more ≡ early ++ piece
  pub few : length piece ≤ piece_limit
  pub line : ℕ
  pub nothing : gives reader early ≡ stopped (unfinished false line)

-- they are none, or they were read in pieces
abbrev pub ReadOn : Reading → (more : List ℕ) → Type 0
ReadOn reader more = (more ≡ []) ⊎ InPieces reader more

-- they are none, or nothing waits and they were read in pieces
abbrev pub WaitedFor : Reading → (more waiting : List ℕ) → Type 0
WaitedFor reader more waiting = (more ≡ []) ⊎ ((waiting ≡ []) × InPieces reader more)

-- what an input's counts tell of how reading ended
pub record Tells (ends ends' faults faults' : ℕ) (filled : Filled) : Type 0 where
  pub later_ends : ends ≤ ends'
  pub later_faults : faults ≤ faults'
  pub ended : filled ≡ filleds.End → Rose ends ends'
  pub failed : filled ≡ filleds.Fault → Rose faults faults'

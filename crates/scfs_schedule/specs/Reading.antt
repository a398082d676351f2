use Rattle.std.specs.Prelude.{◌≡◌, ℕ, ◌+◌, ◌<◌, ◌≤◌, List, [], ◌∷◌, ◌++◌, Bool, true, false, ◌||◌, nat_lt, if◌then◌else◌, Option, Some, None, Result, Ok, Err, length, take}
use Rattle.scfs_base.specs.Limits.{input_limit, line_limit}
use Rattle.scfs_base.specs.Pieces.{pieces}
use Rattle.scfs_schedule.specs.declared.types.Header.{Header}
use Rattle.scfs_schedule.specs.declared.types.Event.{Event}
use Rattle.scfs_schedule.specs.declared.types.BadKind.{BadKind}
use Rattle.scfs_schedule.specs.declared.types.BadKind.TheVariants as kinds
use Rattle.scfs_schedule.specs.declared.types.Ending.{Ending}
use Rattle.scfs_schedule.specs.declared.types.Ending.TheVariants as endings
use Rattle.scfs_schedule.specs.declared.types.Item.{Item}
use Rattle.scfs_schedule.specs.declared.types.Item.TheVariants as items
use Rattle.scfs_schedule.specs.declared.types.Place.{Place}
use Rattle.scfs_schedule.specs.declared.types.Place.TheVariants as places
use Rattle.scfs_schedule.specs.declared.types.Said.{Said}
use Rattle.scfs_schedule.specs.declared.types.Said.TheVariants as saids
use Rattle.scfs_schedule.specs.declared.types.Stop.{Stop}
use Rattle.scfs_schedule.specs.declared.types.Stop.TheVariants as stops
use Rattle.scfs_schedule.specs.declared.types.Which.TheVariants as whichs
use Rattle.scfs_schedule.specs.Grammar.{said_of, IsEvent, IsHeader, IsScriptEvent}

-- what a text says: its header, its events, and how it ends
pub record Read : Type 0 where
  pub header : Option Header
  pub events : List Event
  pub ending : Ending

-- the header before what follows
abbrev pub with_header : Header → Read → Read
with_header header read = record read { header = Some header }

-- an event before what follows
abbrev pub with_event : Event → Read → Read
with_event event read = record read { events = event ∷ read.events }

-- nothing more, and this ending
abbrev pub stopped : Ending → Read
stopped ending = record { header = None; events = []; ending = ending }

-- the stop at a line that is not allowed
abbrev pub bad_line : ℕ → BadKind → Ending
bad_line line kind = endings.Stopped (stops.Bad (record { line = line; kind = kind }))

-- a line that is longer than any line may be
abbrev pub is_too_long : List ℕ → Bool
is_too_long line = nat_lt line_limit (length line)

-- the stop at a line that is too long
abbrev pub long_line : Read
long_line = stopped (endings.Stopped (stops.TooLarge whichs.Line))

-- how a text ends whose line of this number is not whole: it may be longer than what is looked at
abbrev pub unfinished : Bool → ℕ → Ending
unfinished true line = endings.Stopped (stops.TooLarge whichs.Input)
unfinished false line = bad_line line kinds.End

-- what follows a line that says this, at a place and with that number; `rest` is what the further lines say from a place on
abbrev pub after : Said → Place → ℕ → (Place → Read) → Read
after (saids.Moves next) place line rest = rest next
after (saids.Begins header) place line rest = with_header header (rest (places.Events header))
after (saids.Says event) place line rest = with_event event (rest place)
after saids.Ends place line rest = stopped endings.Ended
after (saids.Wrong kind) place line rest = stopped (bad_line line kind)

-- what the lines say from a place on, with so many lines before them; the last piece is no whole line
abbrev pub read_lines : Bool → Bool → Place → ℕ → List (List ℕ) → Read
read_lines script longer place lines [] = stopped (unfinished longer (lines + 1))
read_lines script longer place lines (last ∷ []) =
    if is_too_long last then long_line else stopped (unfinished longer (lines + 1))
read_lines script longer place lines (line ∷ next ∷ rest) =
    if is_too_long line then long_line
    else after (said_of script place line) place (lines + 1) (λ p. read_lines script longer p (lines + 1) (next ∷ rest))

-- what a text says, as a schedule or as a script: at most the first input_limit bytes are looked at
abbrev pub read : Bool → List ℕ → Read
read script text = read_lines script (nat_lt input_limit (length text)) places.Version 0 (pieces 10 (take input_limit text))

-- where a reader stands: whether it reads a script, its place in the text, how many lines are behind it, the bytes that it holds, how many more it
-- may take, whether there were more than it may take, and the ending that it met
pub record Reading : Type 0 where
  pub script : Bool
  pub place : Place
  pub lines : ℕ
  pub rest : List ℕ
  pub room : ℕ
  pub longer : Bool
  pub ending : Option Ending

-- a new reader of a schedule or of a script
abbrev pub unread : Bool → Reading
unread script = record { script = script; place = places.Version; lines = 0; rest = []; room = input_limit; longer = false; ending = None }

abbrev pub unless_ended : Option Ending → Read → Read
unless_ended None read = read
unless_ended (Some ending) read = stopped ending

-- what a reader still gives when these bytes are fed to it
abbrev pub gives : Reading → List ℕ → Read
gives reading more =
    unless_ended reading.ending
    (read_lines reading.script (reading.longer || nat_lt reading.room (length more)) reading.place reading.lines
    (pieces 10 (reading.rest ++ take reading.room more)))

-- how the text ends if nothing more is fed and no whole line is held
abbrev pub ending_now : Reading → Option Ending → Ending
ending_now reading None = unfinished reading.longer (reading.lines + 1)
ending_now reading (Some ending) = ending

-- the stop of an ending, if it isn't the text's own end
abbrev pub stop_of : Ending → Option Stop
stop_of endings.Ended = None
stop_of (endings.Stopped stop) = Some stop

-- nothing is left to be given of what was fed
abbrev pub IsDrained : Reading → Type 0
IsDrained reading = gives reading [] ≡ stopped (ending_now reading reading.ending)

-- it gave its header
abbrev pub IsAtEvents : Reading → Header → Type 0
IsAtEvents reading header = reading.place ≡ places.Events header

-- a reader that stopped gives that stop from then on; after want of memory it is only dropped
abbrev pub Stops : Stop → Reading → Reading → Type 0
Stops stops.Memory old new = Unit {0}
Stops (stops.Bad bad) old new =
    (new.ending ≡ Some (endings.Stopped (stops.Bad bad))) × IsDrained new
    × ((more : List ℕ) → gives old more ≡ stopped (endings.Stopped (stops.Bad bad)))
Stops (stops.TooLarge which) old new =
    (new.ending ≡ Some (endings.Stopped (stops.TooLarge which))) × IsDrained new
    × ((more : List ℕ) → gives old more ≡ stopped (endings.Stopped (stops.TooLarge which)))

-- before an answer a reader gave what it gives after it, with the item in front; `more` is what is fed later
abbrev pub Gives : Result (Option Item) Stop → Reading → Reading → Type 0
Gives (Ok (Some (items.Header header))) old new =
    IsHeader header × IsAtEvents new header × ((h : Header) → ¬ IsAtEvents old h)
    × (length new.rest < length old.rest) × (old.ending ≡ None) × (new.ending ≡ None)
    × ((more : List ℕ) → gives old more ≡ with_header header (gives new more)) × (new.lines ≡ length header.agents + 5)
Gives (Ok (Some (items.Event event))) old new =
    (header : Header) × (IsAtEvents old header × IsAtEvents new header × IsEvent header event
    × (length new.rest < length old.rest) × (old.ending ≡ None) × (new.ending ≡ None)
    × ((more : List ℕ) → gives old more ≡ with_event event (gives new more)) × (new.lines ≡ old.lines + 1)
    × (old.script ≡ true → IsScriptEvent event))
Gives (Ok (Some items.End)) old new =
    (header : Header) × (IsAtEvents old header × (new.ending ≡ Some endings.Ended) × IsDrained new
    × ((more : List ℕ) → gives old more ≡ stopped endings.Ended) × (old.ending ≡ None → new.lines ≡ old.lines + 1))
Gives (Ok None) old new =
    IsDrained new × (old.ending ≡ None) × (new.ending ≡ None) × (new.longer ≡ false)
    × ((h : Header) → IsAtEvents old h → IsAtEvents new h) × ((h : Header) → IsAtEvents new h → IsAtEvents old h)
    × ((more : List ℕ) → gives old more ≡ gives new more) × (length new.rest ≤ line_limit)
    × ((h : Header) → IsAtEvents old h → new.lines ≡ old.lines)
Gives (Err stop) old new = Stops stop old new

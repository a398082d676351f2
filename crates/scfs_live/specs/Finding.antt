-- What a whole line of an old journal is.
use Rattle.std.specs.Prelude.{ℕ, List, [], ◌∷◌, codes, slice_get, Bool, false, ◌==◌, if◌then◌else◌, Option, Some, None, Result, Ok, Err}
use Rattle.std.specs.Str.{bytes_eq}
use Rattle.scfs_schedule.specs.Grammar.{IsEvent, event_of, words_of}
use Rattle.scfs_schedule.specs.declared.types.BadKind.{BadKind}
use Rattle.scfs_schedule.specs.declared.types.Event.{Event}
use Rattle.scfs_schedule.specs.declared.types.Header.{Header}
use Rattle.scfs_world.specs.Built.{is_built}
use Rattle.scfs_live.specs.declared.awaited.Awaited.{Awaited}
use Rattle.scfs_live.specs.declared.finding.Found.{Found}
use Rattle.scfs_live.specs.declared.finding.Found.TheVariants as founds

-- whether a line ends with `~`
abbrev pub is_left_out : List ℕ → Bool
is_left_out [] = false
is_left_out (byte ∷ []) = byte == 126
is_left_out (byte ∷ next ∷ rest) = is_left_out (next ∷ rest)

-- stands for a line that is not there
abbrev pub no_line : List ℕ
no_line = codes "-"

-- a kept line beside the one that was made
abbrev pub compared : (same : Found) → (kept made : List ℕ) → Found
compared same kept made = if bytes_eq kept made then same else founds.Differs kept made

-- a line that began with a space, where this line of the last event is the next to be kept, or none is
abbrev pub kept_found : (made : Option (List ℕ)) → (kept : List ℕ) → Found
kept_found None kept = founds.Differs kept no_line
kept_found (Some made) kept = compared founds.KeepsLine kept made

-- The line of an event. None that the program can do comes while a line of the last event is still to be kept; one that it can't do yet
-- is told at once, as a line that is not allowed is.
abbrev pub event_found : (made : Option (List ℕ)) → Result Event BadKind → Found
event_found made (Err kind) = founds.Wrong kind
event_found None (Ok event) = founds.Does event
event_found (Some made) (Ok event) = if is_built event then founds.Differs no_line made else founds.Does event

-- the event that a line states under a header, or why it states none
abbrev pub event_read : Header → List ℕ → Result Event BadKind
event_read header line = event_of header (words_of line)

-- a line behind the header
abbrev pub body_found : Header → (made : Option (List ℕ)) → List ℕ → Found
body_found header made [] = event_found made (event_read header [])
body_found header made (byte ∷ rest) = if byte == 32 then kept_found made rest else event_found made (event_read header (byte ∷ rest))

-- a line, where this line of the header is the next to be kept, or none is
abbrev pub line_found : Header → (of_header made : Option (List ℕ)) → List ℕ → Found
line_found header (Some first) made line = compared founds.KeepsHeader line first
line_found header None made line = body_found header made line

-- what a whole line is, where these lines are still to be kept
abbrev pub found : Header → Awaited → List ℕ → Found
found header awaited line =
    if is_left_out line then founds.LeftOut else line_found header (slice_get awaited.header 0) (slice_get awaited.lines 0) line

-- an event is one of the header's agents and clouds
abbrev pub IsUnder : Header → Found → Type 0
IsUnder header (founds.Does event) = IsEvent header event
IsUnder header other = Unit {0}

-- Going on behind a journal that was left.
use Rattle.std.specs.Prelude.{◌≡◌, ◌<◌, ℕ, ◌+◌, List, [], ◌∷◌, ◌++◌, map, true, length, if◌then◌else◌, Ok}
use Rattle.scfs_base.specs.Limits.{events_limit}
use Rattle.scfs_schedule.specs.Text.{event_text, header_text}
use Rattle.scfs_schedule.specs.declared.types.Header.{Header}
use Rattle.scfs_model.specs.History.{Entry, History}
use Rattle.scfs_world.specs.Built.{is_built}
use Rattle.scfs_live.specs.declared.awaited.Awaited.{Awaited}
use Rattle.scfs_live.specs.Finding.{event_read, is_left_out}
use Rattle.scfs_live.specs.Keeping.{made_line, whole_lines}
use Rattle.scfs_live.specs.Reopening.{Walk, Walks, unwalked}

-- the lines of an event in a journal
abbrev pub event_lines : History → Entry → List (List ℕ)
event_lines past e = event_text e.event ∷ map (λ line. 32 ∷ made_line (length past + 1) line) e.lines

-- the lines of a journal
abbrev pub journal_lines : Header → History → List (List ℕ)
journal_lines header [] = whole_lines (header_text header)
journal_lines header (e ∷ past) = journal_lines header past ++ event_lines past e

-- the lines that are not left out
abbrev pub kept_lines : List (List ℕ) → List (List ℕ)
kept_lines [] = []
kept_lines (line ∷ lines) = if is_left_out line then kept_lines lines else line ∷ kept_lines lines

-- the lines that are still to be kept, as they stand in a journal
abbrev pub awaited_lines : Awaited → List (List ℕ)
awaited_lines awaited = awaited.header ++ map (λ line. 32 ∷ line) awaited.lines

-- each event of a history is read again from its line, the program can do it, and they are not too many
abbrev pub AreDone : Header → History → Type 0
AreDone header [] = Unit {0}
AreDone header (e ∷ past) =
    (event_read header (event_text e.event) ≡ Ok e.event) × (is_built e.event ≡ true) × (length past < events_limit) × AreDone header past

-- so it is of the events of an old journal that was run again
abbrev pub WalkedAreDone : Type 0
WalkedAreDone =
    (header : Header) (lines : List (List ℕ)) (place : Walk) → Walks header (unwalked header) lines place → AreDone header place.past

-- the lines of an old journal that was run again are those of its history: the ones that are not left out, and those still to be kept
abbrev pub WalkedAreKept : Type 0
WalkedAreKept =
    (header : Header) (lines : List (List ℕ)) (place : Walk) → Walks header (unwalked header) lines place
    → kept_lines lines ++ awaited_lines place.awaited ≡ journal_lines header place.past

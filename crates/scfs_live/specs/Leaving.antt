-- What a stop leaves of a journal, whatever the byte at which it stops.
use Rattle.std.specs.Prelude.{◌≡◌, ℕ, List, ◌++◌}
use Rattle.scfs_schedule.specs.Holding.{is_unfinished}
use Rattle.scfs_schedule.specs.declared.types.Header.{Header}
use Rattle.scfs_model.specs.History.{History}
use Rattle.scfs_live.specs.GoingOn.{awaited_lines, journal_lines, kept_lines}
use Rattle.scfs_live.specs.Journal.{pieces_of}
use Rattle.scfs_live.specs.Keeping.{missing, whole_lines}
use Rattle.scfs_live.specs.Reopening.{Walk}

-- what is left of the journal of a history: the whole lines that are not left out are the first of its lines
abbrev pub IsLeft : Header → History → (text : List ℕ) → Type 0
IsLeft header past text = (later : List (List ℕ)) × (journal_lines header past ≡ kept_lines (whole_lines text) ++ later)

-- An old journal was run again to a place. Behind it came a front of what was missing and of the pieces of new events, as any stop leaves
-- it: then it is left of the journal with these events.
abbrev pub StopsLeaveJournals : Type 0
StopsLeaveJournals =
    (header : Header) (place : Walk) (new : History) (old front back : List ℕ)
    → kept_lines (whole_lines old) ++ awaited_lines place.awaited ≡ journal_lines header place.past
    → missing (is_unfinished old) place.awaited ++ pieces_of new place.past ≡ front ++ back
    → IsLeft header (new ++ place.past) (old ++ front)

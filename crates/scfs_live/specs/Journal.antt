use Rattle.std.specs.Prelude.{ℕ, ◌+◌, List, [], ◌∷◌, ◌++◌, length}
use Rattle.std.specs.List.{flat_map}
use Rattle.scfs_schedule.specs.declared.types.Header.{Header}
use Rattle.scfs_schedule.specs.declared.types.Line.{Line}
use Rattle.scfs_schedule.specs.Text.{event_text, header_text, numbered}
use Rattle.scfs_model.specs.History.{Entry, History}

-- an event's lines on out, behind a history
abbrev pub entry_lines : History → Entry → List ℕ
entry_lines past e = flat_map (numbered (length past + 1)) e.lines

-- a line of the transcript as it stands in a journal
abbrev pub kept_line : ℕ → Line → List ℕ
kept_line number line = 32 ∷ numbered number line

-- an event's piece of the journal: its line, and then its lines of the transcript
abbrev pub entry_piece : History → Entry → List ℕ
entry_piece past e = event_text e.event ++ 10 ∷ flat_map (kept_line (length past + 1)) e.lines

-- the pieces of new events behind an old history, and their lines
abbrev pub pieces_of : (new old : History) → List ℕ
pieces_of [] old = []
pieces_of (e ∷ new) old = pieces_of new old ++ entry_piece (new ++ old) e

abbrev pub lines_of : (new old : History) → List ℕ
lines_of [] old = []
lines_of (e ∷ new) old = lines_of new old ++ entry_lines (new ++ old) e

-- the text of a journal
abbrev pub journal : Header → History → List ℕ
journal header past = header_text header ++ pieces_of past []

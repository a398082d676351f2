-- The lines that were made and are still to be kept.
use Rattle.std.specs.Prelude.{ℕ, List, [], ◌∷◌, ◌++◌, codes, drop, Bool, true, false}
use Rattle.std.specs.Fmt.{decimal}
use Rattle.std.specs.List.{flat_map}
use Rattle.scfs_base.specs.Pieces.{pieces}
use Rattle.scfs_schedule.specs.declared.types.Header.{Header}
use Rattle.scfs_schedule.specs.declared.types.Line.{Line}
use Rattle.scfs_schedule.specs.Text.{header_text, line_text}
use Rattle.scfs_live.specs.declared.awaited.Awaited.{Awaited}

-- a list without its last element
abbrev pub all_but_last : List (List ℕ) → List (List ℕ)
all_but_last [] = []
all_but_last (line ∷ []) = []
all_but_last (line ∷ next ∷ rest) = line ∷ all_but_last (next ∷ rest)

-- the lines of a text that a byte 0a ends
abbrev pub whole_lines : List ℕ → List (List ℕ)
whole_lines text = all_but_last (pieces 10 text)

-- a line of the transcript without its byte 0a
abbrev pub made_line : ℕ → Line → List ℕ
made_line number line = decimal number ++ 32 ∷ line_text line

-- of a header no line is kept yet
abbrev pub unkept : Header → Awaited
unkept header = record { header = whole_lines (header_text header); lines = [] }

-- one line more of the header is kept
abbrev pub without_header_line : Awaited → Awaited
without_header_line awaited = record awaited { header = drop 1 awaited.header }

-- one line more of the last event is kept
abbrev pub without_line : Awaited → Awaited
without_line awaited = record awaited { lines = drop 1 awaited.lines }

-- a line of a header as it stands in a journal
abbrev pub ended : List ℕ → List ℕ
ended line = line ++ 10 ∷ []

-- a line of the transcript as it stands in a journal
abbrev pub ended_kept : List ℕ → List ℕ
ended_kept line = 32 ∷ line ++ 10 ∷ []

-- the lines as they stand in a journal
abbrev pub awaited_text : Awaited → List ℕ
awaited_text awaited = flat_map ended awaited.header ++ flat_map ended_kept awaited.lines

-- the end of an unfinished line
abbrev pub mark_if : (unfinished : Bool) → List ℕ
mark_if true = codes "~\n"
mark_if false = []

-- what is written first: the end of an unfinished line, and the lines that are missing
abbrev pub missing : (unfinished : Bool) → Awaited → List ℕ
missing unfinished awaited = mark_if unfinished ++ awaited_text awaited

-- A journal as a schedule.
use Rattle.std.specs.Prelude.{◌≡◌, ◌≤◌, ℕ, List, [], ◌∷◌, ◌++◌, codes, length, false, ◌==◌, if◌then◌else◌, Some, None}
use Rattle.std.specs.List.{flat_map}
use Rattle.scfs_base.specs.Limits.{input_limit}
use Rattle.scfs_schedule.specs.Grammar.{IsHeader}
use Rattle.scfs_schedule.specs.Reading.{read}
use Rattle.scfs_schedule.specs.Written.{AreAgents}
use Rattle.scfs_schedule.specs.declared.types.Ending.TheVariants as endings
use Rattle.scfs_schedule.specs.declared.types.Header.{Header}
use Rattle.scfs_model.specs.History.{events_then}
use Rattle.scfs_live.specs.GoingOn.{kept_lines}
use Rattle.scfs_live.specs.Keeping.{ended}
use Rattle.scfs_live.specs.Reopened.{old_lines}
use Rattle.scfs_live.specs.Reopening.{Walk, Walks, unwalked}

-- the lines that do not begin with a space
abbrev pub unspaced : List (List ℕ) → List (List ℕ)
unspaced [] = []
unspaced ([] ∷ lines) = [] ∷ unspaced lines
unspaced ((byte ∷ line) ∷ lines) = if byte == 32 then unspaced lines else (byte ∷ line) ∷ unspaced lines

-- a journal's lines that neither begin with a space nor end with `~`, and the line `end`
abbrev pub schedule_of : List (List ℕ) → List ℕ
schedule_of lines = flat_map ended (unspaced (kept_lines lines)) ++ codes "end\n"

-- Of an old journal that was run again, and has its whole header, that text is a schedule, if it is within the limit of an input: it is
-- read as the header and the events of the history. Each agent's seed is 32 bytes, as its type has it.
abbrev pub JournalsAreSchedules : Type 0
JournalsAreSchedules =
    (header : Header) (text : List ℕ) (place : Walk) → IsHeader header → AreAgents header.agents → (old_lines text).passed ≡ None
    → Walks header (unwalked header) (old_lines text).lines place → place.awaited.header ≡ []
    → length (schedule_of (old_lines text).lines) ≤ input_limit
    → read false (schedule_of (old_lines text).lines)
    ≡ record { header = Some header; events = events_then place.past []; ending = endings.Ended }

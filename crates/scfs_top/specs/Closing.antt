use Rattle.std.specs.Prelude.{ℕ, List, [], ◌++◌, codes, Option, Some, None}
use Rattle.std.specs.Fmt.{decimal}
use Rattle.scfs_schedule.specs.declared.types.BadKind.{BadKind}
use Rattle.scfs_schedule.specs.declared.types.BadKind.TheVariants as kinds
use Rattle.scfs_schedule.specs.declared.types.Ending.TheVariants as endings
use Rattle.scfs_schedule.specs.declared.types.Stop.{Stop}
use Rattle.scfs_schedule.specs.declared.types.Stop.TheVariants as stops
use Rattle.scfs_schedule.specs.declared.types.Which.{Which}
use Rattle.scfs_schedule.specs.declared.types.Which.TheVariants as whichs
use Rattle.scfs_top.specs.declared.closing.LastLine.{LastLine}
use Rattle.scfs_top.specs.declared.closing.LastLine.TheVariants as lasts
use Rattle.scfs_top.specs.declared.closing.Status.{Status}
use Rattle.scfs_top.specs.declared.closing.Status.TheVariants as statuses
use Rattle.scfs_top.specs.declared.closing.LineFault.{LineFault}
use Rattle.scfs_top.specs.declared.closing.LineFault.TheVariants as faults
use Rattle.scfs_top.specs.declared.closing.Finish.{Finish}
use Rattle.scfs_top.specs.declared.closing.Finish.TheVariants as finishes
use Rattle.scfs_top.specs.declared.closing.Filled.{Filled}
use Rattle.scfs_top.specs.declared.closing.Filled.TheVariants as filleds

-- the exit status
abbrev pub status_number : Status → ℕ
status_number statuses.Done = 0
status_number statuses.Usage = 2
status_number statuses.BadInput = 3
status_number statuses.ReadFault = 4
status_number statuses.WriteFault = 5
status_number statuses.TooLarge = 6
status_number statuses.Differs = 7
status_number statuses.Memory = 9

-- what is wrong with a line
abbrev pub fault_text : LineFault → List ℕ
fault_text (faults.Bad kinds.End) = codes "end"
fault_text (faults.Bad kinds.Order) = codes "order"
fault_text (faults.Bad kinds.Word) = codes "word"
fault_text (faults.Bad kinds.Number) = codes "number"
fault_text (faults.Bad kinds.Hex) = codes "hex"
fault_text (faults.Bad kinds.Path) = codes "path"
fault_text faults.Unbuilt = codes "unbuilt"

-- what has a limit, or failed
abbrev pub which_text : Which → List ℕ
which_text whichs.Events = codes "events"
which_text whichs.Input = codes "input"
which_text whichs.Journal = codes "journal"
which_text whichs.Line = codes "line"
which_text whichs.Objects = codes "objects"
which_text whichs.Out = codes "out"

-- the line that says how it ended
abbrev pub stop_text : LastLine → List ℕ
stop_text (lasts.Done events) = codes "stop 0 " ++ decimal events ++ codes "\n"
stop_text lasts.Usage = codes "stop 2 usage\n"
stop_text (lasts.BadInput line fault) = codes "stop 3 input " ++ decimal line ++ codes " " ++ fault_text fault ++ codes "\n"
stop_text (lasts.BadJournal line fault) = codes "stop 3 journal " ++ decimal line ++ codes " " ++ fault_text fault ++ codes "\n"
stop_text (lasts.ReadFault which) = codes "stop 4 " ++ which_text which ++ codes "\n"
stop_text (lasts.TooLarge which) = codes "stop 6 " ++ which_text which ++ codes "\n"
stop_text (lasts.Differs line kept made) = codes "stop 7 journal " ++ decimal line ++ codes "\n"

-- a line that shows another under a word
abbrev pub shown_text : (word line : List ℕ) → List ℕ
shown_text word line = word ++ line ++ codes "\n"

-- the lines that differ
abbrev pub differing_text : LastLine → List ℕ
differing_text (lasts.Differs line kept made) = shown_text (codes "kept ") kept ++ shown_text (codes "made ") made
differing_text other = []

-- the last line, and behind it the two that differ
abbrev pub last_line_text : LastLine → List ℕ
last_line_text last = stop_text last ++ differing_text last

abbrev pub status_of : LastLine → Status
status_of (lasts.Done events) = statuses.Done
status_of lasts.Usage = statuses.Usage
status_of (lasts.BadInput line fault) = statuses.BadInput
status_of (lasts.BadJournal line fault) = statuses.BadInput
status_of (lasts.ReadFault which) = statuses.ReadFault
status_of (lasts.TooLarge which) = statuses.TooLarge
status_of (lasts.Differs line kept made) = statuses.Differs

-- the text ends in this line: that is known only where a read gave the end; a fault, or the limit, comes before; while reading is
-- open, the line is read on
abbrev pub end_closing : ℕ → Filled → Option LastLine
end_closing line filleds.End = Some (lasts.BadInput line (faults.Bad kinds.End))
end_closing line filleds.Fault = Some (lasts.ReadFault whichs.Input)
end_closing line filleds.Full = Some (lasts.TooLarge whichs.Input)
end_closing line filleds.Open = None

-- a line that is not allowed
abbrev pub bad_closing : ℕ → BadKind → Filled → Option LastLine
bad_closing line kinds.End filled = end_closing line filled
bad_closing line kinds.Order filled = Some (lasts.BadInput line (faults.Bad kinds.Order))
bad_closing line kinds.Word filled = Some (lasts.BadInput line (faults.Bad kinds.Word))
bad_closing line kinds.Number filled = Some (lasts.BadInput line (faults.Bad kinds.Number))
bad_closing line kinds.Hex filled = Some (lasts.BadInput line (faults.Bad kinds.Hex))
bad_closing line kinds.Path filled = Some (lasts.BadInput line (faults.Bad kinds.Path))

abbrev pub stop_closing : Stop → Filled → Option LastLine
stop_closing (stops.Bad bad) filled = bad_closing bad.line bad.kind filled
stop_closing (stops.TooLarge which) filled = Some (lasts.TooLarge which)
stop_closing stops.Memory filled = None

-- the last line of a run of so many events, by how what is played of its text ends and how reading it ended; none for want
-- of memory
abbrev pub closing_of : ℕ → Finish → Filled → Option LastLine
closing_of events (finishes.Text endings.Ended) filled = Some (lasts.Done events)
closing_of events (finishes.Text (endings.Stopped stop)) filled = stop_closing stop filled
closing_of events (finishes.Unbuilt line) filled = Some (lasts.BadInput line faults.Unbuilt)
closing_of events finishes.Events filled = Some (lasts.TooLarge whichs.Events)
closing_of events finishes.Objects filled = Some (lasts.TooLarge whichs.Objects)

abbrev pub closing_text : Option LastLine → List ℕ
closing_text None = []
closing_text (Some line) = last_line_text line

abbrev pub closing_status : Option LastLine → Status
closing_status None = statuses.Memory
closing_status (Some line) = status_of line

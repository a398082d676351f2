use Rattle.std.proofs.Common.{◌≡◌, ℕ, List, ◌++◌, refl, subst, Option, Some, None}
use Rattle.scfs_base.specs.Outside.{Puts}
use Rattle.scfs_schedule.specs.declared.types.Ending.TheVariants as endings
use Rattle.scfs_schedule.specs.declared.types.BadKind.{BadKind}
use Rattle.scfs_schedule.specs.declared.types.BadKind.TheVariants as kinds
use Rattle.scfs_schedule.specs.declared.types.Stop.{Stop}
use Rattle.scfs_schedule.specs.declared.types.Stop.TheVariants as stops
use Rattle.scfs_live.specs.Edges.{GetsPart}
use Rattle.scfs_top.specs.declared.closing.Finish.{Finish}
use Rattle.scfs_top.specs.declared.closing.Finish.TheVariants as finishes
use Rattle.scfs_top.specs.declared.closing.Filled.{Filled}
use Rattle.scfs_top.specs.declared.closing.Filled.TheVariants as filleds
use Rattle.scfs_top.specs.Closing.{end_closing, bad_closing, stop_closing, closing_of, closing_status, closing_text, last_line_text, status_of}
use Rattle.scfs_top.specs.declared.closing.Status.{Status}
use Rattle.scfs_top.specs.declared.closing.Status.TheVariants as statuses
use Rattle.scfs_top.specs.declared.closing.LastLine.{LastLine}
use Rattle.scfs_top.specs.Headline.{IsStatus, last_line}
use Rattle.scfs_top.proofs.EdgeLemmas.{puts_then, then_part}

-- the last line behind a text, where there is one
pub line_behind : (a b c : Option (List ℕ)) (x : List ℕ) (last : LastLine) (closing : Option LastLine) → Some last ≡ closing → Puts a b x
    → Puts b c (last_line_text last) → Puts a c (x ++ closing_text closing)
line_behind a b c x last closing is p q = subst (λ (o : Option LastLine). Puts a c (x ++ closing_text o)) is (puts_then a b c x (last_line_text last) p q)

-- and not all of it
pub part_behind : (a b c : Option (List ℕ)) (x : List ℕ) (last : LastLine) (closing : Option LastLine) → Some last ≡ closing → Puts a b x
    → GetsPart b c (last_line_text last) → GetsPart a c (x ++ closing_text closing)
part_behind a b c x last closing is p q = subst (λ (o : Option LastLine). GetsPart a c (x ++ closing_text o)) is (then_part a b c x (last_line_text last) p q)

-- its status
pub status_behind : (status : Status) (last : LastLine) (closing : Option LastLine) → Some last ≡ closing → status ≡ status_of last → status ≡ closing_status closing
status_behind status last closing is same = subst (λ (o : Option LastLine). status ≡ closing_status o) is same

-- a replayed text never ends with the line of a wrong command
usage_end : (line : ℕ) (filled : Filled) → statuses.Usage ≡ closing_status (end_closing line filled) → ⊥
usage_end line filleds.End h = cc
usage_end line filleds.Fault h = cc
usage_end line filleds.Full h = cc
usage_end line filleds.Open h = cc

usage_bad : (line : ℕ) (kind : BadKind) (filled : Filled) → statuses.Usage ≡ closing_status (bad_closing line kind filled) → ⊥
usage_bad line kinds.End filled h = usage_end line filled h
usage_bad line kinds.Order filled h = cc
usage_bad line kinds.Word filled h = cc
usage_bad line kinds.Number filled h = cc
usage_bad line kinds.Hex filled h = cc
usage_bad line kinds.Path filled h = cc

usage_stop : (stop : Stop) (filled : Filled) → statuses.Usage ≡ closing_status (stop_closing stop filled) → ⊥
usage_stop (stops.Bad bad) filled h = usage_bad bad.line bad.kind filled h
usage_stop (stops.TooLarge which) filled h = cc
usage_stop stops.Memory filled h = cc

usage_closing : (count : ℕ) (finish : Finish) (filled : Filled) → statuses.Usage ≡ closing_status (closing_of count finish filled) → ⊥
usage_closing count (finishes.Text endings.Ended) filled h = cc
usage_closing count (finishes.Text (endings.Stopped stop)) filled h = usage_stop stop filled h
usage_closing count (finishes.Unbuilt line) filled h = cc
usage_closing count finishes.Events filled h = cc
usage_closing count finishes.Objects filled h = cc

usage_last : (count : ℕ) (finish : Option Finish) (filled : Filled) → statuses.Usage ≡ closing_status (last_line count finish filled) → ⊥
usage_last count None filled h = cc
usage_last count (Some finish) filled h = usage_closing count finish filled h

pub never_usage : (count : ℕ) (finish : Option Finish) (filled : Filled) (status : Status) → IsStatus status (last_line count finish filled) → status ≡ statuses.Usage → ⊥
never_usage count finish filled status is same = usage_last count finish filled (subst (λ s. IsStatus s (last_line count finish filled)) same is)

-- a read fault is told only where a read failed
fault_end : (line : ℕ) (filled : Filled) → statuses.ReadFault ≡ closing_status (end_closing line filled) → filled ≡ filleds.Fault
fault_end line filleds.End h = cc
fault_end line filleds.Fault h = refl
fault_end line filleds.Full h = cc
fault_end line filleds.Open h = cc

fault_bad : (line : ℕ) (kind : BadKind) (filled : Filled) → statuses.ReadFault ≡ closing_status (bad_closing line kind filled) → filled ≡ filleds.Fault
fault_bad line kinds.End filled h = fault_end line filled h
fault_bad line kinds.Order filled h = cc
fault_bad line kinds.Word filled h = cc
fault_bad line kinds.Number filled h = cc
fault_bad line kinds.Hex filled h = cc
fault_bad line kinds.Path filled h = cc

fault_stop : (stop : Stop) (filled : Filled) → statuses.ReadFault ≡ closing_status (stop_closing stop filled) → filled ≡ filleds.Fault
fault_stop (stops.Bad bad) filled h = fault_bad bad.line bad.kind filled h
fault_stop (stops.TooLarge which) filled h = cc
fault_stop stops.Memory filled h = cc

fault_closing : (count : ℕ) (finish : Finish) (filled : Filled) → statuses.ReadFault ≡ closing_status (closing_of count finish filled) → filled ≡ filleds.Fault
fault_closing count (finishes.Text endings.Ended) filled h = cc
fault_closing count (finishes.Text (endings.Stopped stop)) filled h = fault_stop stop filled h
fault_closing count (finishes.Unbuilt line) filled h = cc
fault_closing count finishes.Events filled h = cc
fault_closing count finishes.Objects filled h = cc

fault_last : (count : ℕ) (finish : Option Finish) (filled : Filled) → statuses.ReadFault ≡ closing_status (last_line count finish filled) → filled ≡ filleds.Fault
fault_last count None filled h = cc
fault_last count (Some finish) filled h = fault_closing count finish filled h

pub read_fault : (count : ℕ) (finish : Option Finish) (filled : Filled) (status : Status) → IsStatus status (last_line count finish filled) → status ≡ statuses.ReadFault → filled ≡ filleds.Fault
read_fault count finish filled status is same = fault_last count finish filled (subst (λ s. IsStatus s (last_line count finish filled)) same is)

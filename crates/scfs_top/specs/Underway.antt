-- A run of a script underway: what was read of the script.
use Rattle.std.specs.Prelude.{◌≡◌, ◌≤◌, ◌⊎◌, ℕ, ◌+◌, List, [], ◌∷◌, ◌++◌, true, length, Some, Result, Ok, Err}
use Rattle.scfs_base.specs.Limits.{input_limit}
use Rattle.scfs_base.specs.Outside.{Takes}
use Rattle.scfs_schedule.specs.Reading.{IsAtEvents, Read, gives, read, with_header}
use Rattle.scfs_schedule.specs.declared.types.Event.{Event}
use Rattle.scfs_schedule.specs.declared.types.Header.{Header}
use Rattle.scfs_world.specs.Built.{is_built_header}
use Rattle.scfs_live.specs.Able.{CanBeGiven}
use Rattle.scfs_live.specs.declared.ending.LiveEnd.TheVariants as lives
use Rattle.scfs_top.specs.declared.intake.Intake.{Intake}
use Rattle.scfs_top.specs.declared.stopping.RunEnd.{RunEnd}
use Rattle.scfs_top.specs.declared.stopping.RunEnd.TheVariants as runs
use Rattle.scfs_top.specs.Outer.{SourceView}
use Rattle.scfs_top.specs.Playing.{Playing, header_lines}
use Rattle.scfs_top.specs.Running.{EndsInHeader, KeepsToHeader, ReadsScript, filled_of_run}
use Rattle.scfs_top.specs.Scripting.{AreBuilt, IsSplit, script_of}

-- events before those that a text says
abbrev pub with_events : List Event → Read → Read
with_events done said = record said { events = done ++ said.events }

-- A script so far: the bytes taken say this header, these events, and what is given later; the program can do all of them.
pub record ScriptSoFar (input input' : SourceView) (intake : Intake) (header : Header) (done : List Event) : Type 0 where
  pub taken : List ℕ
  pub takes : Takes input.left input'.left taken
  pub room : length taken + intake.room ≡ input_limit + 1
  pub says : (later : List ℕ) → read true (taken ++ later) ≡ with_header header (with_events done (gives intake.reader later))
  pub place : IsAtEvents intake.reader header
  pub lines : intake.reader.lines ≡ header_lines header + length done
  pub header_built : is_built_header header ≡ true
  pub built : AreBuilt done
  pub later_ends : input.ends ≤ input'.ends
  pub later_faults : input.faults ≤ input'.faults

-- the script's header was read; or it ended the run
abbrev pub ReadsHeader : (input input' : SourceView) → Intake → Result Header RunEnd → Type 0
ReadsHeader input input' intake (Ok header) = (so_far : ScriptSoFar input input' intake header []) × KeepsToHeader so_far.taken
ReadsHeader input input' intake (Err end) =
    (taken : List ℕ) × ReadsScript input input' taken (filled_of_run end) × EndsInHeader end (script_of taken) × KeepsToHeader taken

-- the bytes taken are at most one piece more than early ones that say these events
pub record Reached (done : List Event) (taken : List ℕ) : Type 0 where
  pub split : IsSplit taken
  pub events : (script_of split.early).events ≡ done

-- no more bytes were taken, or they were in pieces
abbrev pub ReachesOn : (done : List Event) → (taken taken' : List ℕ) → Type 0
ReachesOn done taken taken' = (taken' ≡ taken) ⊎ Reached done taken'

-- how the script ended the run behind these events, with so many in the whole run; or memory was wanting
abbrev pub EndsScript : RunEnd → Header → (done : List Event) → (count : ℕ) → (script : Playing) → Type 0
EndsScript (runs.Finished total finish filled) header done count script =
    (total ≡ count) × (script ≡ record { header = Some header; events = done; finish = finish })
EndsScript (runs.Stopped lives.Memory) header done count script = (rest : List Event) × (script.header ≡ Some header) × (script.events ≡ done ++ rest)
EndsScript (runs.Stopped other) header done count script = ⊥

-- a script gave one event more; or it ended the run
abbrev pub GivesEvent : (taken : List ℕ) → (input input' : SourceView) → Intake → Header → (done : List Event) → (count : ℕ) → Result Event RunEnd → Type 0
GivesEvent taken input input' intake header done count (Ok event) =
    (next : ScriptSoFar input input' intake header (done ++ event ∷ [])) × ReachesOn done taken next.taken × CanBeGiven header event
GivesEvent taken input input' intake header done count (Err end) =
    (taken' : List ℕ) × ReadsScript input input' taken' (filled_of_run end) × ReachesOn done taken taken' × EndsScript end header done count (script_of taken')

-- What is driven of a script: its events up to the first that the program can't do yet.
use Rattle.std.specs.Prelude.{◌≡◌, ◌≤◌, ℕ, ◌+◌, List, [], ◌∷◌, ◌++◌, length, true, Option, Some, None, if◌then◌else◌}
use Rattle.scfs_schedule.specs.declared.types.Ending.{Ending}
use Rattle.scfs_schedule.specs.declared.types.Event.{Event}
use Rattle.scfs_schedule.specs.declared.types.Header.{Header}
use Rattle.scfs_schedule.specs.Reading.{Read, read}
use Rattle.scfs_world.specs.Built.{is_built, is_built_header}
use Rattle.scfs_top.specs.declared.closing.Finish.TheVariants as finishes
use Rattle.scfs_top.specs.Pace.{IsUnfinished, piece_limit}
use Rattle.scfs_top.specs.Playing.{Playing, before_event, finished, header_lines, under_header}

-- what is driven of events, the first of which stands in the line of this number
abbrev pub events_driven : (line : ℕ) → List Event → Ending → Playing
events_driven line [] ending = finished (finishes.Text ending)
events_driven line (event ∷ events) ending =
    if is_built event then before_event event (events_driven (line + 1) events ending) else finished (finishes.Unbuilt line)

-- what is driven under a header; one that the program can't do yet ends it at its line `begin`
abbrev pub driven_under : Header → List Event → Ending → Playing
driven_under header events ending =
    if is_built_header header then under_header header (events_driven (header_lines header + 1) events ending)
    else finished (finishes.Unbuilt (header_lines header))

abbrev pub driven_from : Option Header → List Event → Ending → Playing
driven_from None events ending = finished (finishes.Text ending)
driven_from (Some header) events ending = driven_under header events ending

-- what is driven of what a text says
abbrev pub driven : Read → Playing
driven said = driven_from said.header said.events said.ending

-- what is driven of a script of these bytes
abbrev pub script_of : List ℕ → Playing
script_of taken = driven (read true taken)

-- The bytes taken of a script are early ones and at most one piece; no line of the early ones ends what is driven.
pub record IsSplit (taken : List ℕ) : Type 0 where
  pub early : List ℕ
  pub piece : List ℕ
  pub whole : taken ≡ early ++ piece
  pub few : length piece ≤ piece_limit
  pub goes_on : IsUnfinished (script_of early)

-- the program can do each of these events
abbrev pub AreBuilt : List Event → Type 0
AreBuilt [] = Unit {0}
AreBuilt (event ∷ events) = (is_built event ≡ true) × AreBuilt events

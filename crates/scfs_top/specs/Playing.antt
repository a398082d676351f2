-- What is played of a text: its events up to the first item that the program can't do yet, and no more than the limit.
use Rattle.std.specs.Prelude.{ℕ, ◌+◌, List, [], ◌∷◌, length, Option, Some, None, ◌==◌, if◌then◌else◌}
use Rattle.scfs_base.specs.Limits.{events_limit}
use Rattle.scfs_schedule.specs.declared.types.Header.{Header}
use Rattle.scfs_schedule.specs.declared.types.Event.{Event}
use Rattle.scfs_schedule.specs.declared.types.Ending.{Ending}
use Rattle.scfs_schedule.specs.Reading.{Read}
use Rattle.scfs_top.specs.declared.closing.Finish.{Finish}
use Rattle.scfs_top.specs.declared.closing.Finish.TheVariants as finishes
use Rattle.scfs_world.specs.Built.{is_built_header, is_built}

-- the header and the events that are played, and how that ends
pub record Playing : Type 0 where
  pub header : Option Header
  pub events : List Event
  pub finish : Finish

-- the header before what follows
abbrev pub under_header : Header → Playing → Playing
under_header header playing = record playing { header = Some header }

-- an event before what follows
abbrev pub before_event : Event → Playing → Playing
before_event event playing = record playing { events = event ∷ playing.events }

-- nothing more, and this finish
abbrev pub finished : Finish → Playing
finished finish = record { header = None; events = []; finish = finish }

-- whether what is played ends before an event, behind so many others; it stands in the line of this number
abbrev pub finish_at : (line count : ℕ) → Event → Option Finish
finish_at line count event =
    if is_built event then (if count == events_limit then Some finishes.Events else None) else Some (finishes.Unbuilt line)

-- an event before what follows, unless it ends what is played
abbrev pub unless_finished : Option Finish → Event → Playing → Playing
unless_finished (Some finish) event rest = finished finish
unless_finished None event rest = before_event event rest

-- what is played of events behind so many others; the first of them stands in the line of this number
abbrev pub events_played : (line count : ℕ) → List Event → Ending → Playing
events_played line count [] ending = finished (finishes.Text ending)
events_played line count (event ∷ events) ending =
    unless_finished (finish_at line count event) event (events_played (line + 1) (count + 1) events ending)

-- how many lines a header has: the version, f, lease and stale, a line for each agent, and `begin`
abbrev pub header_lines : Header → ℕ
header_lines header = length header.agents + 5

-- what is played under a header; one that the program can't do yet ends it at its line `begin`
abbrev pub played_under : Header → List Event → Ending → Playing
played_under header events ending =
    if is_built_header header then under_header header (events_played (header_lines header + 1) 0 events ending)
    else finished (finishes.Unbuilt (header_lines header))

abbrev pub played_from : Option Header → List Event → Ending → Playing
played_from None events ending = finished (finishes.Text ending)
played_from (Some header) events ending = played_under header events ending

-- what is played of what a text says
abbrev pub played : Read → Playing
played read = played_from read.header read.events read.ending

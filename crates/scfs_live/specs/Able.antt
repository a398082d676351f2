-- What a drive can be given, and what can come next in it.
use Rattle.std.specs.Prelude.{◌≡◌, ◌<◌, ◌+◌, ◌*◌, length, true, None, IfSome}
use Rattle.scfs_anchor.specs.Tree.{Each}
use Rattle.scfs_schedule.specs.Grammar.{IsEvent, IsScriptEvent}
use Rattle.scfs_schedule.specs.declared.types.Event.{Event}
use Rattle.scfs_schedule.specs.declared.types.Header.{Header}
use Rattle.scfs_world.specs.Built.{is_built}
use Rattle.scfs_live.specs.Driving.{Driver}
use Rattle.scfs_live.specs.Given.{IsWork}
use Rattle.scfs_live.specs.Waits.{Waits, request_waits}
use Rattle.scfs_live.specs.declared.driver.Next.{Next}
use Rattle.scfs_live.specs.declared.driver.Next.TheVariants.{Does, Hears}

-- an event that can be done under a header
pub record CanBeDone (header : Header) (event : Event) : Type 0 where
  pub fits : IsEvent header event
  pub built : is_built event ≡ true

-- an event that a drive can be given: one of a script
pub record CanBeGiven (header : Header) (event : Event) : Type 0 where
  pub done : CanBeDone header event
  pub script : IsScriptEvent event

-- what comes next can be done: its event can, or a request waits at its cloud
abbrev pub CanBeNext : Header → Waits → Next → Type 0
CanBeNext header waits (Does event) = CanBeDone header event
CanBeNext header waits (Hears c) = (c < 3 * header.f + 1) × (request_waits waits c ≡ true)

-- a driver under a header, once what was given is done: it is to work at agents and clouds that there are
pub record Fits (header : Header) (driver : Driver) : Type 0 where
  pub given : driver.given ≡ None
  pub work : Each (IsWork (length header.agents) (3 * header.f + 1)) driver.work
  pub called : IfSome driver.called (λ a. a < length header.agents)

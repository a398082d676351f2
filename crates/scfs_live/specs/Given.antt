-- What the calls of a driver give.
use Rattle.std.specs.Prelude.{◌≡◌, ◌<◌, ℕ, List, [], Option, Some, None}
use Rattle.scfs_live.specs.declared.driver.Next.{Next}
use Rattle.scfs_live.specs.declared.driver.Work.{Work}
use Rattle.scfs_live.specs.declared.driver.Work.TheVariants.{Serve, Tell, TellRest, Ask, Hand, HandRest}
use Rattle.scfs_live.specs.Driving.{Driver}

-- work at one of so many agents and clouds
abbrev pub IsWork : (agents clouds : ℕ) → Work → Type 0
IsWork agents clouds (Serve a) = a < agents
IsWork agents clouds (Tell a) = a < agents
IsWork agents clouds (TellRest a) = a < agents
IsWork agents clouds (Ask c) = c < clouds
IsWork agents clouds (Hand c) = c < clouds
IsWork agents clouds (HandRest c) = c < clouds

-- what a call gave and left of a round is what was to come of it
abbrev pub GivesWork : Option (Next × List Work) → Option Next → List Work → Type 0
GivesWork due None after = (due ≡ None) × (after ≡ [])
GivesWork due (Some next) after = due ≡ Some (next, after)

-- what a call gave, and where the driver is then, is what comes next
abbrev pub GivesNext : Option (Next × Driver) → Option Next → Driver → Type 0
GivesNext due None after = due ≡ None
GivesNext due (Some next) after = due ≡ Some (next, after)

use Rattle.std.specs.Prelude.{◌≡◌, ℕ, ◌+◌, ◌≤◌, length}
use Rattle.scfs_schedule.specs.declared.types.Header.{Header}
use Rattle.scfs_schedule.specs.declared.types.Place.{Place}
use Rattle.scfs_schedule.specs.declared.types.Place.TheVariants as places
use Rattle.scfs_schedule.specs.declared.types.Said.{Said}
use Rattle.scfs_schedule.specs.declared.types.Said.TheVariants as saids
use Rattle.scfs_schedule.specs.Grammar.{IsEvent, IsHeader}

-- what was read up to a place is in its ranges
abbrev pub IsPlace : Place → Type 0
IsPlace places.Version = Unit {0}
IsPlace places.Faults = Unit {0}
IsPlace (places.Lease f) = (1 ≤ f) × (f ≤ 3)
IsPlace (places.Stale f lease) = (1 ≤ f) × (f ≤ 3) × (1 ≤ lease) × (lease ≤ 1000000000)
IsPlace (places.Agents header) =
    (1 ≤ header.f) × (header.f ≤ 3) × (1 ≤ header.lease) × (header.lease ≤ 1000000000) × (header.stale ≤ 1000000000)
    × (length header.agents ≤ 8)
IsPlace (places.Events header) = IsHeader header

-- a place in the header
abbrev pub IsInHeader : Place → Type 0
IsInHeader (places.Events header) = ⊥
IsInHeader place = Unit {0}

-- how many lines of the header stand before a place: five and one for each agent before the first event
abbrev pub header_lines : Place → ℕ
header_lines places.Version = 0
header_lines places.Faults = 1
header_lines (places.Lease f) = 2
header_lines (places.Stale f lease) = 3
header_lines (places.Agents header) = length header.agents + 4
header_lines (places.Events header) = length header.agents + 5

-- so many lines may stand before a place
abbrev pub IsBehind : Place → ℕ → Type 0
IsBehind (places.Events header) lines = length header.agents + 5 ≤ lines
IsBehind place lines = lines ≡ header_lines place

-- what a line can say at a place: a line of the header moves on in it or ends it, only a line behind it is an event or the end
abbrev pub IsSaidAt : Place → Said → Type 0
IsSaidAt place (saids.Wrong kind) = Unit {0}
IsSaidAt place (saids.Moves next) = IsInHeader place × IsInHeader next × IsPlace next × (header_lines next ≡ header_lines place + 1)
IsSaidAt place (saids.Begins header) = IsInHeader place × IsHeader header × (length header.agents + 5 ≡ header_lines place + 1)
IsSaidAt (places.Events header) (saids.Says event) = IsEvent header event
IsSaidAt (places.Events header) saids.Ends = Unit {0}
IsSaidAt place said = ⊥

-- the same values, and one agent more
pub record IsWithOneMore (header longer : Header) : Type 0 where
  pub f : longer.f ≡ header.f
  pub lease : longer.lease ≡ header.lease
  pub stale : longer.stale ≡ header.stale
  pub one_more : length longer.agents ≡ length header.agents + 1

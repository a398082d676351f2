use Rattle.std.specs.Prelude.{◌≡◌, ℕ, ◌<◌, List, Option, Some, None, length}
use Rattle.std.specs.List.{remove}
use Rattle.scfs_tuples.specs.After.{Tested, Passed, Failed}
use Rattle.scfs_tuples.specs.Matching.{first_match, without_first}
use Rattle.scfs_tuples.specs.declared.types.Field.{Field}
use Rattle.scfs_tuples.specs.declared.types.Tuple.{Tuple}
use Rattle.scfs_tuples.specs.declared.types.Want.{Want}
use Rattle.scfs_tuples.specs.declared.picking.Found.{Found}
use Rattle.scfs_tuples.specs.declared.testing.Verdict.{Verdict}
use Rattle.scfs_tuples.specs.declared.testing.Verdict.TheVariants as verdicts
use Rattle.scfs_tuples.specs.declared.plain.Outcome.{Outcome}
use Rattle.scfs_tuples.specs.declared.plain.Outcome.TheVariants as outcomes

-- what was found is the first match, at its place in the list
abbrev pub IsFirst : List Want → List Tuple → List Field → Option Found → Type 0
IsFirst ws ts bound None = first_match ws ts bound ≡ None
IsFirst ws ts bound (Some found) =
    (found.at < length ts)
    × (first_match ws ts bound ≡ Some (record { tuple = found.tuple; bound = found.bound }))
    × (without_first ws ts bound ≡ remove ts found.at)

-- after a condition that holds testing goes on, after one that fails it ends
abbrev pub goes_on : Verdict → ℕ → Tested → Tested
goes_on verdicts.Holds at later = later
goes_on (verdicts.Fails tuple) at later = Failed at tuple

-- what testing came to, as the code keeps it
abbrev pub tested_of : Outcome → Tested
tested_of (outcomes.Passed standing) = Passed standing.bound standing.taken standing.left
tested_of (outcomes.Failed index tuple) = Failed index tuple

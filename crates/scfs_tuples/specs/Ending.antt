use Rattle.std.specs.Prelude.{ℕ, List}
use Rattle.scfs_tuples.specs.After.{Tested, Passed, Failed}
use Rattle.scfs_tuples.specs.Bound.{row_looks}
use Rattle.scfs_tuples.specs.Filed.{tuples_of}
use Rattle.scfs_tuples.specs.Trial.{left_in}
use Rattle.scfs_tuples.specs.declared.acting.Ending.{Ending}
use Rattle.scfs_tuples.specs.declared.acting.Ending.TheVariants as endings
use Rattle.scfs_tuples.specs.declared.trial.Trial.{Trial}
use Rattle.scfs_tuples.specs.declared.types.Pattern.{Pattern}
use Rattle.scfs_tuples.specs.declared.types.Tuple.{Tuple}

-- what a trial came to in which every condition held
abbrev pub passed : Trial → List (ℕ × Tuple) → Tested
passed trial es = Passed trial.bound trial.taken (left_in trial es)

-- what testing came to over these entries, as the code keeps it
abbrev pub ended_in : List (ℕ × Tuple) → Ending → Tested
ended_in es (endings.Passed trial) = passed trial es
ended_in es (endings.Failed index tuple) = Failed index tuple

-- the looks that may follow
abbrev pub looks_left : List (ℕ × Tuple) → List Pattern → Ending → ℕ
looks_left es all (endings.Passed trial) = row_looks trial.bound (tuples_of es) all
looks_left es all (endings.Failed index tuple) = 0

-- What each measure leaves.
use Rattle.std.specs.Prelude.{ℕ, List, Option, Some, None}
use Rattle.scfs_bench.specs.declared.Work.{Work}
use Rattle.scfs_bench.specs.declared.Work.TheVariants.{Rows, Contents, Steps, Sealed, Read}
use Rattle.scfs_bench.specs.Rounds.{pattern, start, rounds_of}
use Rattle.scfs_bench.specs.Contents.{contents_after}
use Rattle.scfs_bench.specs.Commits.{done_after}

-- the bytes of which a measure over n bytes prints the digest; of the measures of units and of texts they are not told
abbrev pub bytes_after : ℕ → Work → ℕ → Option (List ℕ)
bytes_after n (Rows measure) times = Some (rounds_of measure times (start n)).bytes
bytes_after n (Contents code) times = Some (contents_after code times (pattern n))
bytes_after n (Steps crowd) times = Some (done_after crowd times)
bytes_after n (Sealed unit) times = None
bytes_after n (Read text) times = None

-- What the measures of the erasure code make of contents.
use Rattle.std.specs.Prelude.{ℕ, zero, suc, ◌*◌, List, ◌++◌, take, drop}
use Rattle.scfs_erasure.specs.Rows.{piece}
use Rattle.scfs_bench.specs.declared.codes.Code.{Code}
use Rattle.scfs_bench.specs.declared.codes.Code.TheVariants.{Encode, Decode}
use Rattle.scfs_bench.specs.declared.codes.Faults.{Faults}
use Rattle.scfs_bench.specs.declared.codes.Faults.TheVariants.{One, Three}

-- f
abbrev pub faults_of : Faults → ℕ
faults_of One = 1
faults_of Three = 3

-- the contents with the first 32 bytes of their last block, number 3f, in place of their own first 32
abbrev pub with_last_block : ℕ → List ℕ → List ℕ
with_last_block f contents = take 32 (piece f contents (3 * f)) ++ drop 32 contents

-- the contents after this has been done a number of times
unfoldable pub encoded_times : ℕ → ℕ → List ℕ → List ℕ
encoded_times f zero contents = contents
encoded_times f (suc n) contents = with_last_block f (encoded_times f n contents)

-- what a measure makes of contents: decoding gives them back
abbrev pub contents_after : Code → ℕ → List ℕ → List ℕ
contents_after (Encode faults) times contents = encoded_times (faults_of faults) times contents
contents_after (Decode faults) times contents = contents

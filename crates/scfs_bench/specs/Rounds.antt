-- What a round of each measure makes of two rows of bytes, the bytes and those before them.
use Rattle.std.specs.Prelude.{ℕ, zero, suc, ◌%◌, List, ◌++◌, map, take, drop}
use Rattle.std.specs.List.{range_with_len}
use Rattle.sha2.specs.Sha256.{sha256}
use Rattle.scfs_gf256.specs.Rows.{row_sum, scaled}
use Rattle.scfs_stream.specs.Stream.{ciphered}
use Rattle.scfs_bench.specs.declared.measures.Measure.{Measure}
use Rattle.scfs_bench.specs.declared.measures.Measure.TheVariants.{Digest, Stream, Row}

-- the bytes and those before them
pub record Rows : Type 0 where
  pub bytes : List ℕ
  pub before : List ℕ

abbrev pub rows : List ℕ → List ℕ → Rows
rows bytes before = record { bytes = bytes; before = before }

-- n bytes to begin with: the byte at each place is what is left of it on division by 251
unfoldable pub pattern : ℕ → List ℕ
pattern n = map (λ place. place % 251) (range_with_len 0 n)

-- the bytes with their digest in place of the first 32
abbrev pub with_digest : List ℕ → List ℕ
with_digest bytes = sha256 bytes ++ drop 32 bytes

-- the bytes encrypted under the key that their first 32 are
abbrev pub with_own_stream : List ℕ → List ℕ
with_own_stream bytes = ciphered (take 32 bytes) bytes

-- one round
abbrev pub round_of : Measure → Rows → Rows
round_of Digest r = rows (with_digest r.bytes) r.before
round_of Stream r = rows (with_own_stream r.bytes) r.before
round_of Row r = rows (row_sum r.before (scaled 29 r.bytes)) r.bytes

-- both rows after a number of rounds
unfoldable pub rounds_of : Measure → ℕ → Rows → Rows
rounds_of measure zero r = r
rounds_of measure (suc n) r = round_of measure (rounds_of measure n r)

-- n bytes of the pattern in each row
abbrev pub start : ℕ → Rows
start n = rows (pattern n) (pattern n)

use Rattle.std.specs.Prelude.{ℕ, ◌-◌, ◌^◌, List, [], length, Option, Some, None, min, slice_get, ◌==◌, if◌then◌else◌, replicate}
use Rattle.scfs_base.specs.declared.naming.Digest.{Digest}
use Rattle.scfs_tuples.specs.declared.types.Field.{Field}
use Rattle.scfs_tuples.specs.declared.types.Field.TheVariants.{Num, Text}

-- the number that a field holds, 0 where it holds none
abbrev pub number_in : Option Field → ℕ
number_in None = 0
number_in (Some (Num n)) = n
number_in (Some (Text bytes)) = 0

-- the text that a field holds, no bytes where it holds none
abbrev pub text_in : Option Field → List ℕ
text_in None = []
text_in (Some (Num n)) = []
text_in (Some (Text bytes)) = bytes

-- the number at a place
abbrev pub number_at : List Field → ℕ → ℕ
number_at fields at = number_in (slice_get fields at)

-- as a number of 32 bits, the greatest where it is greater
abbrev pub small_at : List Field → ℕ → ℕ
small_at fields at = min (number_at fields at) (2 ^ 32 - 1)

-- as a number of 8 bits, the greatest where it is greater
abbrev pub byte_at : List Field → ℕ → ℕ
byte_at fields at = min (number_at fields at) (2 ^ 8 - 1)

-- the text at a place
abbrev pub text_at : List Field → ℕ → List ℕ
text_at fields at = text_in (slice_get fields at)

-- 32 bytes, or zeros for a text of another length
abbrev pub as_digest : List ℕ → List ℕ
as_digest bytes = if length bytes == 32 then bytes else replicate 32 0

-- the digest at a place
abbrev pub digest_at : List Field → ℕ → Digest
digest_at fields at = record { 0 = as_digest (text_at fields at) }

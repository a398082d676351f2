-- What is drawn from a generator's seed.
use Rattle.std.specs.Prelude.{ℕ, ◌*◌, List, [], ◌∷◌, replicate, nat_le, if◌then◌else◌}
use Rattle.scfs_stream.specs.declared.sealing.Draw.{Draw}
use Rattle.scfs_stream.specs.Stream.{stream, stream_part}

-- the coefficients of a power: its own 32 bytes of the stream, or zeros where it is above f
abbrev pub drawn_row : List ℕ → ℕ → ℕ → List ℕ
drawn_row seed f power = if nat_le power f then stream_part seed (32 * power) 32 else replicate 32 0

-- the key is the first 32 bytes of the stream, which are 8 words, and a power's coefficients are the 32 bytes that
-- follow those of the power below it
abbrev pub drawn : List ℕ → ℕ → Draw
drawn seed f = record {
  key = stream seed 32;
  coefficients = record { rows = drawn_row seed f 1 ∷ drawn_row seed f 2 ∷ drawn_row seed f 3 ∷ [] };
}

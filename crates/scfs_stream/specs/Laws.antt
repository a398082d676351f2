-- What holds of the stream and of what is encrypted with it.
use Rattle.std.specs.Prelude.{◌≡◌, ℕ, ◌*◌, List}
use Rattle.std.specs.Int.{w32, to_le_bytes}
use Rattle.std.specs.List.{flat_map, range_with_len}
use Rattle.scfs_stream.specs.Stream.{stream_word, stream, ciphered}

-- what is encrypted twice under one key is what it was
abbrev pub UndoesItself : Type 0
UndoesItself = (key bytes : List ℕ) → ciphered key (ciphered key bytes) ≡ bytes

-- the stream is its words in order, each with the low byte first
abbrev pub IsMadeOfWords : Type 0
IsMadeOfWords = (key : List ℕ) (n : ℕ) →
    stream key (4 * n) ≡ flat_map (λ place. to_le_bytes w32 (stream_word key place)) (range_with_len 0 n)

-- The keystream: the words of ChaCha20 at stream 0, each with its low byte first.
use Rattle.std.specs.Prelude.{ℕ, ◌/◌, ◌%◌, List, length, map, bit_xor}
use Rattle.std.specs.Int.{byte_at}
use Rattle.std.specs.List.{range_with_len}
use Rattle.std.specs.Simd.Lanes.{zip2}
use Rattle.rand_chacha.specs.ChaCha.{word_at, key_of}

-- the word at a place of a key's stream, after 20 rounds, which are 10 double rounds
abbrev pub stream_word : List ℕ → ℕ → ℕ
stream_word key place = word_at 10 (key_of key) 0 place

-- byte i of a key's stream: four for each word, the low byte first
unfoldable pub stream_byte : List ℕ → ℕ → ℕ
stream_byte key i = byte_at (i % 4) (stream_word key (i / 4))

-- n bytes of a key's stream, from a byte on
unfoldable pub stream_part : List ℕ → ℕ → ℕ → List ℕ
stream_part key from n = map (stream_byte key) (range_with_len from n)

-- the first n bytes of a key's stream
abbrev pub stream : List ℕ → ℕ → List ℕ
stream key n = stream_part key 0 n

-- the bytes with as many of the stream added, by exclusive or
abbrev pub ciphered : List ℕ → List ℕ → List ℕ
ciphered key bytes = zip2 bit_xor bytes (stream key (length bytes))

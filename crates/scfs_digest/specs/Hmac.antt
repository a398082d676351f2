-- HMAC (RFC 2104) over SHA-256, for keys of at most a block, which is 64 bytes.
use Rattle.std.specs.Prelude.{ℕ, ◌-◌, List, ◌++◌, length, map, replicate, bit_xor}
use Rattle.sha2.specs.Sha256.{sha256}

-- the key, filled with zeros to a block
abbrev pub key_block : List ℕ → List ℕ
key_block key = key ++ replicate (64 - length key) 0

-- the pad added to each byte, by exclusive or
abbrev pub added : ℕ → List ℕ → List ℕ
added pad block = map (λ byte. bit_xor byte pad) block

-- the tag of a text: the digest of the key with the outer pad, before the digest of the key with the inner pad
-- before the text
abbrev pub hmac : List ℕ → List ℕ → List ℕ
hmac key text = sha256 (added 0x5c (key_block key) ++ sha256 (added 0x36 (key_block key) ++ text))

use Rattle.std.proofs.Common.{◌≡◌, ◌*◌}
use Rattle.rand_chacha.specs.ChaCha.{of_seed}
use Rattle.scfs_stream.proofs.CipherSteps.{IsCipheredTo}
use Rattle.scfs_stream.proofs.cipher.xor_stream.Given as goal

abbrev pub invariant-words : goal.invariant-words
invariant-words l =
    (l.rng ≡ record (of_seed l.key) { word_pos = l.place })
    × IsCipheredTo l.key l.initial.bytes l.bytes (4 * l.place)

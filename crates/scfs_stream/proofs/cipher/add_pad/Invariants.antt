use Rattle.std.proofs.Common.{◌≡◌, ℕ, ◌<◌, ◌≤◌, get_or}
use Rattle.std.specs.Prelude.{bit_xor}
use Rattle.scfs_stream.proofs.cipher.add_pad.Given as goal

abbrev pub invariant-loop-k : goal.invariant-loop-k
invariant-loop-k l =
    ((j : ℕ) → j < l.k → get_or l.bytes j 0 ≡ bit_xor (get_or l.initial.bytes j 0) (get_or l.pad j 0))
    × ((j : ℕ) → l.k ≤ j → get_or l.bytes j 0 ≡ get_or l.initial.bytes j 0)

use Rattle.std.proofs.Common.{◌≡◌, ℕ, ◌<◌, length, get_or}
use Rattle.std.specs.Int.Bits.{bit_xor}
use Rattle.scfs_gf256.specs.Field.{times}
use Rattle.scfs_shamir.proofs.recovery.quotients.Given as goal

abbrev pub invariant-loop-at : goal.invariant-loop-at
invariant-loop-at l = record {
  three : length l.quotients ≡ 3;
  front : (k : ℕ) → k < l.at
      → times (get_or l.xs k 0) (get_or l.quotients k 0) ≡ bit_xor (get_or l.ys k 0) l.constant;
}

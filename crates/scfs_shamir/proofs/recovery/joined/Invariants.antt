use Rattle.std.proofs.Common.{◌≡◌, ℕ, ◌<◌, length, drop, map, replicate, get_or}
use Rattle.scfs_gf256.specs.Rows.{add_multiples}
use Rattle.scfs_gf256.specs.Interpolation.{lagrange_factors}
use Rattle.scfs_shamir.specs.declared.sharing.Share.{Share}
use Rattle.scfs_shamir.specs.Recovery.{IsRow}
use Rattle.scfs_shamir.proofs.recovery.joined.Given as goal

abbrev pub invariant-loop-place : goal.invariant-loop-place
invariant-loop-place l =
    let factors = lagrange_factors l.points 0 in
    let held = map (λ (share : Share). share.bytes) l.shares in
    record {
      long : length l.key ≡ 32;
      rows : (k : ℕ) → k < l.place → (other : Share) → IsRow (get_or l.shares k other).bytes;
      sums : add_multiples l.key (drop l.place factors) (drop l.place held)
          ≡ add_multiples (replicate 32 0) factors held;
    }

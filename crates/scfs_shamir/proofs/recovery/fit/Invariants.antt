use Rattle.std.proofs.Common.{◌≡◌, ℕ, ◌<◌, ◌∷◌, length, get_or}
use Rattle.scfs_gf256.specs.Polynomials.{IsOnlyFit}
use Rattle.scfs_shamir.specs.declared.sharing.Share.{Share}
use Rattle.scfs_shamir.specs.Recovery.{points_of, bytes_at, fitted_polynomial}
use Rattle.scfs_shamir.proofs.recovery.fit.Given as goal

abbrev pub invariant-loop-place : goal.invariant-loop-place
invariant-loop-place l = record {
  linear_long : length l.linear ≡ 32;
  quadratic_long : length l.quadratic ≡ 32;
  cubic_long : length l.cubic ≡ 32;
  linear : (k : ℕ) → k < l.place → get_or l.linear k 0 ≡ get_or (fitted_polynomial l.shares l.key k) 1 0;
  quadratic : (k : ℕ) → k < l.place → get_or l.quadratic k 0 ≡ get_or (fitted_polynomial l.shares l.key k) 2 0;
  cubic : (k : ℕ) → k < l.place → get_or l.cubic k 0 ≡ get_or (fitted_polynomial l.shares l.key k) 3 0;
  fit : (k : ℕ) → k < l.place → IsOnlyFit (fitted_polynomial l.shares l.key k) (0 ∷ points_of l.shares)
      (get_or l.key k 0 ∷ bytes_at l.shares k);
  long : 0 < l.place → (k : ℕ) (d : Share) → k < length l.shares → length (get_or l.shares k d).bytes ≡ 32;
}

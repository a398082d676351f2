use Rattle.std.proofs.Common.{◌≡◌, bit_xor, drop}
use Rattle.scfs_gf256.specs.Rows.{dot_product}
use Rattle.scfs_gf256.specs.Interpolation.{lagrange_factors}
use Rattle.scfs_gf256.proofs.polynomials.interpolate_at.Given as goal

abbrev pub invariant-loop-place : goal.invariant-loop-place
invariant-loop-place l =
    let factors = lagrange_factors l.xs l.x in
    bit_xor l.value (dot_product (drop l.place factors) (drop l.place l.ys)) ≡ dot_product factors l.ys

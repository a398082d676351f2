use Rattle.std.proofs.Common.{◌≡◌, length, drop}
use Rattle.scfs_gf256.specs.Rows.{add_multiples}
use Rattle.scfs_gf256.specs.Interpolation.{lagrange_factors}
use Rattle.scfs_erasure.specs.Blocks.{bytes_of}
use Rattle.scfs_erasure.proofs.combining.add_rows.Given as goal

abbrev pub invariant-loop-place : goal.invariant-loop-place
invariant-loop-place l =
    let factors = lagrange_factors l.places l.x in
    let rows = bytes_of l.blocks in
    record {
      long : length l.into ≡ length l.fn.into;
      sums : add_multiples l.into (drop l.place factors) (drop l.place rows)
          ≡ add_multiples l.fn.into factors rows;
    }

use Rattle.std.proofs.Common.{◌≡◌, ◌^◌, ◌%◌}
use Rattle.scfs_gf256.specs.Field.{times, power}
use Rattle.scfs_gf256.proofs.field.mul.Given as goal

abbrev pub invariant-loop-place : goal.invariant-loop-place
invariant-loop-place l = record {
  product : l.product ≡ times l.a (l.b % 2 ^ l.place);
  shifted : l.shifted ≡ times l.a (power 2 l.place);
}

use Rattle.std.proofs.Common.{◌*◌, ◌/◌, ◌^◌, bit_xor, bit_and, sym, ap, ap₂, ◌∙◌, arith}
use Rattle.scfs_gf256.specs.Field.{times, power}
use Rattle.scfs_gf256.proofs.Times.{times-one}
use Rattle.scfs_gf256.proofs.Steps.{times-no_bits, times-next_bit, times-power_of_x}
use Rattle.scfs_gf256.proofs.field.mul.Goals as goal

pub loop-place-init : goal.loop-place-init
unfolding power
loop-place-init c =
    record { product = times-no_bits c.args.a c.args.b; shifted = sym (times-one c.args.a (omega arith)) }

pub loop-place-preserved : goal.loop-place-preserved
loop-place-preserved c =
    let a = c.args.a in
    let b = c.args.b in
    let place = c.loop-place.place in
    record {
      product =
          ap₂ (λ p s. bit_xor p (s * bit_and (b / 2 ^ place) 1)) c.loop-place.invariant.product c.loop-place.invariant.shifted
          ∙ times-next_bit a b place (omega arith);
      shifted = c.twice-shifted.ensures ∙ ap (λ s. times s 2) c.loop-place.invariant.shifted
          ∙ times-power_of_x a place;
    }

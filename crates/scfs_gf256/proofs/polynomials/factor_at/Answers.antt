use Rattle.std.proofs.Common.{◌≡◌, ◌+◌, ◌++◌, take, drop, slice_index, sym, ap, ap₂, ◌∙◌, arith}
use Rattle.scfs_gf256.specs.Field.{times, inverse_of}
use Rattle.scfs_gf256.specs.Polynomials.{value_of}
use Rattle.scfs_gf256.specs.Interpolation.{from_roots}
use Rattle.scfs_gf256.proofs.Values.{value_of-lt}
use Rattle.scfs_gf256.proofs.Bytes.{Bytes-AreBytes, Bytes_from_places}
use Rattle.scfs_gf256.proofs.Fitting.{others_not_zero, is_inverse_of, lagrange_factors-at}
use Rattle.scfs_gf256.proofs.polynomials.factor_at.Goals as goal

pub inv-requires : goal.inv-requires
inv-requires c =
    let xs = c.args.xs.now in
    let bytes = Bytes-AreBytes xs (Bytes_from_places xs (λ k l. omega (arith, c.type_inv.xs k))) in
    λ e. others_not_zero xs c.args.place c.requires.inside bytes c.requires.distinct (sym c.product_of_others-own.ensures ∙ e)

pub returns : goal.returns
returns c =
    let xs = c.args.xs.now in
    let place = c.args.place in
    let others = take place xs ++ drop (place + 1) xs in
    let bytes = Bytes-AreBytes xs (Bytes_from_places xs (λ k l. omega (arith, c.type_inv.xs k))) in
    let own = value_of (from_roots others) (slice_index xs place) in
    let inverse : c.inv.result ≡ inverse_of own =
    is_inverse_of own c.inv.result (value_of-lt (from_roots others) (slice_index xs place))
    (others_not_zero xs place c.requires.inside bytes c.requires.distinct) (omega arith)
    (ap (λ o. times o c.inv.result) (sym c.product_of_others-own.ensures) ∙ c.inv.ensures) in
    c.mul.ensures ∙ ap₂ times inverse c.product_of_others.ensures
    ∙ sym (lagrange_factors-at xs c.args.x place c.requires.inside)

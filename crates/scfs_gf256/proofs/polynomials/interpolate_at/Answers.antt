use Rattle.std.proofs.Common.{◌+◌, bit_xor, drop, slice_index, refl, sym, ap, ◌∙◌, arith}
use Rattle.scfs_gf256.proofs.Bytes.{Bytes-AreBytes, Bytes_from_places}
use Rattle.scfs_gf256.proofs.Fitting.{coefficients_of-IsOnlyFit, value_of-coefficients_of, length-lagrange_factors}
use Rattle.scfs_gf256.specs.Interpolation.{lagrange_factors}
use Rattle.scfs_gf256.specs.Rows.{dot_product}
use Rattle.scfs_gf256.proofs.RowLaws.{dot_product-turn, dot_product-end}
use Rattle.scfs_gf256.proofs.polynomials.interpolate_at.Goals as goal

pub loop-place-preserved : goal.loop-place-preserved
loop-place-preserved c =
    let factors = lagrange_factors c.args.xs.now c.args.x in
    let ys = c.args.ys.now in
    let place = c.loop-place.place in
    let value = c.loop-place.value in
    let long = length-lagrange_factors c.args.xs.now c.args.x in
    ap (λ v. bit_xor v (dot_product (drop (place + 1) factors) (drop (place + 1) ys)))
    (c.add-value.ensures ∙ ap (bit_xor value) c.mul.ensures)
    ∙ dot_product-turn factors ys place value c.factor_at.result (slice_index ys place)
    (omega arith) (omega arith) c.factor_at.ensures refl
    ∙ c.loop-place.invariant

pub returns-clause-fit : goal.returns-clause-fit
returns-clause-fit c =
    let xs = c.args.xs.now in
    let ys = c.args.ys.now in
    coefficients_of-IsOnlyFit xs ys
    (Bytes-AreBytes xs (Bytes_from_places xs (λ k l. omega (arith, c.type_inv.xs k))))
    (Bytes-AreBytes ys (Bytes_from_places ys (λ k l. omega (arith, c.type_inv.ys k))))
    c.requires.lengths c.requires.distinct

pub returns-clause-value : goal.returns-clause-value
returns-clause-value c =
    let factors = lagrange_factors c.args.xs.now c.args.x in
    dot_product-end factors c.args.ys.now c.loop-place.place c.loop-place.value (omega arith)
    ∙ c.loop-place.invariant
    ∙ sym (value_of-coefficients_of c.args.xs.now c.args.ys.now c.args.x c.requires.lengths)

use Rattle.std.proofs.Common.{◌∷◌, length, take, arith}
use Rattle.scfs_gf256.specs.Interpolation.{coefficients_of}
use Rattle.scfs_gf256.specs.Polynomials.{AreBytes}
use Rattle.scfs_gf256.proofs.Bytes.{Bytes-AreBytes, Bytes_from_places}
use Rattle.scfs_shamir.proofs.Peeling.{ArePlaces, quotients_taken, peeled, fit_with_zero}
use Rattle.scfs_shamir.proofs.recovery.higher_coefficients.Goals as goal

pub returns-clause-fit : goal.returns-clause-fit
returns-clause-fit c =
    let xs = c.args.xs.now in
    let ys = c.args.ys.now in
    let places : ArePlaces xs = record {
      bytes = Bytes-AreBytes xs (Bytes_from_places xs (λ k l. omega (arith, c.type_inv.xs k)));
      nonzero = c.requires.nonzero;
      distinct = c.requires.distinct;
    } in
    let values = Bytes-AreBytes ys (Bytes_from_places ys (λ k l. omega (arith, c.type_inv.ys k))) in
    fit_with_zero xs ys c.args.constant places values (omega arith) c.requires.lengths

pub returns-clause-coefficients : goal.returns-clause-coefficients
returns-clause-coefficients c =
    let xs = c.args.xs.now in
    let ys = c.args.ys.now in
    let constant = c.args.constant in
    let n = length xs in
    let first = c.quotients-first.result in
    let second = c.quotients-second.result in
    let third = c.quotients-third.result in
    let linear = c.interpolate_at-linear.ensures in
    let quadratic = c.interpolate_at-quadratic.ensures in
    let cubic = c.interpolate_at.ensures in
    let places : ArePlaces xs = record {
      bytes = Bytes-AreBytes xs (Bytes_from_places xs (λ k l. omega (arith, c.type_inv.xs k)));
      nonzero = c.requires.nonzero;
      distinct = c.requires.distinct;
    } in
    let values : AreBytes ys = Bytes-AreBytes ys (Bytes_from_places ys (λ k l. omega (arith, c.type_inv.ys k))) in
    peeled xs ys (take n first) (take n second) (take n third) (coefficients_of (0 ∷ xs) (constant ∷ ys)) constant
    c.interpolate_at-linear.result c.interpolate_at-quadratic.result c.interpolate_at.result places c.requires.some
    (fit_with_zero xs ys constant places values (omega arith) c.requires.lengths).fit
    (quotients_taken xs ys first (coefficients_of xs (take n first)) constant linear.fit c.quotients-first.ensures)
    linear.value
    (quotients_taken xs (take n first) second (coefficients_of xs (take n second)) c.interpolate_at-linear.result
    quadratic.fit c.quotients-second.ensures)
    quadratic.value
    (quotients_taken xs (take n second) third (coefficients_of xs (take n third)) c.interpolate_at-quadratic.result
    cubic.fit c.quotients-third.ensures)
    cubic.value

use Rattle.std.proofs.Common.{◌+◌, take, drop, sym, ap, ap₂, ◌∙◌}
use Rattle.std.proofs.lemmas.List.{take_rest}
use Rattle.scfs_gf256.specs.Field.{times}
use Rattle.scfs_gf256.specs.Polynomials.{value_of}
use Rattle.scfs_gf256.specs.Interpolation.{from_roots}
use Rattle.scfs_gf256.proofs.Lagrange.{value_of-from_roots-append}
use Rattle.scfs_gf256.proofs.polynomials.product_of_others.Goals as goal

pub returns : goal.returns
returns c =
    let xs = c.args.xs.now in
    let place = c.args.place in
    let x = c.args.x in
    c.mul.ensures
    ∙ ap₂ times c.product_at.ensures (c.product_at-2.ensures ∙ ap (λ roots. value_of (from_roots roots) x) (take_rest xs (place + 1)))
    ∙ sym (value_of-from_roots-append (take place xs) (drop (place + 1) xs) x)

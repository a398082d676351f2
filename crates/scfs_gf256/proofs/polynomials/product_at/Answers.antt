use Rattle.std.proofs.Common.{rules, ◌≡◌, bit_xor, ◌∙◌, arith}
use Rattle.std.specs.Prelude.{fold}
use Rattle.scfs_gf256.specs.Field.{times}
use Rattle.scfs_gf256.specs.Polynomials.{value_of}
use Rattle.scfs_gf256.specs.Interpolation.{from_roots}
use Rattle.scfs_gf256.proofs.Times.{one-times}
use Rattle.scfs_gf256.proofs.Values.{value_of-lt}
use Rattle.scfs_gf256.proofs.Steps.{fold-from_roots}
use Rattle.scfs_gf256.proofs.polynomials.product_at.Goals as goal

pub returns : goal.returns
returns c =
    let x = c.args.x in
    let roots = c.args.roots.now in
    let run : c.fold.result ≡ fold (λ product root. times product (bit_xor x root)) 1 roots = search rules in
    run ∙ fold-from_roots x 1 roots (omega arith)
    ∙ one-times (value_of (from_roots roots) x) (value_of-lt (from_roots roots) x)

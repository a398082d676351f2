use Rattle.std.proofs.Common.{rules, ◌≡◌, bit_xor, reverse, ◌∙◌, arith}
use Rattle.std.specs.Prelude.{fold}
use Rattle.scfs_gf256.specs.Field.{times}
use Rattle.scfs_gf256.proofs.Bytes.{Bytes_from_places}
use Rattle.scfs_gf256.proofs.Steps.{fold-horner}
use Rattle.scfs_gf256.proofs.polynomials.value_at.Goals as goal

pub returns : goal.returns
returns c =
    let x = c.args.x in
    let coefficients = c.args.coefficients.now in
    let bytes = Bytes_from_places coefficients (λ k l. omega (arith, c.type_inv.coefficients k)) in
    let run : c.fold.result ≡ fold (λ value coefficient. bit_xor coefficient (times x value)) 0 (reverse coefficients) = search rules in
    run
    ∙ fold-horner x coefficients bytes

use Rattle.std.proofs.Common.{sym, ap, subst, ◌∙◌, arith}
use Rattle.scfs_erasure.specs.Rows.{row_length}
use Rattle.scfs_erasure.specs.Blocks.{AreEnough, contents_from}
use Rattle.scfs_erasure.proofs.ContentLemmas.{AreEnough-some, contents_from-some}
use Rattle.scfs_gf256.specs.Polynomials.{AreBytes}
use Rattle.scfs_bench.proofs.CodeLemmas.{bytes_in}
use Rattle.scfs_bench.proofs.codes.decoded_from.Goals as goal

pub decode-requires-clause-enough : goal.decode-requires-clause-enough
decode-requires-clause-enough c =
    let f = c.args.f in
    let blocks = c.args.blocks.now in
    subst (λ n. AreEnough f (row_length f n) blocks) c.requires.size (AreEnough-some f c.args.contents.now blocks c.requires.blocks)

pub again-preserved : goal.again-preserved
again-preserved c =
    let f = c.args.f in
    let blocks = c.args.blocks.now in
    let contents = c.args.contents.now in
    let bytes : AreBytes contents = bytes_in contents (λ k. omega (arith, c.type_inv.contents k)) in
    c.in_ok-decoded-2.ensures.contents ∙ ap (λ n. contents_from f n blocks) (sym c.requires.size)
    ∙ contents_from-some f contents blocks c.requires.faults bytes c.requires.blocks

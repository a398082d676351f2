use Rattle.std.proofs.Common.{◌≡◌, ◌*◌, length, drop, subst, sym, ap, ◌∙◌, arith}
use Rattle.scfs_erasure.specs.Rows.{row_length}
use Rattle.scfs_erasure.specs.Blocks.{blocks_of, AreEnough}
use Rattle.scfs_erasure.proofs.ContentLemmas.{AreEnough-some}
use Rattle.scfs_erasure.proofs.LastBlocks.{AreSomeOf-last, length-blocks_of}
use Rattle.scfs_erasure.proofs.tests.given_back.Goals as goal

pub split_at-requires : goal.split_at-requires
split_at-requires c =
    let long = ap length (c.as_slice.ensures ∙ c.in_ok-blocks.ensures) ∙ length-blocks_of c.args.f c.args.contents.now in
    omega (arith, long)

pub decode-requires-clause-enough : goal.decode-requires-clause-enough
decode-requires-clause-enough c =
    let f = c.args.f in
    let contents = c.args.contents.now in
    let last : c.split_at.result.1.now ≡ drop (2 * f) (blocks_of f contents) =
    c.split_at.ensures.back
    ∙ ap (λ k. drop (2 * k) c.as_slice.result.now) c.from.ensures
    ∙ ap (drop (2 * f)) (c.as_slice.ensures ∙ c.in_ok-blocks.ensures) in
    subst (AreEnough f (row_length f (length contents))) (sym last)
    (AreEnough-some f contents (drop (2 * f) (blocks_of f contents)) (AreSomeOf-last f contents))

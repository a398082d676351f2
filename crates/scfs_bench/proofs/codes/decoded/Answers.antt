use Rattle.std.proofs.Common.{◌≡◌, ◌*◌, ℕ, List, sym, ap, subst, ◌∙◌, arith}
use Rattle.scfs_erasure.specs.Blocks.{AreSomeOf, blocks_of}
use Rattle.scfs_bench.proofs.CodeLemmas.{how_many, last_blocks}
use Rattle.scfs_bench.proofs.codes.decoded.Goals as goal

pub blocks_from-last-requires : goal.blocks_from-last-requires
blocks_from-last-requires c =
    let all : c.as_slice.result.now ≡ blocks_of c.args.f c.deref.result.now = c.as_slice.ensures ∙ c.in_ok-blocks.ensures in
    omega (arith, how_many c.args.f c.deref.result.now c.as_slice.result.now all, c.from.ensures)

pub decoded_from-requires-clause-blocks : goal.decoded_from-requires-clause-blocks
decoded_from-requires-clause-blocks c =
    let f = c.args.f in
    let contents = c.deref.result.now in
    let all : c.as_slice.result.now ≡ blocks_of f contents = c.as_slice.ensures ∙ c.in_ok-blocks.ensures in
    let from : 2 * c.from.result ≡ 2 * f = ap (λ n. 2 * n) c.from.ensures in
    subst (λ (bytes : List ℕ). AreSomeOf f bytes c.blocks_from-last.result.now) (c.deref.ensures.value ∙ sym c.deref-2.ensures.value)
    (subst (AreSomeOf f contents) (sym c.blocks_from-last.ensures) (last_blocks f contents c.as_slice.result.now (2 * c.from.result) all from))

use Rattle.std.proofs.Common.{take, refl, ◌∙◌, arith}
use Rattle.scfs_erasure.proofs.ContentLemmas.{first_taken, AreEnough-taken}
use Rattle.scfs_erasure.proofs.tests.further_block.Goals as goal

pub block_from-requires-clause-enough : goal.block_from-requires-clause-enough
block_from-requires-clause-enough c =
    let blocks = c.as_slice.result.now in
    AreEnough-taken 1 c.args.contents.now (take 2 blocks)
    (first_taken 1 c.args.contents.now 4 2 blocks refl (omega arith) (c.as_slice.ensures ∙ c.in_ok-blocks.ensures))

use Rattle.std.proofs.Common.{◌≡◌, ◌+◌, length, map, take, ap, ◌∙◌, arith}
use Rattle.scfs_gf256.specs.Polynomials.{AreBytes}
use Rattle.scfs_gf256.proofs.Bytes.{Bytes-AreBytes, Bytes_from_places}
use Rattle.scfs_erasure.specs.Rows.{numbers_below}
use Rattle.scfs_erasure.specs.Blocks.{block_of}
use Rattle.scfs_erasure.proofs.ContentLemmas.{blocks_more, first_taken, length-first, AreEnough-taken, piece-taken}
use Rattle.scfs_erasure.proofs.encoding.encode.Goals as goal

pub slice_bounds-block_from-end : goal.slice_bounds-block_from-end
slice_bounds-block_from-end c =
    let taken =
    first_taken c.args.f c.args.contents.now c.loop-number.number (c.from-rows.result + 1) c.as_slice.result.now
    (omega arith) c.loop-number.invariant.rows (c.as_slice.ensures ∙ c.loop-number.invariant.blocks) in
    let long = ap length taken ∙ length-first c.args.f c.args.contents.now in
    omega (arith, long)

pub block_from-requires-clause-enough : goal.block_from-requires-clause-enough
block_from-requires-clause-enough c =
    AreEnough-taken c.args.f c.args.contents.now (take (c.from-rows.result + 1) c.as_slice.result.now)
    (first_taken c.args.f c.args.contents.now c.loop-number.number (c.from-rows.result + 1) c.as_slice.result.now
    (omega arith) c.loop-number.invariant.rows (c.as_slice.ensures ∙ c.loop-number.invariant.blocks))

pub loop-number-preserved : goal.loop-number-preserved
loop-number-preserved c =
    let f = c.args.f in
    let contents = c.args.contents.now in
    let number = c.loop-number.number in
    let blocks = take (c.from-rows.result + 1) c.as_slice.result.now in
    let taken : blocks ≡ map (block_of f contents) (numbers_below (f + 1)) =
    first_taken f contents number (c.from-rows.result + 1) c.as_slice.result.now
    (omega arith) c.loop-number.invariant.rows (c.as_slice.ensures ∙ c.loop-number.invariant.blocks) in
    let bytes : AreBytes contents =
    Bytes-AreBytes contents (Bytes_from_places contents (λ k l. omega (arith, c.type_inv.contents k))) in
    record {
      rows = omega arith;
      blocks =
          c.in_ok-push.ensures.ok
          ∙ blocks_more f contents number c.loop-number.blocks c.in_ok-block.block c.loop-number.invariant.blocks
          c.in_ok-block.ensures.number
          (c.in_ok-block.ensures.bytes ∙ piece-taken f contents blocks number (omega arith) bytes taken);
    }

use Rattle.std.proofs.Common.{◌≡◌, min, length, refl, ◌∙◌, arith}
use Rattle.scfs_gf256.specs.Polynomials.{AreBytes}
use Rattle.scfs_gf256.proofs.Bytes.{Bytes-AreBytes, Bytes_from_places}
use Rattle.scfs_erasure.proofs.ContentLemmas.{blocks_more, filled_part, next_part, next_rest, numbered}
use Rattle.scfs_erasure.proofs.encoding.row_blocks.Goals as goal

pub loop-number-preserved : goal.loop-number-preserved
loop-number-preserved c =
    let f = c.args.f in
    let contents = c.args.contents.now in
    let number = c.loop-number.number in
    let size = c.block_length-size.result in
    let rest = c.loop-number.rest.now in
    let part = c.split_at.result.0.now in
    let bytes : AreBytes contents =
    Bytes-AreBytes contents (Bytes_from_places contents (λ k l. omega (arith, c.type_inv.contents k))) in
    let cut : c.min.result ≡ min size (length rest) = c.min.ensures in
    let given = next_part contents rest part number size c.min.result c.loop-number.invariant.rest cut c.split_at.ensures.front in
    let piece =
    filled_part f contents number size part (omega arith) bytes (omega arith) c.block_length-size.ensures given in
    record {
      blocks =
          c.in_ok-push.ensures.ok
          ∙ blocks_more f contents number c.loop-number.blocks (numbered number c.in_ok-bytes.bytes)
          c.loop-number.invariant.blocks refl (c.in_ok-bytes.ensures ∙ piece);
      rest = next_rest contents rest c.split_at.result.1.now number size c.min.result c.loop-number.invariant.rest cut c.split_at.ensures.back;
    }

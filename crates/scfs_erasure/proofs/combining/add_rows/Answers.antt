use Rattle.std.proofs.Common.{◌≡◌, ◌+◌, ◌<◌, length, drop, ap, sym, ◌∙◌, arith, []}
use Rattle.std.proofs.lemmas.List.{get_or-map, length-map}
use Rattle.scfs_gf256.specs.Rows.{scaled, add_multiples}
use Rattle.scfs_gf256.specs.Field.{times}
use Rattle.scfs_gf256.specs.Interpolation.{lagrange_factors}
use Rattle.scfs_gf256.proofs.Bytes.{length-row_sum}
use Rattle.scfs_gf256.proofs.Fitting.{length-lagrange_factors}
use Rattle.scfs_gf256.proofs.RowLaws.{add_multiples-turn, add_multiples-end}
use Rattle.scfs_erasure.specs.declared.block.Block.{Block}
use Rattle.scfs_erasure.specs.Blocks.{bytes_of}
use Rattle.scfs_erasure.proofs.BlockLemmas.{length-numbers_of, length-bytes_of}
use Rattle.scfs_erasure.proofs.combining.add_rows.Goals as goal

pub loop-place-preserved : goal.loop-place-preserved
loop-place-preserved c =
    let blocks = c.args.blocks.now in
    let places = c.args.places.now in
    let factors = lagrange_factors places c.args.x in
    let rows = bytes_of blocks in
    let place = c.loop-place.place in
    let into = c.loop-place.into in
    let from = c.as_slice.result.now in
    let factor = c.factor_at-factor.result in
    let within : place < length blocks = omega arith in
    let as_many : length factors ≡ length blocks =
    length-lagrange_factors places c.args.x ∙ ap length c.requires.places ∙ length-numbers_of blocks in
    let long : length from ≡ length c.args.into.now =
    ap length c.as_slice.ensures ∙ c.requires.long place c.index-blocks-place.result within in
    let same : length into ≡ length (scaled factor from) =
    c.loop-place.invariant.long ∙ sym long ∙ sym (length-map from (times factor)) in
    record {
      long = ap length c.mul_row.ensures ∙ length-row_sum into (scaled factor from) same ∙ c.loop-place.invariant.long;
      sums =
          ap (λ r. add_multiples r (drop (place + 1) factors) (drop (place + 1) rows)) c.mul_row.ensures
          ∙ add_multiples-turn into factors rows place factor from (omega arith) (omega (arith, length-bytes_of blocks))
          c.factor_at-factor.ensures
          (c.as_slice.ensures ∙ sym (get_or-map (λ (b : Block). b.bytes) blocks place c.index-blocks-place.result [] within))
          ∙ c.loop-place.invariant.sums;
    }

pub returns : goal.returns
returns c =
    let blocks = c.args.blocks.now in
    let factors = lagrange_factors c.args.places.now c.args.x in
    let as_many : length factors ≡ length blocks =
    length-lagrange_factors c.args.places.now c.args.x ∙ ap length c.requires.places ∙ length-numbers_of blocks in
    sym (add_multiples-end c.loop-place.into factors (bytes_of blocks) c.loop-place.place (omega arith))
    ∙ c.loop-place.invariant.sums

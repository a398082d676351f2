use Rattle.std.proofs.Common.{◌≡◌, ℕ, ◌+◌, ◌*◌, ◌<◌, ◌≤◌, length, get_or, bit_xor, sym, ap, ap₂, ◌∙◌, arith}
use Rattle.std.specs.Simd.Lanes.{zip2, chunk}
use Rattle.std.proofs.lemmas.Simd.{length-zip2, length-chunk, get_or-chunk}
use Rattle.scfs_gf256.specs.Field.{times}
use Rattle.scfs_gf256.specs.Rows.{row_sum, scaled}
use Rattle.scfs_gf256.proofs.BlockLemmas.{same_place, added_byte, added_block, wanted_at, block_sum, all_added}
use Rattle.scfs_gf256.proofs.Steps.{halves_found, halves_looked_up}
use Rattle.scfs_gf256.proofs.rows.mul_row.Goals as goal

pub loop-block-preserved : goal.loop-block-preserved
loop-block-preserved c =
    let start = c.loop-block.block * 32 in
    let factor = c.args.factor in
    let from = c.args.from.now in
    let now = c.loop-block.into in
    let found = c.looked_up.result in
    let products : (j : ℕ) → j < 32 → get_or found j 0 ≡ times factor (get_or from (start + j) 0) =
    λ j l.
    let byte : get_or (chunk start 32 from) j 0 ≡ get_or from (start + j) 0 = get_or-chunk start 32 from j 0 l in
    c.looked_up.ensures.sums j l
    ∙ halves_found c.multiples-low.result c.multiples-high.result factor c.mul.result (get_or (chunk start 32 from) j 0)
    (omega (arith, c.type_inv.from (start + j), byte)) c.mul.ensures c.multiples-low.ensures.products c.multiples-high.ensures.products
    ∙ ap (times factor) byte in
    let inside : start + 32 ≤ length now = omega arith in
    let chunk_long = length-chunk start 32 now inside in
    let long : length (zip2 bit_xor (chunk start 32 now) found) ≡ 32 =
    length-zip2 bit_xor (chunk start 32 now) found (chunk_long ∙ sym c.looked_up.ensures.lanes) ∙ chunk_long in
    added_block start ((c.loop-block.block + 1) * 32) now (zip2 bit_xor (chunk start 32 now) found) c.args.into.now
    (row_sum c.args.into.now (scaled factor from)) long (omega arith) (omega arith)
    (block_sum factor from c.args.into.now c.requires start now found inside c.looked_up.ensures.lanes products c.loop-block.invariant.left)
    c.loop-block.invariant

pub loop-place-init : goal.loop-place-init
loop-place-init c = same_place (c.loop-block.block * 32) _ _ _ _ (omega arith) c.loop-block.invariant

pub loop-place-preserved : goal.loop-place-preserved
loop-place-preserved c =
    let place = c.loop-place.place in
    let factor = c.args.factor in
    let from = c.args.from.now in
    let byte = get_or from place 0 in
    let product : c.add-product.result ≡ times factor byte =
    c.add-product.ensures
    ∙ halves_looked_up c.multiples-low.result c.multiples-high.result factor c.mul.result byte
    (omega (arith, c.type_inv.from place)) c.mul.ensures c.multiples-low.ensures.products c.multiples-high.ensures.products in
    added_byte place c.add.result c.loop-place.into c.args.into.now (row_sum c.args.into.now (scaled factor from)) (omega arith)
    (c.add.ensures ∙ ap₂ bit_xor (c.loop-place.invariant.left place (omega arith)) product ∙ sym (wanted_at factor from c.args.into.now c.requires place))
    c.loop-place.invariant

pub returns : goal.returns
returns c =
    all_added c.args.factor c.args.from.now c.args.into.now c.requires c.loop-place.place c.loop-place.into (omega arith) (omega arith) c.loop-place.invariant

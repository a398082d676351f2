use Rattle.std.proofs.Common.{◌≡◌, ◌<◌, length, get_or, arith}
use Rattle.std.specs.Prelude.{bit_xor}
use Rattle.std.proofs.lemmas.List.{get_or_default}
use Rattle.std.proofs.lemmas.List.Edits.{map_over_more}
use Rattle.scfs_digest.proofs.tags.add_pad.Goals as goal

pub loop-byte-preserved : goal.loop-byte-preserved
loop-byte-preserved c =
    let b = c.loop-byte.block in
    let i = c.loop-byte.byte-index in
    let within : i < length c.args.block.now = omega arith in
    let here : get_or b i 0 ≡ get_or b i (get_or b i 0) = get_or_default b i 0 (get_or b i 0) (omega arith) in
    map_over_more (λ byte. bit_xor byte c.args.pad) c.args.block.now b i (get_or b i 0) within
    c.loop-byte.invariant here

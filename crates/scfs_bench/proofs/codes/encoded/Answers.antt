use Rattle.std.proofs.Common.{◌≡◌, ◌++◌, length, take, drop, ap, sym, ◌∙◌, arith}
use Rattle.scfs_bench.specs.Rounds.{pattern}
use Rattle.scfs_bench.specs.Contents.{with_last_block}
use Rattle.scfs_bench.proofs.CodeLemmas.{encoded_more, in_place}
use Rattle.scfs_bench.proofs.codes.encoded.Goals as goal

pub again-preserved : goal.again-preserved
again-preserved c =
    let f = c.args.f in
    let old = c.again.contents.items in
    let new = c.put_last_block.new.contents in
    let same : length new ≡ length old = omega arith in
    let whole : take c.again.contents.len (new ++ drop (length new) old) ≡ new = in_place c.again.contents.len new old same (omega arith) in
    let done : new ≡ with_last_block f old = c.in_ok-put_last_block.ensures ∙ ap (with_last_block f) c.as_mut_slice.ensures.value in
    record {
      done = whole ∙ done ∙ ap (with_last_block f) c.again.invariant.done ∙ sym (encoded_more f c.again._done (pattern 1048576));
      size = ap length whole ∙ same ∙ c.again.invariant.size;
    }

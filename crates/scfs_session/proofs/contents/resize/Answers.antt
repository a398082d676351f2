use Rattle.std.proofs.Common.{◌<◌, length, arith, ◌∙◌, length-append}
use Rattle.scfs_session.proofs.ContentsLemmas.{more_zeros}
use Rattle.scfs_session.proofs.contents.resize.Goals as goal

pub loop-bytes-preserved : goal.loop-bytes-preserved
loop-bytes-preserved c =
    let short : length c.loop-bytes.bytes < c.args.size = omega arith in
    record {
      within = rw c.in_ok-push.ensures.ok (simp length-append (omega arith));
      filled = rw c.in_ok-push.ensures.ok (more_zeros c.loop-bytes.bytes c.args.size short ∙ c.loop-bytes.invariant.filled);
    }

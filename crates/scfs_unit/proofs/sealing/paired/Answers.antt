use Rattle.std.proofs.Common.{[]}
use Rattle.scfs_unit.proofs.SealLemmas.{paired_step}
use Rattle.scfs_unit.proofs.sealing.paired.Goals as goal

pub loop-place-preserved : goal.loop-place-preserved
loop-place-preserved c =
    paired_step c.args.size c.args.shares.now c.args.blocks.now c.loop-place.place (record { point = 0; bytes = [] })
    c.index-blocks-place.result c.in_ok-copy.field-0 c.loop-place.pieces c.push.new.self c.loop-place-test.true c.requires
    c.index-blocks-place.is c.in_ok-copy.ensures c.loop-place.invariant c.in_ok-push.ensures.ok

use Rattle.std.proofs.Common.{◌∙◌, sym, subst, arith}
use Rattle.std.proofs.lemmas.List.{take_all}
use Rattle.scfs_unit.specs.Unsealing.{AreEnough}
use Rattle.scfs_unit.proofs.EnoughLemmas.{AreEnough-gathered}
use Rattle.scfs_unit.proofs.tests.opened.Goals as goal

pub open_unit-requires-clause-enough : goal.open_unit-requires-clause-enough
open_unit-requires-clause-enough c =
    let kept = c.loop-cloud.invariant in
    let done = c.loop-cloud-test.false in
    subst (AreEnough c.args.f) (sym c.deref.ensures.value)
    (AreEnough-gathered c.args.f c.args.size c.args.clouds.now c.loop-cloud.pieces.items
    (record {
      clouds_are = kept.clouds ∙ take_all c.loop-cloud.cloud-index c.args.clouds.now (omega arith);
      each = kept.each;
      sizes = kept.sizes;
    })
    c.requires.count c.requires.different c.requires.size)

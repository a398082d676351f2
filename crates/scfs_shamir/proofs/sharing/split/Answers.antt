use Rattle.std.proofs.Common.{◌∷◌, [], ◌++◌, ap, ◌∙◌}
use Rattle.scfs_shamir.specs.Shares.{share_of}
use Rattle.scfs_shamir.specs.declared.sharing.Share.{Share}
use Rattle.scfs_shamir.proofs.Gathering.{pushed_more}
use Rattle.scfs_shamir.proofs.sharing.split.Goals as goal

pub loop-point-preserved : goal.loop-point-preserved
loop-point-preserved c =
    let made = share_of c.args.f c.args.key.now c.args.coefficients.now in
    c.in_ok-push.ensures.ok
    ∙ ap (λ (share : Share). c.loop-point.shares ++ share ∷ []) c.share_at.ensures
    ∙ pushed_more made c.loop-point.shares c.loop-point.point c.loop-point.auto.point c.loop-point.invariant

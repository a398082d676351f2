use Rattle.std.proofs.Common.{◌++◌, ◌∷◌, [], append_assoc, ap, ◌∙◌, sym}
use Rattle.scfs_base.specs.Pieces.{pieces}
use Rattle.scfs_anchor.proofs.path.parts.Goals as goal

pub loop-part-preserved : goal.loop-part-preserved
loop-part-preserved c =
    let rest = pieces 47 c.in-Some.tail.now in
    ap (λ parts. parts ++ rest) c.in_ok-push.ensures.ok
    ∙ append_assoc c.loop-part.parts (_ ∷ []) rest
    ∙ ap (λ others. c.loop-part.parts ++ others) (ap (λ part. part ∷ rest) c.in_ok-from_slice.ensures ∙ sym c.in-Some.ensures.alone)
    ∙ c.loop-part.invariant

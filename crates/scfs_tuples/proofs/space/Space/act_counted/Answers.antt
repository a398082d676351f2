use Rattle.std.proofs.Common.{◌∙◌, ap}
use Rattle.scfs_tuples.specs.After.{left_among, reply_among}
use Rattle.scfs_tuples.proofs.ActLemmas.{counted, live_now}
use Rattle.scfs_tuples.proofs.space.Space.act_counted.Goals as goal

pub returns-clause-reply : goal.returns-clause-reply
returns-clause-reply g c =
    c.in_ok-after.ensures.reply
    ∙ ap (λ ts. reply_among ts c.args.now c.args.step.now) (live_now c.args.now _ _ _ _ c.in_ok-slots.ensures c.replace.ensures.value c.self.view_is)

pub returns-clause-left : goal.returns-clause-left
returns-clause-left g c =
    c.in_ok-after.ensures.left
    ∙ ap (λ ts. left_among ts c.args.now c.args.step.now) (live_now c.args.now _ _ _ _ c.in_ok-slots.ensures c.replace.ensures.value c.self.view_is)

pub returns-clause-looks : goal.returns-clause-looks
returns-clause-looks g c =
    counted _ _ c.args.now c.args.step.now _ c.args.self.now (live_now c.args.now _ _ _ _ c.in_ok-slots.ensures c.replace.ensures.value c.self.view_is) c.in_ok-after.ensures.looks

pub returns-in_err-after-clause-looks : goal.returns-in_err-after-clause-looks
returns-in_err-after-clause-looks g c =
    counted _ _ c.args.now c.args.step.now _ c.args.self.now (live_now c.args.now _ _ _ _ c.in_ok-slots.ensures c.replace.ensures.value c.self.view_is) c.step_over.ensures.looks

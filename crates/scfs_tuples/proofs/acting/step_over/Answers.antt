use Rattle.std.proofs.Common.{refl}
use Rattle.scfs_tuples.proofs.ActLemmas.{left_at, looks_at, reply_at, same_looks}
use Rattle.scfs_tuples.proofs.acting.step_over.Goals as goal

pub returns-in_ok-finish-in-Passed-clause-reply : goal.returns-in_ok-finish-in-Passed-clause-reply
returns-in_ok-finish-in-Passed-clause-reply g c =
    reply_at c.args.slots c.args.now c.args.step.now c.as_slice.result.now c.in_ok-trial.field-0 _ _ c.as_slice.ensures c.in_ok-trial.ensures.ending c.in-Passed.is
    c.in_ok-finish-in-Passed.ensures.reply

pub returns-in_ok-finish-in-Passed-clause-left : goal.returns-in_ok-finish-in-Passed-clause-left
returns-in_ok-finish-in-Passed-clause-left g c =
    left_at c.args.slots c.args.now c.args.step.now c.as_slice.result.now c.in_ok-trial.field-0 _ _ c.as_slice.ensures c.in_ok-trial.ensures.ending c.in-Passed.is
    c.in_ok-finish-in-Passed.ensures.left

pub returns-in_ok-finish-in-Passed-clause-looks : goal.returns-in_ok-finish-in-Passed-clause-looks
returns-in_ok-finish-in-Passed-clause-looks g c =
    looks_at c.args.slots c.as_slice.result.now c.args.step.now.conds c.args.step.now.all c.in_ok-trial.field-0 _ _ _ _ c.as_slice.ensures
    (c.in_ok-trial.ensures.further c.args.step.now.all) c.in-Passed.is c.in_ok-finish-in-Passed.ensures.looks

pub returns-in_err-finish-in-Passed-clause-looks : goal.returns-in_err-finish-in-Passed-clause-looks
returns-in_err-finish-in-Passed-clause-looks g c =
    looks_at c.args.slots c.as_slice.result.now c.args.step.now.conds c.args.step.now.all c.in_ok-trial.field-0 _ _ _ _ c.as_slice.ensures
    (c.in_ok-trial.ensures.further c.args.step.now.all) c.in-Passed.is c.in_err-finish-in-Passed.ensures.looks

pub returns-in-Failed-clause-reply : goal.returns-in-Failed-clause-reply
returns-in-Failed-clause-reply g c =
    reply_at c.args.slots c.args.now c.args.step.now c.as_slice.result.now c.in_ok-trial.field-0 _ _ c.as_slice.ensures c.in_ok-trial.ensures.ending c.in-Failed.is refl

pub returns-in-Failed-clause-left : goal.returns-in-Failed-clause-left
returns-in-Failed-clause-left g c =
    left_at c.args.slots c.args.now c.args.step.now c.as_slice.result.now c.in_ok-trial.field-0 _ _ c.as_slice.ensures c.in_ok-trial.ensures.ending c.in-Failed.is refl

pub returns-in-Failed-clause-looks : goal.returns-in-Failed-clause-looks
returns-in-Failed-clause-looks g c =
    looks_at c.args.slots c.as_slice.result.now c.args.step.now.conds c.args.step.now.all c.in_ok-trial.field-0 _ _ _ _ c.as_slice.ensures
    (c.in_ok-trial.ensures.further c.args.step.now.all) c.in-Failed.is (same_looks _)

use Rattle.std.proofs.Common.{ap}
use Rattle.scfs_tuples.specs.Filed.{tuples_of}
use Rattle.scfs_tuples.specs.declared.types.StepResult.TheVariants as results
use Rattle.scfs_tuples.proofs.ActLemmas.{puts_at, rows_at}
use Rattle.scfs_tuples.proofs.acting.finish.Goals as goal

pub returns-clause-reply : goal.returns-clause-reply
returns-clause-reply g c =
    ap (λ rows. record { now = c.args.now; result = results.Did c.args.trial.bound c.args.trial.taken rows })
    (rows_at c.in_ok-rows.rows c.as_slice-2.result.now c.args.trial.bound (tuples_of c.args.slots) c.as_slice.result.now c.args.step.now.all c.in_ok-rows.ensures.rows c.as_slice.ensures c.as_slice-2.ensures)

pub returns-clause-left : goal.returns-clause-left
returns-clause-left g c =
    puts_at _ c.in_ok-slots.slots _ c.args.now c.as_slice-4.result.now c.args.trial.bound c.as_slice-3.result.now c.args.step.now.puts
    c.in_ok-slots-2.ensures c.in_ok-slots.ensures c.as_slice-3.ensures c.as_slice-4.ensures

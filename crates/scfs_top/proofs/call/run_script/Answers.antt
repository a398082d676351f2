use Rattle.std.proofs.Common.{refl}
use Rattle.scfs_top.specs.Outer.{sink}
use Rattle.scfs_top.specs.Running.{writing_failed}
use Rattle.scfs_top.proofs.RunClosing.{run_faults}
use Rattle.scfs_top.proofs.call.run_script.Goals as goal

pub returns-clause-runs : goal.returns-clause-runs
returns-clause-runs g c = record {
  end = c.run-end.result;
  shown = sink (g.O.Sink.written c.run-end.new.out) (g.O.Sink.faults c.run-end.new.out);
  runs = c.run-end.ensures.runs;
  closes = c.close_run.ensures.closes;
}

pub returns-clause-fault : goal.returns-clause-fault
returns-clause-fault g c = λ is.
    run_faults _ _ _ _ _ (sink (g.O.Sink.written c.args.out.now) (g.O.Sink.faults c.args.out.now))
    (sink (g.O.Sink.written c.run-end.new.out) (g.O.Sink.faults c.run-end.new.out)) (g.O.Sink.faults c.close_run.new.out)
    (sink (g.J.Sink.written c.args.journal.now) (g.J.Sink.faults c.args.journal.now))
    (sink (g.J.Sink.written c.run-end.new.journal) (g.J.Sink.faults c.run-end.new.journal)) _ _ c.run-end.result (writing_failed c.run-end.result) refl c.run-end.ensures.runs
    c.run-end.ensures.later_out c.close_run.ensures.later (λ isnt. c.close_run.ensures.fault is isnt)

use Rattle.std.proofs.Common.{length, inl, inr, Some, ap, sym, ◌∙◌, ⊎_elim, subst}
use Rattle.scfs_top.specs.declared.closing.Status.{Status}
use Rattle.scfs_top.specs.Running.{ClosesRun}
use Rattle.scfs_top.proofs.ClosingLemmas.{never_usage, read_fault}
use Rattle.scfs_top.proofs.RunClosing.{read_failed, run_never_usage}
use Rattle.scfs_top.proofs.UnreadLemmas.{dumps_unread, replays_unread, runs_unread}
use Rattle.scfs_top.proofs.call.scfs.Goals as goal

pub returns-in-Ok-Some-Replay-clause-usage_only : goal.returns-in-Ok-Some-Replay-clause-usage_only
returns-in-Ok-Some-Replay-clause-usage_only g c = λ is.
    let all = c.replay.ensures.replays in
    let text = all.replays.replays in
    absurd (never_usage (length text.past) text.finish all.filled c.replay.result text.decided is)

pub returns-in-Ok-Some-Replay-clause-read_fault : goal.returns-in-Ok-Some-Replay-clause-read_fault
returns-in-Ok-Some-Replay-clause-read_fault g c = λ is.
    let all = c.replay.ensures.replays in
    let text = all.replays.replays in
    inl (all.failed (read_fault (length text.past) text.finish all.filled c.replay.result text.decided is))

pub returns-in-Ok-Some-Dump-clause-usage_only : goal.returns-in-Ok-Some-Dump-clause-usage_only
returns-in-Ok-Some-Dump-clause-usage_only g c = λ is.
    let all = c.dump.ensures.dumps in
    absurd (never_usage (length all.dumps.past) all.dumps.finish all.filled c.dump.result all.dumps.decided is)

pub returns-in-Ok-Some-Dump-clause-read_fault : goal.returns-in-Ok-Some-Dump-clause-read_fault
returns-in-Ok-Some-Dump-clause-read_fault g c = λ is.
    let all = c.dump.ensures.dumps in
    inl (all.failed (read_fault (length all.dumps.past) all.dumps.finish all.filled c.dump.result all.dumps.decided is))

pub returns-in-Ok-Some-Run-clause-usage_only : goal.returns-in-Ok-Some-Run-clause-usage_only
returns-in-Ok-Some-Run-clause-usage_only g c = λ is.
    let all = c.run_script.ensures.runs in
    absurd (run_never_usage all.end all.shown.written _ (subst (λ (s : Status). ClosesRun all.end all.shown.written (g.O.Sink.written c.run_script.new.out) s) is all.closes))

pub returns-in-Err-clause-replays : goal.returns-in-Err-clause-replays
returns-in-Err-clause-replays g c = λ is. replays_unread _ _ _ _ _

pub returns-in-Err-clause-dumps : goal.returns-in-Err-clause-dumps
returns-in-Err-clause-dumps g c = λ is. dumps_unread _ _ _ _ _

pub returns-in-Err-clause-runs : goal.returns-in-Err-clause-runs
returns-in-Err-clause-runs g c = λ is. runs_unread _ _ _ _ _ _

pub returns-in-Ok-Some-Run-clause-read_fault : goal.returns-in-Ok-Some-Run-clause-read_fault
returns-in-Ok-Some-Run-clause-read_fault g c = λ is.
    let all = c.run_script.ensures.runs in
    ⊎_elim (λ rose. inl rose) (λ rose. inr (sym c.in-Ok-Some-Run.ensures ∙ c.in-Ok-Some-Run.field-0-is ∙ ap Some c.in-Ok-Some-Run.field-0-0-is, rose))
    (read_failed _ _ _ _ _ _ _ _ _ _ _ all.end all.shown.written _ all.runs
    (subst (λ (s : Status). ClosesRun all.end all.shown.written (g.O.Sink.written c.run_script.new.out) s) is all.closes))

pub returns-in-Ok-Some-Run-clause-write_fault : goal.returns-in-Ok-Some-Run-clause-write_fault
returns-in-Ok-Some-Run-clause-write_fault g c = λ is.
    ⊎_elim (λ rose. inl rose) (λ rose. inr (sym c.in-Ok-Some-Run.ensures ∙ c.in-Ok-Some-Run.field-0-is ∙ ap Some c.in-Ok-Some-Run.field-0-0-is, rose)) (c.run_script.ensures.fault is)

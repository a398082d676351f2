use Rattle.std.proofs.Common.{◌≡◌, ◌+◌, ◌≤◌}
use Rattle.scfs_bench.specs.Commits.{after, ran_of}
use Rattle.scfs_bench.proofs.steps.committed.Given as goal

abbrev pub invariant-again : goal.invariant-again
invariant-again l = record {
  done : ran_of l.run ≡ after l.files l.done;
  few : l.run.done ≤ l.files + l.done;
}

use Rattle.std.proofs.Common.{◌≡◌, ◌≤◌}
use Rattle.scfs_bench.specs.Commits.{filled_with, ran_of}
use Rattle.scfs_bench.proofs.steps.filled.Given as goal

abbrev pub invariant-each : goal.invariant-each
invariant-each l = record {
  done : ran_of l.run ≡ filled_with l.id;
  few : l.run.done ≤ l.id;
}

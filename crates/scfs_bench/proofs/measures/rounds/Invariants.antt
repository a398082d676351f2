use Rattle.std.proofs.Common.{◌≡◌, length}
use Rattle.scfs_bench.specs.Rounds.{rows, rounds_of}
use Rattle.scfs_bench.proofs.measures.rounds.Given as goal

abbrev pub invariant-again : goal.invariant-again
invariant-again l = record {
  done : rows l.bytes.items l.before.items
      ≡ rounds_of l.measure l._done (rows l.initial.bytes.items l.initial.before.items);
  bytes : length l.bytes.items ≡ 1048576;
  before : length l.before.items ≡ 1048576;
}

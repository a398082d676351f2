use Rattle.std.proofs.Common.{◌≡◌}
use Rattle.scfs_bench.proofs.codes.decoded_from.Given as goal

abbrev pub invariant-again : goal.invariant-again
invariant-again l = l.decoded ≡ l.contents

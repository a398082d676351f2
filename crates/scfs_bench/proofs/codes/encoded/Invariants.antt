use Rattle.std.proofs.Common.{◌≡◌, length}
use Rattle.scfs_bench.specs.Rounds.{pattern}
use Rattle.scfs_bench.specs.Contents.{encoded_times}
use Rattle.scfs_bench.proofs.codes.encoded.Given as goal

abbrev pub invariant-again : goal.invariant-again
invariant-again l = record {
  done : l.contents.items ≡ encoded_times l.f l._done (pattern 1048576);
  size : length l.contents.items ≡ 1048576;
}

use Rattle.std.proofs.Common.{◌≡◌, length}
use Rattle.scfs_net.proofs.tests.first_wrong.Given as goal

abbrev pub invariant-loop-at : goal.invariant-loop-at
invariant-loop-at l = length l.net.clouds ≡ 4

use Rattle.std.proofs.Common.{◌≡◌, length}
use Rattle.scfs_net.proofs.tests.list_of_many.Given as goal

abbrev pub invariant-letters : goal.invariant-letters
invariant-letters l = length l.net.clouds ≡ 4

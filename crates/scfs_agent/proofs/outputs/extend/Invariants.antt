use Rattle.std.proofs.Common.{◌≡◌, ◌++◌, length}
use Rattle.scfs_agent.proofs.outputs.extend.Given as goal

abbrev pub invariant-each : goal.invariant-each
invariant-each l = l.all ++ l.left ≡ l.fn.all ++ l.fn.more

abbrev pub decreases-each : goal.decreases-each
decreases-each l = length l.left

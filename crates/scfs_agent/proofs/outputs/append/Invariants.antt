use Rattle.std.proofs.Common.{◌≡◌, ◌++◌, length}
use Rattle.scfs_agent.proofs.outputs.append.Given as goal

abbrev pub invariant-each : goal.invariant-each
invariant-each l = l.all ++ l.rest ≡ l.fn.all ++ l.fn.more

abbrev pub decreases-each : goal.decreases-each
decreases-each l = length l.rest

use Rattle.std.proofs.Common.{◌≡◌}
use Rattle.std.specs.Prelude.{filter, not}
use Rattle.std.specs.FinSet as set
use Rattle.scfs_quorum_write.specs.Acks.{clouds_of}
use Rattle.scfs_model.specs.Lists.{below}
use Rattle.scfs_agent.proofs.agent.Agent.missing.Given as goal

abbrev pub invariant-loop-cloud : goal.invariant-loop-cloud
invariant-loop-cloud l = l.clouds ≡ filter (λ c. not (set.contains (clouds_of l.acks 0) c)) (below l.cloud)

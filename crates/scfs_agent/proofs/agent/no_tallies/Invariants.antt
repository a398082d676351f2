use Rattle.std.proofs.Common.{◌≡◌, map}
use Rattle.scfs_model.specs.Lists.{below}
use Rattle.scfs_agent.proofs.CloudLists.{record_of}
use Rattle.scfs_agent.proofs.agent.no_tallies.Given as goal

abbrev pub invariant-loop-cloud : goal.invariant-loop-cloud
invariant-loop-cloud l = l.tallies ≡ map (λ c. record_of c) (below l.cloud)

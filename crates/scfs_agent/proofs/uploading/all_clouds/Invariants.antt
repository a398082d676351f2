use Rattle.std.proofs.Common.{◌≡◌}
use Rattle.scfs_model.specs.Lists.{below}
use Rattle.scfs_agent.proofs.uploading.all_clouds.Given as goal

abbrev pub invariant-loop-cloud : goal.invariant-loop-cloud
invariant-loop-cloud l = l.clouds ≡ below l.cloud

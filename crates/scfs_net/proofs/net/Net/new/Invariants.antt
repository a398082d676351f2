use Rattle.std.proofs.Common.{◌≡◌}
use Rattle.std.specs.Prelude.{replicate}
use Rattle.scfs_net.specs.Queues.{new_cloud}
use Rattle.scfs_net.proofs.net.Net.new.Given as goal

-- so many new clouds are made
abbrev pub invariant-made : goal.invariant-made
invariant-made l = l.clouds.items ≡ replicate l._number new_cloud

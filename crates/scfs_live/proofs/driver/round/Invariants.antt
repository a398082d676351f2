use Rattle.std.proofs.Common.{◌≡◌, ◌++◌, length}
use Rattle.std.specs.List.{flat_map, range_with_len}
use Rattle.scfs_live.specs.Driving.{agent_work, cloud_work}
use Rattle.scfs_live.proofs.driver.round.Given as goal

abbrev pub invariant-agents : goal.invariant-agents
invariant-agents l = l.work.items ≡ flat_map agent_work (range_with_len 0 l.agent)

abbrev pub invariant-clouds : goal.invariant-clouds
invariant-clouds l = l.work.items ≡ flat_map agent_work (range_with_len 0 (length l.fn.header.agents)) ++ flat_map cloud_work (range_with_len 0 l.cloud)

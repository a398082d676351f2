use Rattle.std.proofs.Common.{◌≡◌, length}
use Rattle.scfs_live.specs.Driving.{next_work}
use Rattle.scfs_live.specs.Waits.{waits_in}
use Rattle.scfs_live.proofs.driver.next_work.Given as goal

abbrev pub invariant-work : goal.invariant-work
invariant-work l = next_work (waits_in l.fn.world) l.work.items ≡ next_work (waits_in l.fn.world) l.fn.work.items

abbrev pub decreases-work : goal.decreases-work
decreases-work l = length l.work.items

use Rattle.std.proofs.Common.{◌≡◌, length, take}
use Rattle.scfs_shamir.specs.Recovery.{points_of}
use Rattle.scfs_shamir.proofs.recovery.points.Given as goal

abbrev pub invariant-loop-at : goal.invariant-loop-at
invariant-loop-at l = (length l.points ≡ 4) × (take l.at l.points ≡ take l.at (points_of l.shares))

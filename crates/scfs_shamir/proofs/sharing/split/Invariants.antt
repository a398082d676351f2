use Rattle.std.proofs.Common.{◌≡◌, ◌-◌, map}
use Rattle.std.specs.List.{range_with_len}
use Rattle.scfs_shamir.specs.Shares.{share_of}
use Rattle.scfs_shamir.proofs.sharing.split.Given as goal

abbrev pub invariant-loop-point : goal.invariant-loop-point
invariant-loop-point l = l.shares ≡ map (share_of l.f l.key l.coefficients) (range_with_len 1 (l.point - 1))

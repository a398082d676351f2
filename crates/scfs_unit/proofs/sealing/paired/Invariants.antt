use Rattle.std.proofs.Common.{◌≡◌, take}
use Rattle.scfs_unit.specs.Steps.{paired}
use Rattle.scfs_unit.proofs.sealing.paired.Given as goal

abbrev pub invariant-loop-place : goal.invariant-loop-place
invariant-loop-place l = l.pieces ≡ paired l.size l.shares (take l.place l.blocks)

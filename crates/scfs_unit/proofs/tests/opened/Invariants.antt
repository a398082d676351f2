use Rattle.std.proofs.Common.{◌≡◌, take}
use Rattle.std.specs.List.{All}
use Rattle.scfs_unit.specs.Checking.{IsPiece}
use Rattle.scfs_unit.specs.Unsealing.{clouds_of}
use Rattle.scfs_unit.proofs.tests.opened.Given as goal

abbrev pub invariant-loop-cloud : goal.invariant-loop-cloud
invariant-loop-cloud l = record {
  clouds : clouds_of l.pieces.items ≡ take l.cloud-index l.clouds;
  each : All (IsPiece l.f) l.pieces.items;
  sizes : All (λ piece. piece.length ≡ l.size) l.pieces.items;
}

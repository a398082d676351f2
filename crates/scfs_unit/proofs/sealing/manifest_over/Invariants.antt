use Rattle.std.proofs.Common.{◌≡◌, take}
use Rattle.scfs_unit.specs.Unit.{manifest_over}
use Rattle.scfs_unit.proofs.sealing.manifest_over.Given as goal

abbrev pub invariant-loop-piece : goal.invariant-loop-piece
invariant-loop-piece l = l.manifest ≡ manifest_over l.f l.size (take l.piece-index l.pieces)

use Rattle.std.proofs.Common.{◌≡◌, ◌++◌, map, take}
use Rattle.scfs_unit.specs.Unit.{piece_bytes}
use Rattle.scfs_unit.proofs.sealing.objects_over.Given as goal

abbrev pub invariant-loop-piece : goal.invariant-loop-piece
invariant-loop-piece l = l.objects ≡ map (λ piece. l.manifest ++ piece_bytes piece) (take l.piece-index l.pieces)

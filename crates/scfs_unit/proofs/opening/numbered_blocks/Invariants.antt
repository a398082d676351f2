use Rattle.std.proofs.Common.{◌≡◌, take}
use Rattle.scfs_unit.specs.Unsealing.{blocks_in}
use Rattle.scfs_unit.proofs.opening.numbered_blocks.Given as goal

abbrev pub invariant-loop-piece : goal.invariant-loop-piece
invariant-loop-piece l = l.blocks.items ≡ blocks_in (take l.piece-index l.pieces)

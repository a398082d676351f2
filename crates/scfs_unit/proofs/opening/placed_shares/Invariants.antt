use Rattle.std.proofs.Common.{◌≡◌, take}
use Rattle.scfs_unit.specs.Unsealing.{shares_in}
use Rattle.scfs_unit.proofs.opening.placed_shares.Given as goal

abbrev pub invariant-loop-piece : goal.invariant-loop-piece
invariant-loop-piece l = l.shares.items ≡ shares_in (take l.piece-index l.pieces)

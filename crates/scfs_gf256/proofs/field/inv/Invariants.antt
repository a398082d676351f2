use Rattle.std.proofs.Common.{◌≡◌, ◌-◌}
use Rattle.scfs_gf256.proofs.Powers.{squares}
use Rattle.scfs_gf256.proofs.field.inv.Given as goal

abbrev pub invariant-loop-turn : goal.invariant-loop-turn
invariant-loop-turn l = squares (7 - l._turn) l.square l.product ≡ squares 7 l.a 1

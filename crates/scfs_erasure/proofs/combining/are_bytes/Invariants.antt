use Rattle.std.proofs.Common.{ℕ, ◌<◌, get_or}
use Rattle.scfs_gf256.specs.Polynomials.{AreBytes}
use Rattle.scfs_erasure.specs.declared.block.Block.{Block}
use Rattle.scfs_erasure.proofs.combining.are_bytes.Given as goal

abbrev pub invariant-loop-place : goal.invariant-loop-place
invariant-loop-place l = (k : ℕ) → k < l.place → (other : Block) → AreBytes (get_or l.blocks k other).bytes

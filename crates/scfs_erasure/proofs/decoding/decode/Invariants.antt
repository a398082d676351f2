use Rattle.std.proofs.Common.{◌≡◌, ◌*◌, ◌<◌, length, map}
use Rattle.std.specs.List.{All, concat}
use Rattle.scfs_gf256.specs.Polynomials.{AreBytes}
use Rattle.scfs_erasure.specs.Rows.{numbers_below, row_at}
use Rattle.scfs_erasure.specs.Blocks.{numbers_of, bytes_of}
use Rattle.scfs_erasure.proofs.decoding.decode.Given as goal

abbrev pub invariant-loop-number : goal.invariant-loop-number
invariant-loop-number l = record {
  bytes : 0 < l.number → All (λ block. AreBytes block.bytes) l.blocks;
  long : length l.contents.items ≡ l.number * l.size;
  joined : l.contents.items ≡ concat (map (row_at (numbers_of l.blocks) (bytes_of l.blocks) l.size) (numbers_below l.number));
}

use Rattle.std.proofs.Common.{◌≡◌, ◌+◌, ◌≤◌, map}
use Rattle.scfs_erasure.specs.Rows.{numbers_below}
use Rattle.scfs_erasure.specs.Blocks.{block_of}
use Rattle.scfs_erasure.proofs.encoding.encode.Given as goal

abbrev pub invariant-loop-number : goal.invariant-loop-number
invariant-loop-number l = record {
  rows : l.f + 1 ≤ l.number;
  blocks : l.blocks ≡ map (block_of l.f l.contents) (numbers_below l.number);
}

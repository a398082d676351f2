use Rattle.std.proofs.Common.{◌≡◌, ◌*◌, map, drop}
use Rattle.scfs_erasure.specs.Rows.{numbers_below}
use Rattle.scfs_erasure.specs.Blocks.{block_of}
use Rattle.scfs_erasure.proofs.encoding.row_blocks.Given as goal

abbrev pub invariant-loop-number : goal.invariant-loop-number
invariant-loop-number l = record {
  blocks : l.blocks ≡ map (block_of l.f l.contents) (numbers_below l.number);
  rest : l.rest ≡ drop (l.number * l.size) l.contents;
}

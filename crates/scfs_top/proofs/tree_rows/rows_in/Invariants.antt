use Rattle.std.proofs.Common.{◌≡◌, take}
use Rattle.std.specs.List.{flat_map}
use Rattle.scfs_top.specs.TreeRows.{nodes_said, versions_said}
use Rattle.scfs_top.proofs.tree_rows.rows_in.Given as goal

abbrev pub invariant-loop-tuple : goal.invariant-loop-tuple
invariant-loop-tuple l = record {
  nodes : l.nodes.items ≡ flat_map nodes_said (take l.tuple-index l.tuples);
  versions : l.versions.items ≡ flat_map versions_said (take l.tuple-index l.tuples);
}

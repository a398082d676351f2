-- What tuples say of a tree, as the program reads it.
use Rattle.std.specs.Prelude.{ℕ, List, [], ◌∷◌, codes, ◌==◌, if◌then◌else◌}
use Rattle.std.specs.Str.{bytes_eq}
use Rattle.scfs_schedule.specs.declared.types.Kind.{Kind}
use Rattle.scfs_schedule.specs.declared.types.Kind.TheVariants as kinds
use Rattle.scfs_tuples.specs.declared.types.Field.{Field}
use Rattle.scfs_tuples.specs.declared.types.Tuple.{Tuple}
use Rattle.scfs_anchor.specs.Fields.{number_at, text_at}
use Rattle.scfs_anchor.specs.Replies.{row_in}
use Rattle.scfs_anchor.specs.declared.seen.VersionRow.{VersionRow}
use Rattle.scfs_model.specs.Tree.{Node}
use Rattle.scfs_top.specs.declared.tree_rows.NodeRow.{NodeRow}

-- a node of the tree as the program has it
abbrev pub node_row : Node → NodeRow
node_row n = record { id = n.id; parent = n.parent; name = n.name; kind = n.kind; newest = n.newest; length = n.size }

-- the kind that a number in a node's tuple stands for
abbrev pub kind_of : ℕ → Kind
kind_of number = if number == 0 then kinds.Dir else kinds.File

-- the node that fields hold
abbrev pub node_in : List Field → NodeRow
node_in fields =
    record {
      id = record { 0 = number_at fields 1 };
      parent = record { 0 = number_at fields 2 };
      name = text_at fields 3;
      kind = kind_of (number_at fields 4);
      newest = number_at fields 5;
      length = number_at fields 6;
    }

-- the node that a tuple says, by its shape
abbrev pub nodes_said : Tuple → List NodeRow
nodes_said t = if bytes_eq (text_at t.fields 0) (codes "node") then node_in t.fields ∷ [] else []

-- the version that a tuple says, by its shape
abbrev pub versions_said : Tuple → List VersionRow
versions_said t = if bytes_eq (text_at t.fields 0) (codes "ver") then row_in t.fields ∷ [] else []

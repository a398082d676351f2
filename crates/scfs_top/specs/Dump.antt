-- The dump of a tree: its nodes and its versions as one JSON value.
use Rattle.std.specs.Prelude.{◌≡◌, ◌⊎◌, ◌<◌, ℕ, List, map, codes, length, IsPermutation}
use Rattle.std.specs.List.{AllAdjacentBelow}
use Rattle.std.specs.declared.cmp.Ordering.{Ordering}
use Rattle.std.specs.Ordering.{nat_cmp, ordering_then}
use Rattle.serde_json.specs.Data.{Data, Members, number, unsigned, string, array, object, member, no_members}
use Rattle.serde_json.specs.View.{items_of}
use Rattle.serde_json.specs.Written.{compact_text}
use Rattle.scfs_base.specs.Words.{hex_word, path_word}
use Rattle.scfs_schedule.specs.declared.types.Kind.{Kind}
use Rattle.scfs_schedule.specs.declared.types.Kind.TheVariants as kinds
use Rattle.scfs_anchor.specs.Items.{row_said}
use Rattle.scfs_anchor.specs.declared.seen.VersionRow.{VersionRow}
use Rattle.scfs_model.specs.Layers.{Row}
use Rattle.scfs_model.specs.Tree.{Tree}
use Rattle.scfs_top.specs.TreeRows.{node_row}
use Rattle.scfs_top.specs.declared.tree_rows.NodeRow.{NodeRow}

-- the word of a kind
abbrev pub kind_word : Kind → List ℕ
kind_word kinds.File = codes "file"
kind_word kinds.Dir = codes "dir"

-- a number
abbrev pub number_data : ℕ → Data
number_data n = number (unsigned n)

-- an object's member that is a number, before others
abbrev pub with_number : List ℕ → ℕ → Members → Members
with_number key n others = member key (number_data n) others

-- an object's member that is a text, before others
abbrev pub with_text : List ℕ → List ℕ → Members → Members
with_text key text others = member key (string text) others

-- a node
abbrev pub node_data : NodeRow → Data
node_data n =
    object
    (with_number (codes "id") n.id.0
    (with_text (codes "kind") (kind_word n.kind)
    (with_number (codes "length") n.length
    (with_text (codes "name") (path_word n.name)
    (with_number (codes "newest") n.newest
    (with_number (codes "parent") n.parent.0
    no_members))))))

-- a version
abbrev pub version_data : VersionRow → Data
version_data v =
    object
    (with_number (codes "agent") v.upload.agent
    (with_text (codes "content") (hex_word v.content.0)
    (with_number (codes "count") v.upload.count
    (with_number (codes "id") v.id.0
    (with_number (codes "incarnation") v.upload.incarnation
    (with_number (codes "length") v.length
    (with_number (codes "number") v.number
    (with_text (codes "root") (hex_word v.root.0)
    (with_number (codes "time") v.time
    no_members)))))))))

-- the clock, nodes and versions
abbrev pub dump_data : (clock : ℕ) → List NodeRow → List VersionRow → Data
dump_data clock nodes versions =
    object
    (with_number (codes "clock") clock
    (member (codes "nodes") (array (items_of (map node_data nodes)))
    (member (codes "versions") (array (items_of (map version_data versions)))
    no_members)))

-- the first numbers decide, and where they are equal the second
abbrev pub by_both : ℕ × ℕ → ℕ × ℕ → Ordering
by_both a b = ordering_then (nat_cmp a.0 b.0) (nat_cmp a.1 b.1)

-- a version's file and its number in it
abbrev pub file_and_number : VersionRow → ℕ × ℕ
file_and_number v = (v.id.0, v.number)

-- each goes before the next
abbrev pub Rises : {X : Type 0} → (X → X → Type 0) → List X → Type 0
Rises GoesBefore xs = AllAdjacentBelow GoesBefore xs (length xs)

-- a node of a lower id
abbrev pub IsLower : NodeRow → NodeRow → Type 0
IsLower a b = a.id.0 < b.id.0

-- a version of a file of a lower id, or one before of the same file
abbrev pub IsEarlier : VersionRow → VersionRow → Type 0
IsEarlier a b = (a.id.0 < b.id.0) ⊎ ((a.id.0 ≡ b.id.0) × (a.number < b.number))

-- The dump of a tree at a moment: the compact text of the moment, the tree's nodes by rising id, and its versions by rising id and
-- number.
pub record IsDump (clock : ℕ) (tree : Tree Row) (text : List ℕ) : Type 0 where
  pub nodes : List NodeRow
  pub all_nodes : IsPermutation (map node_row tree.nodes) nodes
  pub by_id : Rises IsLower nodes
  pub versions : List VersionRow
  pub all_versions : IsPermutation (map row_said tree.versions) versions
  pub by_number : Rises IsEarlier versions
  pub is : text ≡ compact_text (dump_data clock nodes versions)

use Rattle.std.specs.Prelude.{List, map, filter, Option, Some, None, Bool, true, nat_lt, ℕ}
use Rattle.std.specs.List.{filter_map}
use Rattle.scfs_tuples.specs.declared.types.Tuple.{Tuple}
use Rattle.scfs_model.specs.Layers.{Row}
use Rattle.scfs_model.specs.Tree.{Node, Lock, Tree}
use Rattle.scfs_anchor.specs.Tree as anchor
use Rattle.scfs_anchor.specs.Tree.{Entry, OfNode, OfVersion, OfLock, tuples_of}
use Rattle.scfs_anchor.specs.declared.seen.VersionRow.{VersionRow}

-- How the shared tree of the machine stands in the space: what its tuples say, in the machine's words and in the space's order.

pub data Item : Type 0 where
  Of_node : Node → Item
  Of_version : Row → Item
  Of_lock : Lock → Item

-- a version as the space's code has it
abbrev pub row_said : Row → VersionRow
row_said v = record { id = v.file; number = v.number; root = v.root; content = v.content; length = v.length; upload = v.upload; time = v.moment }

-- a node and a lock as entries say them
abbrev pub node_said : Node → anchor.Node
node_said n = record { id = n.id; parent = n.parent; name = n.name; kind = n.kind; newest = n.newest; size = n.size }

abbrev pub lock_said : Lock → anchor.Lock
lock_said l = record { file = l.file; agent = l.agent; incarnation = l.incarnation; session = l.session; until = Some l.until }

abbrev pub entry_of : Item → Entry
entry_of (Of_node n) = OfNode (node_said n)
entry_of (Of_version v) = OfVersion (row_said v)
entry_of (Of_lock l) = OfLock (lock_said l)

-- the entries of items, and their tuples, in the same order
abbrev pub entries_of : List Item → List Entry
entries_of items = map entry_of items

abbrev pub space_of : List Item → List Tuple
space_of items = tuples_of (entries_of items)

-- what an item is
abbrev pub node_of : Item → Option Node
node_of (Of_node n) = Some n
node_of (Of_version v) = None
node_of (Of_lock l) = None

abbrev pub version_of : Item → Option Row
version_of (Of_node n) = None
version_of (Of_version v) = Some v
version_of (Of_lock l) = None

abbrev pub lock_of : Item → Option Lock
lock_of (Of_node n) = None
lock_of (Of_version v) = None
lock_of (Of_lock l) = Some l

abbrev pub nodes : List Item → List Node
nodes items = filter_map node_of items

abbrev pub versions : List Item → List Row
versions items = filter_map version_of items

abbrev pub locks : List Item → List Lock
locks items = filter_map lock_of items

-- the tree of items: each kind apart, in their order
abbrev pub tree_of : List Item → Tree Row
tree_of items = record { nodes = nodes items; locks = locks items; versions = versions items }

-- the items without the locks that ended
abbrev pub is_live : (now : ℕ) → Item → Bool
is_live now (Of_node n) = true
is_live now (Of_version v) = true
is_live now (Of_lock l) = nat_lt now l.until

abbrev pub live : (now : ℕ) → List Item → List Item
live now items = filter (is_live now) items

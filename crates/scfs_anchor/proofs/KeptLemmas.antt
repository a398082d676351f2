use Rattle.std.proofs.Common.{◌≡◌, List, [], ◌∷◌, ◌++◌, Bool, true, false, refl, ap, ◌∙◌}
use Rattle.std.specs.Prelude.{filter}
use Rattle.std.proofs.lemmas.List.{append-nil}
use Rattle.std.proofs.lemmas.List.Elements.{filter_map-append}
use Rattle.scfs_model.specs.Layers.{Row}
use Rattle.scfs_model.specs.Lists.{without_first}
use Rattle.scfs_model.specs.Tree.{Node, Lock, Tree}
use Rattle.scfs_anchor.specs.Items.{Item, Of_node, Of_version, Of_lock, node_of, version_of, lock_of, nodes, versions, locks, tree_of}
use Rattle.scfs_anchor.proofs.Alike.{lock_that, node_that}

-- What goes of items goes of their tree, and what comes behind them comes behind its own.

abbrev pub tree_with : List Node → List Lock → List Row → Tree Row
tree_with ns ls vs = record { nodes = ns; locks = ls; versions = vs }

-- trees of the same nodes, locks and versions
pub same_tree : (a b : List Node) (c d : List Lock) (e f : List Row) → a ≡ b → c ≡ d → e ≡ f → tree_with a c e ≡ tree_with b d f
same_tree a b c d e f p q r = λ i. tree_with (p i) (q i) (r i)

abbrev node_front : Node → Tree Row → Tree Row
node_front n t = tree_with (n ∷ t.nodes) t.locks t.versions

abbrev lock_front : Lock → Tree Row → Tree Row
lock_front l t = tree_with t.nodes (l ∷ t.locks) t.versions

abbrev version_front : Row → Tree Row → Tree Row
version_front v t = tree_with t.nodes t.locks (v ∷ t.versions)

module _ (test : Lock → Bool) where
  abbrev WithoutLock : List Item → Type 0
  WithoutLock items = tree_of (without_first (lock_that test) items) ≡ tree_with (nodes items) (without_first test (locks items)) (versions items)

  -- without the first lock that passes
  pub without_lock : (items : List Item) → WithoutLock items
  without_lock [] = refl
  without_lock (Of_node n ∷ items) = ap (node_front n) (without_lock items)
  without_lock (Of_version v ∷ items) = ap (version_front v) (without_lock items)
  without_lock (Of_lock l ∷ items) = here (test l) refl (without_lock items) where
    here : (t : Bool) → test l ≡ t → WithoutLock items → WithoutLock (Of_lock l ∷ items)
    here true e rest = rw e refl
    here false e rest = rw e (ap (lock_front l) rest)

module _ (test : Node → Bool) where
  abbrev WithoutNode : List Item → Type 0
  WithoutNode items = tree_of (without_first (node_that test) items) ≡ tree_with (without_first test (nodes items)) (locks items) (versions items)

  -- without the first node that passes
  pub without_node : (items : List Item) → WithoutNode items
  without_node [] = refl
  without_node (Of_lock l ∷ items) = ap (lock_front l) (without_node items)
  without_node (Of_version v ∷ items) = ap (version_front v) (without_node items)
  without_node (Of_node n ∷ items) = here (test n) refl (without_node items) where
    here : (t : Bool) → test n ≡ t → WithoutNode items → WithoutNode (Of_node n ∷ items)
    here true e rest = rw e refl
    here false e rest = rw e (ap (node_front n) rest)

module _ (keeps : Item → Bool) (test : Lock → Bool) (node : (n : Node) → keeps (Of_node n) ≡ true)
    (version : (v : Row) → keeps (Of_version v) ≡ true) (lock : (l : Lock) → keeps (Of_lock l) ≡ test l) where
  abbrev KeepsLocks : List Item → Type 0
  KeepsLocks items = tree_of (filter keeps items) ≡ tree_with (nodes items) (filter test (locks items)) (versions items)

  -- with the locks that pass alone
  pub keep_locks : (items : List Item) → KeepsLocks items
  keep_locks [] = refl
  keep_locks (Of_node n ∷ items) = rw (node n) (ap (node_front n) (keep_locks items))
  keep_locks (Of_version v ∷ items) = rw (version v) (ap (version_front v) (keep_locks items))
  keep_locks (Of_lock l ∷ items) = here (test l) refl (keep_locks items) where
    here : (t : Bool) → test l ≡ t → KeepsLocks items → KeepsLocks (Of_lock l ∷ items)
    here true e rest = rw (lock l, e) (ap (lock_front l) rest)
    here false e rest = rw (lock l, e) rest

-- with a lock behind
pub lock_behind : (items : List Item) (l : Lock)
    → tree_of (items ++ Of_lock l ∷ []) ≡ tree_with (nodes items) (locks items ++ l ∷ []) (versions items)
lock_behind items l =
    same_tree _ _ _ _ _ _ (filter_map-append node_of items (Of_lock l ∷ []) ∙ append-nil (nodes items))
    (filter_map-append lock_of items (Of_lock l ∷ []))
    (filter_map-append version_of items (Of_lock l ∷ []) ∙ append-nil (versions items))

-- with a node behind
pub node_behind : (items : List Item) (n : Node)
    → tree_of (items ++ Of_node n ∷ []) ≡ tree_with (nodes items ++ n ∷ []) (locks items) (versions items)
node_behind items n =
    same_tree _ _ _ _ _ _ (filter_map-append node_of items (Of_node n ∷ []))
    (filter_map-append lock_of items (Of_node n ∷ []) ∙ append-nil (locks items))
    (filter_map-append version_of items (Of_node n ∷ []) ∙ append-nil (versions items))

-- with a node and a version behind
pub closed_behind : (items : List Item) (n : Node) (v : Row)
    → tree_of (items ++ Of_node n ∷ Of_version v ∷ []) ≡ tree_with (nodes items ++ n ∷ []) (locks items) (versions items ++ v ∷ [])
closed_behind items n v =
    let put = Of_node n ∷ Of_version v ∷ [] in
    same_tree _ _ _ _ _ _ (filter_map-append node_of items put) (filter_map-append lock_of items put ∙ append-nil (locks items))
    (filter_map-append version_of items put)

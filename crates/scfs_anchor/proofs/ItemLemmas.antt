use Rattle.std.proofs.Common.{◌≡◌, ℕ, List, [], ◌∷◌, ◌++◌, map, eqb, Bool, true, false, ◌&&◌, refl, ap, ◌∙◌, sym, arith}
use Rattle.std.specs.List.{find, filter}
use Rattle.std.specs.Option.{option_map}
use Rattle.std.specs.Str.{bytes_eq}
use Rattle.std.specs.Prelude.{nat_lt}
use Rattle.std.proofs.lemmas.Bool.Decides.{nat_tests}
use Rattle.std.proofs.lemmas.Slice.Eq.{bytes_eq-Decides}
use Rattle.std.proofs.lemmas.List.{map-append}
use Rattle.scfs_base.specs.declared.naming.FileId.{FileId}
use Rattle.scfs_tuples.specs.After as space
use Rattle.scfs_model.specs.Layers.{Row, rows}
use Rattle.scfs_model.specs.Names.{same_file}
use Rattle.scfs_model.specs.Tree.{Node, Lock, Tree, node_in, version_at, lock_on}
use Rattle.scfs_model.specs.Tree as machine
use Rattle.scfs_anchor.specs.Tree as anchor
use Rattle.scfs_anchor.specs.Items.{Item, Of_node, Of_version, Of_lock, row_said, node_said, lock_said, entry_of, entries_of, space_of, nodes, versions, locks, tree_of, is_live, live}
use Rattle.scfs_anchor.specs.declared.seen.VersionRow.{VersionRow}
use Rattle.scfs_anchor.proofs.KeptLemmas.{keep_locks}

-- What the entries of items say is what their tree says.

-- a node as the machine says it
abbrev pub node_meant : anchor.Node → Node
node_meant n = record { id = n.id; parent = n.parent; name = n.name; kind = n.kind; newest = n.newest; size = n.size }

pub eqb_sym : (a b : ℕ) → eqb a b ≡ eqb b a
eqb_sym a b = grind (arith, nat_tests)

pub flipped : (a b : ℕ) (t : Bool) → eqb a b ≡ t → eqb b a ≡ t
flipped a b t h = eqb_sym b a ∙ h

same_truth : (s t : Bool) → (s ≡ true → t ≡ true) → (t ≡ true → s ≡ true) → s ≡ t
same_truth true true f g = refl
same_truth false false f g = refl
same_truth true false f g = sym (f refl)
same_truth false true f g = g refl

pub bytes_sym : (a b : List ℕ) → bytes_eq a b ≡ bytes_eq b a
bytes_sym a b =
    same_truth (bytes_eq a b) (bytes_eq b a)
    (λ h. (bytes_eq-Decides b a).1 (sym ((bytes_eq-Decides a b).0 h)))
    (λ h. (bytes_eq-Decides a b).1 (sym ((bytes_eq-Decides b a).0 h)))

pub both_same : (a b c d : Bool) → a ≡ c → b ≡ d → (a && b) ≡ (c && d)
both_same a b c d e f = ap (λ x. x && b) e ∙ ap (λ x. c && x) f

-- the first of mapped items is the first, mapped
pub find_map : {X Y : Type 0} (f : X → Y) (p : Y → Bool) (q : X → Bool) → ((x : X) → p (f x) ≡ q x) → (xs : List X)
    → find p (map f xs) ≡ option_map f (find q xs)
find_map f p q same [] = refl
find_map f p q same (x ∷ xs) = here (q x) refl (find_map f p q same xs) where
  here : (t : Bool) → q x ≡ t → find p (map f xs) ≡ option_map f (find q xs) → find p (map f (x ∷ xs)) ≡ option_map f (find q (x ∷ xs))
  here true e rest = rw (same x, e) refl
  here false e rest = rw (same x, e) rest

pub nodes_said : (items : List Item) → anchor.nodes_of (entries_of items) ≡ map node_said (nodes items)
nodes_said [] = refl
nodes_said (Of_node n ∷ items) = ap (λ ns. node_said n ∷ ns) (nodes_said items)
nodes_said (Of_version v ∷ items) = nodes_said items
nodes_said (Of_lock l ∷ items) = nodes_said items

pub versions_said : (items : List Item) → anchor.versions_of (entries_of items) ≡ map row_said (versions items)
versions_said [] = refl
versions_said (Of_node n ∷ items) = versions_said items
versions_said (Of_version v ∷ items) = ap (λ rs. row_said v ∷ rs) (versions_said items)
versions_said (Of_lock l ∷ items) = versions_said items

pub locks_said : (items : List Item) → anchor.locks_of (entries_of items) ≡ map lock_said (locks items)
locks_said [] = refl
locks_said (Of_node n ∷ items) = locks_said items
locks_said (Of_version v ∷ items) = locks_said items
locks_said (Of_lock l ∷ items) = ap (λ ls. lock_said l ∷ ls) (locks_said items)

pub none_gone : (items : List Item) → anchor.gone_of (entries_of items) ≡ []
none_gone [] = refl
none_gone (Of_node n ∷ items) = none_gone items
none_gone (Of_version v ∷ items) = none_gone items
none_gone (Of_lock l ∷ items) = none_gone items

-- what is still said is what lives
pub live_said : (now : ℕ) (items : List Item) → anchor.live_entries now (entries_of items) ≡ entries_of (live now items)
live_said now [] = refl
live_said now (Of_node n ∷ items) = ap (λ es. entry_of (Of_node n) ∷ es) (live_said now items)
live_said now (Of_version v ∷ items) = ap (λ es. entry_of (Of_version v) ∷ es) (live_said now items)
live_said now (Of_lock l ∷ items) = here (nat_lt now l.until) refl (live_said now items) where
  here : (t : Bool) → nat_lt now l.until ≡ t → anchor.live_entries now (entries_of items) ≡ entries_of (live now items)
      → anchor.live_entries now (entries_of (Of_lock l ∷ items)) ≡ entries_of (live now (Of_lock l ∷ items))
  here true e rest = rw e (ap (λ es. entry_of (Of_lock l) ∷ es) rest)
  here false e rest = rw e rest

pub live_space : (now : ℕ) (items : List Item) → space.live now (space_of items) ≡ space_of (live now items)
live_space now [] = refl
live_space now (Of_node n ∷ items) = ap (λ ts. anchor.tuple_of (entry_of (Of_node n)) ∷ ts) (live_space now items)
live_space now (Of_version v ∷ items) = ap (λ ts. anchor.tuple_of (entry_of (Of_version v)) ∷ ts) (live_space now items)
live_space now (Of_lock l ∷ items) = here (nat_lt now l.until) refl (live_space now items) where
  here : (t : Bool) → nat_lt now l.until ≡ t → space.live now (space_of items) ≡ space_of (live now items)
      → space.live now (space_of (Of_lock l ∷ items)) ≡ space_of (live now (Of_lock l ∷ items))
  here true e rest = rw e (ap (λ ts. anchor.tuple_of (entry_of (Of_lock l)) ∷ ts) rest)
  here false e rest = rw e rest

-- the tree of what lives
pub tree_live : (now : ℕ) (items : List Item) → tree_of (live now items) ≡ machine.live now (tree_of items)
tree_live now items = keep_locks (is_live now) (λ (l : Lock). nat_lt now l.until) (λ n. refl) (λ v. refl) (λ l. refl) items

pub locks_live : (now : ℕ) (items : List Item) → locks (live now items) ≡ filter (λ (l : Lock). nat_lt now l.until) (locks items)
locks_live now items = ap (λ (t : Tree Row). t.locks) (tree_live now items)

-- the tuples of two parts, one after the other
pub space_append : (a b : List Item) → space_of (a ++ b) ≡ space_of a ++ space_of b
space_append a b = ap anchor.tuples_of (map-append entry_of a b) ∙ map-append anchor.tuple_of (entries_of a) (entries_of b)

-- a look-up in the entries finds what one in the tree finds
pub node_found : (items : List Item) (d : FileId) (name : List ℕ)
    → anchor.node_at (anchor.nodes_of (entries_of items)) d.0 name ≡ option_map node_said (node_in (nodes items) d name)
node_found items d name =
    ap (λ ns. anchor.node_at ns d.0 name) (nodes_said items)
    ∙ find_map node_said (λ (n : anchor.Node). eqb d.0 n.parent.0 && bytes_eq name n.name)
    (λ (n : Node). same_file n.parent d && bytes_eq n.name name)
    (λ n. both_same _ _ _ _ (eqb_sym d.0 n.parent.0) (bytes_sym name n.name)) (nodes items)

pub version_found : (items : List Item) (id : FileId) (v : ℕ)
    → anchor.version_of (anchor.versions_of (entries_of items)) id v ≡ option_map row_said (version_at rows (versions items) id v)
version_found items id v =
    ap (λ rs. anchor.version_of rs id v) (versions_said items)
    ∙ find_map row_said (λ (r : VersionRow). eqb id.0 r.id.0 && eqb v r.number) (λ (x : Row). same_file x.file id && eqb x.number v)
    (λ x. both_same _ _ _ _ (eqb_sym id.0 x.file.0) (eqb_sym v x.number)) (versions items)

pub lock_found : (items : List Item) (id : FileId)
    → anchor.lock_on (anchor.locks_of (entries_of items)) id ≡ option_map lock_said (lock_on (locks items) id)
lock_found items id =
    ap (λ ls. anchor.lock_on ls id) (locks_said items)
    ∙ find_map lock_said (λ (l : anchor.Lock). eqb id.0 l.file.0) (λ (l : Lock). same_file l.file id) (λ l. eqb_sym id.0 l.file.0) (locks items)

use Rattle.std.proofs.Common.{◌≡◌, ℕ, ◌≤◌, List, [], map, eqb, Bool, ◌&&◌, Option, Some, None, zero, suc, refl, ap, ◌∙◌, sym, subst}
use Rattle.std.specs.Prelude.{nat_lt, MatchOption}
use Rattle.std.specs.List.{find, filter}
use Rattle.std.specs.Option.{option_map}
use Rattle.std.specs.Str.{bytes_eq}
use Rattle.scfs_base.specs.declared.naming.FileId.{FileId}
use Rattle.scfs_schedule.specs.declared.types.Kind.TheVariants.{File}
use Rattle.scfs_model.specs.Layers.{Row}
use Rattle.scfs_model.specs.Names.{same_file}
use Rattle.scfs_model.specs.Tree.{Node, Lock}
use Rattle.scfs_anchor.specs.Tree as anchor
use Rattle.scfs_anchor.specs.Tree.{Each, Apart, IsEntry, IsTree}
use Rattle.scfs_anchor.specs.Items.{Item, row_said, node_said, lock_said, entries_of, nodes, versions, locks, live}
use Rattle.scfs_anchor.specs.declared.seen.VersionRow.{VersionRow}
use Rattle.scfs_anchor.proofs.ItemLemmas.{find_map, nodes_said, versions_said, locks_said, none_gone, live_said, locks_live, version_found}
use Rattle.scfs_anchor.proofs.ListLemmas.{each_map, each_unmap, each_also, apart_map, apart_unmap, apart_filter}

-- That the entries of items stand for a tree, in the words of the items.

abbrev pub same_id : Node → Node → Bool
same_id a b = same_file a.id b.id

abbrev pub same_place : Node → Node → Bool
same_place a b = same_file a.parent b.parent && bytes_eq a.name b.name

abbrev pub same_version : Row → Row → Bool
same_version a b = same_file a.file b.file && eqb a.number b.number

abbrev pub same_lock : Lock → Lock → Bool
same_lock a b = same_file a.file b.file

abbrev pub node_of : List Node → FileId → Option Node
node_of ns file = find (λ (n : Node). same_file n.id file) ns

abbrev pub version_of : List Row → FileId → (number : ℕ) → Option Row
version_of vs file number = find (λ (v : Row). same_file v.file file && eqb v.number number) vs

-- the newest version of a node is there
abbrev pub HasNewest : List Row → Node → (newest : ℕ) → Type 0
HasNewest vs n zero = n.size ≡ 0
HasNewest vs n (suc k) = (n.kind ≡ File) × MatchOption (version_of vs n.id (suc k)) ⊥ (λ v. v.length ≡ n.size)

-- a version is of a file and not above its newest one
abbrev pub IsOf : Option Node → Row → Type 0
IsOf None v = ⊥
IsOf (Some n) v = (n.kind ≡ File) × (v.number ≤ n.newest)

pub record Whole (ns : List Node) (vs : List Row) : Type 0 where
  pub ids : Apart same_id ns
  pub places : Apart same_place ns
  pub versions : Apart same_version vs
  pub newest : Each (λ n. HasNewest vs n n.newest) ns
  pub numbers : Each (λ v. 1 ≤ v.number) vs
  pub owners : Each (λ v. IsOf (node_of ns v.file) v) vs

-- a look-up of a node by its id
id_found : (items : List Item) (file : FileId)
    → anchor.node_of (anchor.nodes_of (entries_of items)) file ≡ option_map node_said (node_of (nodes items) file)
id_found items file =
    ap (λ ns. anchor.node_of ns file) (nodes_said items)
    ∙ find_map node_said (λ (n : anchor.Node). anchor.same_file n.id file) (λ (n : Node). same_file n.id file) (λ n. refl) (nodes items)

size_meant : (n : Node) (o : Option Row) → MatchOption (option_map row_said o) ⊥ (λ (r : VersionRow). r.length ≡ n.size)
    → MatchOption o ⊥ (λ v. v.length ≡ n.size)
size_meant n None h = h
size_meant n (Some v) h = h

size_said : (n : Node) (o : Option Row) → MatchOption o ⊥ (λ v. v.length ≡ n.size)
    → MatchOption (option_map row_said o) ⊥ (λ (r : VersionRow). r.length ≡ n.size)
size_said n None h = h
size_said n (Some v) h = h

newest_meant : (items : List Item) (n : Node) (k : ℕ) → anchor.HasNewest (anchor.versions_of (entries_of items)) (node_said n) k
    → HasNewest (versions items) n k
newest_meant items n zero h = h
newest_meant items n (suc k) h = (
  h.0,
  size_meant n (version_of (versions items) n.id (suc k))
      (subst (λ (o : Option VersionRow). MatchOption o ⊥ (λ (r : VersionRow). r.length ≡ n.size)) (version_found items n.id (suc k)) h.1),
)

newest_said : (items : List Item) (n : Node) (k : ℕ) → HasNewest (versions items) n k
    → anchor.HasNewest (anchor.versions_of (entries_of items)) (node_said n) k
newest_said items n zero h = h
newest_said items n (suc k) h = (
  h.0,
  subst (λ (o : Option VersionRow). MatchOption o ⊥ (λ (r : VersionRow). r.length ≡ n.size)) (sym (version_found items n.id (suc k)))
      (size_said n (version_of (versions items) n.id (suc k)) h.1),
)

owner_meant : (v : Row) (o : Option Node) → anchor.IsOf (option_map node_said o) [] (row_said v) → IsOf o v
owner_meant v None h = absurd cc
owner_meant v (Some n) h = h

owner_said : (v : Row) (o : Option Node) → IsOf o v → anchor.IsOf (option_map node_said o) [] (row_said v)
owner_said v None h = absurd h
owner_said v (Some n) h = h

pub whole_of : (now : ℕ) (items : List Item) → IsTree now (entries_of items) → Whole (nodes items) (versions items)
whole_of now items is =
    let es = entries_of items in
    record {
      ids =
          apart_unmap node_said (λ a b. anchor.same_file a.id b.id) (nodes items)
          (subst (Apart (λ a b. anchor.same_file a.id b.id)) (nodes_said items) is.ids);
      places = apart_unmap node_said anchor.same_place (nodes items) (subst (Apart anchor.same_place) (nodes_said items) is.places);
      versions = apart_unmap row_said anchor.same_version (versions items) (subst (Apart anchor.same_version) (versions_said items) is.versions);
      newest =
          each_also _ (λ n. HasNewest (versions items) n n.newest) (λ n h. newest_meant items n n.newest h) (nodes items)
          (each_unmap node_said (λ n. anchor.HasNewest (anchor.versions_of es) n n.newest) (nodes items)
          (subst (Each (λ n. anchor.HasNewest (anchor.versions_of es) n n.newest)) (nodes_said items) is.newest));
      numbers =
          each_unmap row_said (λ r. 1 ≤ r.number) (versions items) (subst (Each (λ (r : VersionRow). 1 ≤ r.number)) (versions_said items) is.numbers);
      owners =
          each_also _ (λ v. IsOf (node_of (nodes items) v.file) v)
          (λ v h. owner_meant v (node_of (nodes items) v.file)
          (subst (λ (g : List FileId). anchor.IsOf (option_map node_said (node_of (nodes items) v.file)) g (row_said v)) (none_gone items)
          (subst (λ (o : Option anchor.Node). anchor.IsOf o (anchor.gone_of es) (row_said v)) (id_found items v.file) h))) (versions items)
          (each_unmap row_said (λ r. anchor.IsOf (anchor.node_of (anchor.nodes_of es) r.id) (anchor.gone_of es) r) (versions items)
          (subst (Each (λ (r : VersionRow). anchor.IsOf (anchor.node_of (anchor.nodes_of es) r.id) (anchor.gone_of es) r))
          (versions_said items) is.owners));
    }

locks_stand : (now : ℕ) (items : List Item) → Apart same_lock (filter (λ (l : Lock). nat_lt now l.until) (locks items))
    → Apart (λ a b. anchor.same_file a.file b.file) (anchor.locks_of (anchor.live_entries now (entries_of items)))
locks_stand now items h =
    subst (Apart (λ a b. anchor.same_file a.file b.file))
    (sym (ap anchor.locks_of (live_said now items) ∙ locks_said (live now items) ∙ ap (map lock_said) (locks_live now items)))
    (apart_map lock_said (λ a b. anchor.same_file a.file b.file) (filter (λ (l : Lock). nat_lt now l.until) (locks items)) h)

-- items whose live locks are of different files stand
pub stands_live : (now : ℕ) (items : List Item) → Each (IsEntry now) (entries_of items)
    → Apart same_lock (filter (λ (l : Lock). nat_lt now l.until) (locks items)) → Whole (nodes items) (versions items) → IsTree now (entries_of items)
stands_live now items ranges apart is =
    let es = entries_of items in
    record {
      ranges = ranges;
      ids =
          subst (Apart (λ a b. anchor.same_file a.id b.id)) (sym (nodes_said items))
          (apart_map node_said (λ a b. anchor.same_file a.id b.id) (nodes items) is.ids);
      places = subst (Apart anchor.same_place) (sym (nodes_said items)) (apart_map node_said anchor.same_place (nodes items) is.places);
      locks = locks_stand now items apart;
      versions = subst (Apart anchor.same_version) (sym (versions_said items)) (apart_map row_said anchor.same_version (versions items) is.versions);
      gone = subst (Apart anchor.same_file) (sym (none_gone items)) tt;
      newest =
          subst (Each (λ n. anchor.HasNewest (anchor.versions_of es) n n.newest)) (sym (nodes_said items))
          (each_map node_said (λ n. anchor.HasNewest (anchor.versions_of es) n n.newest) (nodes items)
          (each_also (λ n. HasNewest (versions items) n n.newest) _ (λ n h. newest_said items n n.newest h) (nodes items) is.newest));
      numbers =
          subst (Each (λ (r : VersionRow). 1 ≤ r.number)) (sym (versions_said items))
          (each_map row_said (λ r. 1 ≤ r.number) (versions items) is.numbers);
      owners =
          subst (Each (λ (r : VersionRow). anchor.IsOf (anchor.node_of (anchor.nodes_of es) r.id) (anchor.gone_of es) r)) (sym (versions_said items))
          (each_map row_said (λ r. anchor.IsOf (anchor.node_of (anchor.nodes_of es) r.id) (anchor.gone_of es) r) (versions items)
          (each_also (λ v. IsOf (node_of (nodes items) v.file) v) _
          (λ v h. subst (λ (o : Option anchor.Node). anchor.IsOf o (anchor.gone_of es) (row_said v)) (sym (id_found items v.file))
          (subst (λ (g : List FileId). anchor.IsOf (option_map node_said (node_of (nodes items) v.file)) g (row_said v)) (sym (none_gone items))
          (owner_said v (node_of (nodes items) v.file) h))) (versions items) is.owners));
      buried = subst (Each (λ id. anchor.node_of (anchor.nodes_of es) id ≡ None)) (sym (none_gone items)) tt;
    }

-- and so do items whose locks are
pub stands : (now : ℕ) (items : List Item) → Each (IsEntry now) (entries_of items) → Apart same_lock (locks items)
    → Whole (nodes items) (versions items) → IsTree now (entries_of items)
stands now items ranges apart is =
    stands_live now items ranges (apart_filter same_lock (λ (l : Lock). nat_lt now l.until) (locks items) apart) is

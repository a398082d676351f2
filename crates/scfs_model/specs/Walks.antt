use Rattle.std.specs.Prelude.{ℕ, List, [], ◌∷◌, Option, Some, None, Result, Ok, Err}
use Rattle.scfs_base.specs.declared.naming.FileId.{FileId}
use Rattle.scfs_schedule.specs.declared.types.Kind.{Kind}
use Rattle.scfs_schedule.specs.declared.types.Kind.TheVariants as kinds
use Rattle.scfs_schedule.specs.declared.types.Refusal.{Refusal}
use Rattle.scfs_schedule.specs.declared.types.Refusal.TheVariants as refusals
use Rattle.scfs_model.specs.Names.{root_id}
use Rattle.scfs_model.specs.Tree.{Node, Lock, node_in, lock_on}

-- Where the names of a path lead, from the root down.

-- something, or why it is refused
abbrev pub OrRefusal : Type 0 → Type 0
OrRefusal X = Result X Refusal

-- what is made of it, where it is not refused
abbrev pub on_ok : {X Y : Type 0} → (X → Y) → OrRefusal X → OrRefusal Y
on_ok made (Ok x) = Ok (made x)
on_ok made (Err why) = Err why

-- the root as a node of its own; no name leads to it
abbrev pub root_node : Node
root_node = record { id = root_id; parent = root_id; name = []; kind = kinds.Dir; newest = 0; size = 0 }

-- by the kind of a node, a file or a directory
abbrev pub by_kind : {A : Type 0} → Kind → (file directory : A) → A
by_kind kinds.File file directory = file
by_kind kinds.Dir file directory = directory

module _ {X : Type 0} where
  -- on from the node of a name
  abbrev pub from_node : Option Node → (Node → OrRefusal X) → OrRefusal X
  from_node None on = Err refusals.NoEntry
  from_node (Some n) on = on n

  -- on from the directory that a node is
  abbrev pub from_directory : Option Node → (FileId → OrRefusal X) → OrRefusal X
  from_directory node on = from_node node (λ n. by_kind n.kind (Err refusals.NotDir) (on n.id))

  -- on from the file that a node is
  abbrev pub from_file : Option Node → (Node → OrRefusal X) → OrRefusal X
  from_file node on = from_node node (λ n. by_kind n.kind (on n) (Err refusals.IsDir))

  -- on from a directory with the last name of a path, through the directories that its other names lead to
  abbrev pub walk : List Node → FileId → (names : List (List ℕ)) → (FileId → (last : List ℕ) → OrRefusal X) → OrRefusal X
  walk nodes directory [] on = Err refusals.BadName
  walk nodes directory (name ∷ []) on = on directory name
  walk nodes directory (name ∷ next ∷ names) on = from_directory (node_in nodes directory name) (λ inner. walk nodes inner (next ∷ names) on)

-- the file that a path leads to
abbrev pub file_at : List Node → (names : List (List ℕ)) → OrRefusal Node
file_at nodes names = walk nodes root_id names (λ directory last. from_file (node_in nodes directory last) (λ n. Ok n))

-- a file, where it has no lock
abbrev pub unlocked : Option Lock → Node → OrRefusal Node
unlocked None n = Ok n
unlocked (Some l) n = Err (refusals.Locked l.agent)

abbrev pub free_file_at : List Node → List Lock → (names : List (List ℕ)) → OrRefusal Node
free_file_at nodes locks names =
    walk nodes root_id names (λ directory last. from_file (node_in nodes directory last) (λ n. unlocked (lock_on locks n.id) n))

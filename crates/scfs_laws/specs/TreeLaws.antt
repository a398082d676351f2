use Rattle.std.specs.Prelude.{◌≡◌, ℕ, List, [], ◌∷◌, find, Bool, ◌&&◌, None}
use Rattle.std.specs.Str.{bytes_eq}
use Rattle.scfs_base.specs.declared.naming.FileId.{FileId}
use Rattle.scfs_model.specs.Names.{same_file}
use Rattle.scfs_model.specs.Versions.{Versions}
use Rattle.scfs_model.specs.Tree.{Node, Lock, lock_on}

-- whether a node has this name below this parent
abbrev pub has_place : FileId → (name : List ℕ) → Node → Bool
has_place parent name n = same_file n.parent parent && bytes_eq n.name name

-- no two nodes have one name below one parent: none is found among those behind it
abbrev pub NamesDiffer : List Node → Type 0
NamesDiffer [] = Unit {0}
NamesDiffer (n ∷ ns) = (find (has_place n.parent n.name) ns ≡ None) × NamesDiffer ns

-- no file has two locks: for each lock, none of those behind it is on its file
abbrev pub LocksAlone : List Lock → Type 0
LocksAlone [] = Unit {0}
LocksAlone (l ∷ ls) = (lock_on ls l.file ≡ None) × LocksAlone ls

-- a version stays one of its file, with its number, when it is completed
pub record CompletionKeeps {V : Type 0} (vs : Versions V) : Type 0 where
  pub file : (v : V) (now : ℕ) → vs.file (vs.completed v now) ≡ vs.file v
  pub number : (v : V) (now : ℕ) → vs.number (vs.completed v now) ≡ vs.number v

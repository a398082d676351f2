-- The answers of paths, as their container has them.
use Rattle.std.specs.Prelude.{ℕ, List, map, Vec}
use Rattle.std.specs.declared.alloc.Global.{Global}
use Rattle.std.specs.Str.{bytes_eq}
use Rattle.std.specs.Map.{lookup}
use Rattle.scfs_cache.specs.declared.paths.Kept.{Kept}
use Rattle.scfs_cache.specs.Uses.{used_if}
use Rattle.scfs_cache.specs.Kept.{Answers, answers_limit}

module _ {V : Type 0} where
  -- the answers by the bytes of their paths
  abbrev pub by_path : List (Vec ℕ Global × Kept V) → Answers V
  by_path entries = map (λ entry. (entry.0.items, entry.1)) entries

  -- a use of a path with the answer that is kept for it, if there is one
  abbrev pub used_again : Answers V → (path : List ℕ) → Answers V
  used_again answers path = used_if bytes_eq answers_limit path (lookup (bytes_eq path) answers) answers

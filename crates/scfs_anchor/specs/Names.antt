use Rattle.std.specs.Prelude.{ℕ, List, [], ◌∷◌, length, codes, Bool, true, false, ◌&&◌, not, nat_le, if◌then◌else◌, Option, Some, None}
use Rattle.std.specs.Str.{bytes_eq, is_utf8}
use Rattle.std.specs.List.{list_all}
use Rattle.scfs_base.specs.Pieces.{pieces}

-- a name has 1 to 255 bytes of UTF-8 and is neither `.` nor `..`
unfoldable pub is_name : List ℕ → Bool
is_name name =
    nat_le 1 (length name) && (nat_le (length name) 255 && (is_utf8 name && (not (bytes_eq name (codes ".")) && not (bytes_eq name (codes "..")))))

-- at most 32 names
abbrev pub if_names : List (List ℕ) → Option (List (List ℕ))
if_names names = if nat_le (length names) 32 && list_all is_name names then Some names else None

-- what stands between slashes: nothing before the first one, then the names
abbrev pub names_between : List (List ℕ) → Option (List (List ℕ))
names_between [] = None
names_between (before ∷ []) = None
names_between ([] ∷ name ∷ names) = if_names (name ∷ names)
names_between ((b ∷ bs) ∷ name ∷ names) = None

-- the names of a path from the root down, none for `/` alone; None where the bytes are no path
abbrev pub names_of : List ℕ → Option (List (List ℕ))
names_of path = if bytes_eq path (codes "/") then Some [] else names_between (pieces 47 path)

-- the first names are those of a directory on the way to the second
abbrev pub is_proper_prefix : List (List ℕ) → List (List ℕ) → Bool
is_proper_prefix [] [] = false
is_proper_prefix [] (name ∷ names) = true
is_proper_prefix (above ∷ rest) [] = false
is_proper_prefix (above ∷ rest) (name ∷ names) = bytes_eq above name && is_proper_prefix rest names

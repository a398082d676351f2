-- Objects as files of a folder.
use Rattle.std.specs.Prelude.{◌==◌, ◌||◌, ◌&&◌, ℕ, List, map, Bool, Option, Some, None, IsTrue, nat_eq, if◌then◌else◌}
use Rattle.std.specs.Char.{is_ascii_digit, is_ascii_lowercase}
use Rattle.std.specs.List.{list_any, list_all, starts_with}

-- a folder as a cloud: its name, and how often it failed
pub record FolderCloud : Type 0 where
  pub folder : List ℕ
  pub faults : ℕ

-- whether a byte may stand in the name of an object: a digit, a small letter or the slash
abbrev pub is_name_byte : ℕ → Bool
is_name_byte byte = is_ascii_digit byte || is_ascii_lowercase byte || (byte == 47)

-- whether bytes may name an object: such bytes, with a slash among them
abbrev pub is_object_name : List ℕ → Bool
is_object_name name = list_any (λ byte. byte == 47) name && list_all is_name_byte name

-- a byte of a file's name: `_` in place of `/`
abbrev pub file_byte : ℕ → ℕ
file_byte byte = if byte == 47 then 95 else byte

-- the name of an object's file
abbrev pub file_name : List ℕ → List ℕ
file_name name = map file_byte name

-- a byte of an object's name: `/` in place of `_`
abbrev pub object_byte : ℕ → ℕ
object_byte byte = if byte == 95 then 47 else byte

-- the object whose file has that name, where there is one
abbrev pub object_of : List ℕ → Option (List ℕ)
object_of file = if is_object_name (map object_byte file) then Some (map object_byte file) else None

-- what a List may give: the name of an object, that begins with the prefix
abbrev pub IsListed : List ℕ → List ℕ → Type 0
IsListed prefix name = IsTrue (is_object_name name) × IsTrue (starts_with nat_eq name prefix)

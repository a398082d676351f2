use Rattle.std.specs.Prelude.{◌≡◌, ℕ, ◌^◌, ◌<◌, ◌≤◌, List, [], ◌∷◌, codes, map, filter, find, Option, Some, None, MatchOption, Result, Ok, Err, Bool, true, false, ◌&&◌, ◌==◌, zero, suc}
use Rattle.std.specs.List.{filter_map, list_any}
use Rattle.std.specs.Option.{option_map}
use Rattle.std.specs.Str.{bytes_eq}
use Rattle.scfs_base.specs.declared.naming.FileId.{FileId}
use Rattle.scfs_base.specs.declared.naming.UploadNo.{UploadNo}
use Rattle.scfs_schedule.specs.declared.types.Kind.{Kind}
use Rattle.scfs_schedule.specs.declared.types.Kind.TheVariants.{File, Dir}
use Rattle.scfs_schedule.specs.declared.types.Refusal.{Refusal}
use Rattle.scfs_schedule.specs.declared.types.Refusal.TheVariants.{NoEntry, NotDir, IsDir}
use Rattle.scfs_tuples.specs.After.{is_live}
use Rattle.scfs_tuples.specs.declared.types.Field.TheVariants.{Num, Text}
use Rattle.scfs_tuples.specs.declared.types.Tuple.{Tuple}
use Rattle.scfs_anchor.specs.Replies.{version_tuple, lock_tuple, IsRow}
use Rattle.scfs_anchor.specs.declared.seen.VersionRow.{VersionRow}
use Rattle.scfs_anchor.specs.declared.seen.Sight.{Sight}

-- a directory or a file, under its name in its parent; a file has a newest version and its length, both 0 at first
pub record Node : Type 0 where
  pub id : FileId
  pub parent : FileId
  pub name : List ℕ
  pub kind : Kind
  pub newest : ℕ
  pub size : ℕ

-- a lock on a file that a session holds until a moment, or without end
pub record Lock : Type 0 where
  pub file : FileId
  pub agent : ℕ
  pub incarnation : ℕ
  pub session : ℕ
  pub until : Option ℕ

-- what a tuple of the space says: a node, a completed version, a lock, a dead upload, or a file that is gone
pub data Entry : Type 0 where
  OfNode : Node → Entry
  OfVersion : VersionRow → Entry
  OfLock : Lock → Entry
  OfDead : UploadNo → Entry
  OfGone : FileId → Entry

-- the number of a kind in a node's tuple
abbrev pub kind_number : Kind → ℕ
kind_number Dir = 0
kind_number File = 1

-- the tuple that says it
abbrev pub tuple_of : Entry → Tuple
tuple_of (OfNode n) =
    record {
      fields =
          Text (codes "node") ∷ Num n.id.0 ∷ Num n.parent.0 ∷ Text n.name ∷ Num (kind_number n.kind) ∷ Num n.newest
          ∷ Num n.size ∷ [];
      until = None;
    }
tuple_of (OfVersion row) = version_tuple row
tuple_of (OfLock l) = lock_tuple l.file (l.agent, l.incarnation, l.session) l.until
tuple_of (OfDead u) =
    record { fields = Text (codes "dead") ∷ Num u.agent ∷ Num u.incarnation ∷ Num u.count ∷ []; until = None }
tuple_of (OfGone id) = record { fields = Text (codes "gone") ∷ Num id.0 ∷ []; until = None }

-- the tuples that say all this, in the same order
abbrev pub tuples_of : List Entry → List Tuple
tuples_of entries = map tuple_of entries

-- what is still said at a moment: locks end
abbrev pub live_entries : ℕ → List Entry → List Entry
live_entries now entries = filter (λ e. is_live now (tuple_of e).until) entries

-- the node that an entry says
abbrev pub node_in : Entry → Option Node
node_in (OfNode n) = Some n
node_in (OfVersion row) = None
node_in (OfLock l) = None
node_in (OfDead u) = None
node_in (OfGone id) = None

-- the version that an entry says
abbrev pub version_in : Entry → Option VersionRow
version_in (OfNode n) = None
version_in (OfVersion row) = Some row
version_in (OfLock l) = None
version_in (OfDead u) = None
version_in (OfGone id) = None

-- the lock that an entry says
abbrev pub lock_in : Entry → Option Lock
lock_in (OfNode n) = None
lock_in (OfVersion row) = None
lock_in (OfLock l) = Some l
lock_in (OfDead u) = None
lock_in (OfGone id) = None

-- the file that an entry says to be gone
abbrev pub gone_in : Entry → Option FileId
gone_in (OfNode n) = None
gone_in (OfVersion row) = None
gone_in (OfLock l) = None
gone_in (OfDead u) = None
gone_in (OfGone id) = Some id

-- the nodes that entries say, in their order
abbrev pub nodes_of : List Entry → List Node
nodes_of entries = filter_map node_in entries

-- the versions that entries say, in their order
abbrev pub versions_of : List Entry → List VersionRow
versions_of entries = filter_map version_in entries

-- the locks that entries say, in their order
abbrev pub locks_of : List Entry → List Lock
locks_of entries = filter_map lock_in entries

-- the files that entries say to be gone, in their order
abbrev pub gone_of : List Entry → List FileId
gone_of entries = filter_map gone_in entries

-- two file ids have one number
abbrev pub same_file : FileId → FileId → Bool
same_file a b = a.0 == b.0

-- the node of a name in a directory
abbrev pub node_at : List Node → ℕ → List ℕ → Option Node
node_at nodes dir name = find (λ (n : Node). (dir == n.parent.0) && bytes_eq name n.name) nodes

-- the node of a file
abbrev pub node_of : List Node → FileId → Option Node
node_of nodes id = find (λ (n : Node). same_file n.id id) nodes

-- a version of a file
abbrev pub version_of : List VersionRow → FileId → ℕ → Option VersionRow
version_of rows id number = find (λ (r : VersionRow). same_file id r.id && (number == r.number)) rows

-- the lock on a file
abbrev pub lock_on : List Lock → FileId → Option Lock
lock_on locks id = find (λ (l : Lock). same_file id l.file) locks

-- by the kind: the first for a file, the second for a directory
abbrev pub if_file : {A : Type 0} → Kind → A → A → A
if_file File a b = a
if_file Dir a b = b

-- what is reached from a directory by its number, or the refusal where there is none
abbrev pub in_directory : {A : Type 0} → Option Node → (ℕ → Result A Refusal) → Result A Refusal
in_directory None reach = Err NoEntry
in_directory (Some n) reach = if_file n.kind (Err NotDir) (reach n.id.0)

-- a node that has to be a file
abbrev pub as_file : Option Node → Result Node Refusal
as_file None = Err NoEntry
as_file (Some n) = if_file n.kind (Ok n) (Err IsDir)

-- the file of these names from a directory down, or the first refusal on the way
abbrev pub file_at : List Node → ℕ → List (List ℕ) → Result Node Refusal
file_at nodes dir [] = Err NoEntry
file_at nodes dir (name ∷ []) = as_file (node_at nodes dir name)
file_at nodes dir (name ∷ next ∷ names) =
    in_directory (node_at nodes dir name) (λ below. file_at nodes below (next ∷ names))

-- the agent, the incarnation and the session that hold a lock
abbrev pub held : Lock → ℕ × ℕ × ℕ
held l = (l.agent, l.incarnation, l.session)

-- what an open sees of a file
abbrev pub sight_of : List Entry → Node → Sight
sight_of entries n =
    record {
      id = n.id;
      newest = n.newest;
      row = version_of (versions_of entries) n.id n.newest;
      lock = option_map held (lock_on (locks_of entries) n.id);
    }

-- it holds of each item
abbrev pub Each : {A : Type 0} → (A → Type 0) → List A → Type 0
Each P [] = Unit {0}
Each P (x ∷ xs) = P x × Each P xs

-- no two items go together
abbrev pub Apart : {A : Type 0} → (A → A → Bool) → List A → Type 0
Apart together [] = Unit {0}
Apart together (x ∷ xs) = (list_any (together x) xs ≡ false) × Apart together xs

-- two nodes have one name in one directory
abbrev pub same_place : Node → Node → Bool
same_place a b = (a.parent.0 == b.parent.0) && bytes_eq a.name b.name

-- two rows have one number of one file
abbrev pub same_version : VersionRow → VersionRow → Bool
same_version a b = same_file a.id b.id && (a.number == b.number)

-- the numbers of a node fit: versions to 1,000,000, lengths to 65,536
pub record IsNode (n : Node) : Type 0 where
  pub id : n.id.0 < 2 ^ 64
  pub parent : n.parent.0 < 2 ^ 64
  pub newest : n.newest ≤ 1000000
  pub size : n.size ≤ 65536

-- the numbers of a version fit, and it is not from later
pub record IsVersion (now : ℕ) (row : VersionRow) : Type 0 where
  pub fits : IsRow row
  pub number : row.number ≤ 1000000
  pub length : row.length ≤ 65536
  pub incarnation : row.upload.incarnation < 2 ^ 24
  pub time : row.time ≤ now

-- the numbers of a lock fit
pub record IsLock (l : Lock) : Type 0 where
  pub file : l.file.0 < 2 ^ 64
  pub agent : l.agent < 2 ^ 8
  pub incarnation : l.incarnation < 2 ^ 24
  pub session : l.session < 2 ^ 64

-- the numbers of a dead upload fit
pub record IsDead (u : UploadNo) : Type 0 where
  pub agent : u.agent < 2 ^ 8
  pub incarnation : u.incarnation < 2 ^ 24
  pub count : u.count < 2 ^ 32

-- what a tuple says is in its ranges
abbrev pub IsEntry : ℕ → Entry → Type 0
IsEntry now (OfNode n) = IsNode n
IsEntry now (OfVersion row) = IsVersion now row
IsEntry now (OfLock l) = IsLock l
IsEntry now (OfDead u) = IsDead u
IsEntry now (OfGone id) = id.0 < 2 ^ 64

-- a node with a newest version is a file that has the row of that number and length; one without has the length 0
abbrev pub HasNewest : List VersionRow → Node → (newest : ℕ) → Type 0
HasNewest rows n zero = n.size ≡ 0
HasNewest rows n (suc v) =
    (n.kind ≡ File) × MatchOption (version_of rows n.id (suc v)) ⊥ (λ row. row.length ≡ n.size)

-- a version is of a file and not above its newest one, or of a file that is gone
abbrev pub IsOf : Option Node → List FileId → VersionRow → Type 0
IsOf None gone row = list_any (same_file row.id) gone ≡ true
IsOf (Some n) gone row = (n.kind ≡ File) × (row.number ≤ n.newest)

-- what the tuples of a space say stands for a tree, at a moment
pub record IsTree (now : ℕ) (entries : List Entry) : Type 0 where
  pub ranges : Each (IsEntry now) entries
  pub ids : Apart (λ a b. same_file a.id b.id) (nodes_of entries)
  pub places : Apart same_place (nodes_of entries)
  pub locks : Apart (λ a b. same_file a.file b.file) (locks_of (live_entries now entries))
  pub versions : Apart same_version (versions_of entries)
  pub gone : Apart same_file (gone_of entries)
  pub newest : Each (λ n. HasNewest (versions_of entries) n n.newest) (nodes_of entries)
  pub numbers : Each (λ row. 1 ≤ row.number) (versions_of entries)
  pub owners : Each (λ row. IsOf (node_of (nodes_of entries) row.id) (gone_of entries) row) (versions_of entries)
  pub buried : Each (λ id. node_of (nodes_of entries) id ≡ None) (gone_of entries)

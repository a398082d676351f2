use Rattle.std.specs.Prelude.{◌≡◌, ℕ, ◌-◌, ◌^◌, ◌<◌, List, [], ◌∷◌, ◌++◌, codes, length, map, Option, Some, None, slice_get, unwrap_or, Bool, true, false, if◌then◌else◌, zero, suc}
use Rattle.std.specs.Option.{option_map, option_to_list}
use Rattle.std.specs.Str.{bytes_eq}
use Rattle.scfs_base.specs.declared.naming.FileId.{FileId}
use Rattle.scfs_schedule.specs.declared.types.Refusal.{Refusal}
use Rattle.scfs_schedule.specs.declared.types.Refusal.TheVariants as refusals
use Rattle.scfs_tuples.specs.declared.types.Field.{Field}
use Rattle.scfs_tuples.specs.declared.types.Field.TheVariants.{Num, Text}
use Rattle.scfs_tuples.specs.declared.types.Tuple.{Tuple}
use Rattle.scfs_tuples.specs.declared.types.Want.{Want}
use Rattle.scfs_tuples.specs.declared.types.Want.TheVariants.{Eq, Any, Bind}
use Rattle.scfs_tuples.specs.declared.types.Cond.{Cond}
use Rattle.scfs_tuples.specs.declared.types.Cond.TheVariants as conds
use Rattle.scfs_tuples.specs.declared.types.StepResult.{StepResult}
use Rattle.scfs_tuples.specs.declared.types.StepResult.TheVariants.{Did, Refused}
use Rattle.scfs_tuples.specs.declared.types.Reply.{Reply}
use Rattle.scfs_anchor.specs.Fields.{number_at, small_at, byte_at, digest_at}
use Rattle.scfs_anchor.specs.Plans.{holder}
use Rattle.scfs_anchor.specs.declared.seen.VersionRow.{VersionRow}
use Rattle.scfs_anchor.specs.declared.seen.Sight.{Sight}

-- the tuple of a version
abbrev pub version_tuple : VersionRow → Tuple
version_tuple row =
    record {
      fields =
          Text (codes "ver") ∷ Num row.id.0 ∷ Num row.number ∷ Text row.root.0 ∷ Text row.content.0 ∷ Num row.length
          ∷ Num row.upload.agent ∷ Num row.upload.incarnation ∷ Num row.upload.count ∷ Num row.time ∷ [];
      until = None;
    }

-- the tuple of a lock on a file that agent, incarnation and session hold until a moment
abbrev pub lock_tuple : FileId → ℕ × ℕ × ℕ → Option ℕ → Tuple
lock_tuple id held until =
    record {
      fields = Text (codes "lock") ∷ Num id.0 ∷ Num held.0 ∷ Num held.1 ∷ Num held.2 ∷ [];
      until = until;
    }

-- a row whose numbers and digests fit their fields
pub record IsRow (row : VersionRow) : Type 0 where
  pub number : row.number < 2 ^ 32
  pub root : length row.root.0 ≡ 32
  pub content : length row.content.0 ≡ 32
  pub length : row.length < 2 ^ 32
  pub agent : row.upload.agent < 2 ^ 8
  pub incarnation : row.upload.incarnation < 2 ^ 32
  pub count : row.upload.count < 2 ^ 32

-- the holder of a lock, whose numbers fit their fields
pub record IsHolder (held : ℕ × ℕ × ℕ) : Type 0 where
  pub agent : held.0 < 2 ^ 8
  pub incarnation : held.1 < 2 ^ 32

-- a row, where there is one, fits its fields
abbrev pub IfRow : Option VersionRow → Type 0
IfRow None = Unit {0}
IfRow (Some row) = IsRow row

-- a holder, where there is one, fits its fields
abbrev pub IfHolder : Option (ℕ × ℕ × ℕ) → Type 0
IfHolder None = Unit {0}
IfHolder (Some held) = IsHolder held

-- the reply to an open shows a sight: its last two variables stand for the file's id and its newest version, and it has the
-- tuples of the version that is opened and of the lock, where there are such
pub record ShowsSight (reply : Reply) (sight : Sight) : Type 0 where
  pub before : List Field
  pub until : Option ℕ
  pub result : reply.result ≡ Did (before ++ Num sight.id.0 ∷ Num sight.newest ∷ []) 0
      (map version_tuple (option_to_list sight.row) ∷ map (λ held. lock_tuple sight.id held until) (option_to_list sight.lock) ∷ [])
  pub newest : sight.newest < 2 ^ 32
  pub row : IfRow sight.row
  pub lock : IfHolder sight.lock

-- the reply to a look at the versions of a file shows these rows
pub record ShowsRows (reply : Reply) (rows : List VersionRow) : Type 0 where
  pub bound : List Field
  pub result : reply.result ≡ Did bound 0 (map version_tuple rows ∷ [])
  pub fit : (row : VersionRow) (k : ℕ) → slice_get rows k ≡ Some row → IsRow row

-- the row that fields hold
abbrev pub row_in : List Field → VersionRow
row_in fields =
    record {
      id = record { 0 = number_at fields 1 };
      number = small_at fields 2;
      root = digest_at fields 3;
      content = digest_at fields 4;
      length = small_at fields 5;
      upload = record { agent = byte_at fields 6; incarnation = small_at fields 7; count = small_at fields 8 };
      time = number_at fields 9;
    }

-- the holder of a lock that fields hold
abbrev pub holder_in : List Field → ℕ × ℕ × ℕ
holder_in fields = (byte_at fields 2, small_at fields 3, number_at fields 4)

-- the tuples that a pattern of the step showed
abbrev pub shown : List (List Tuple) → ℕ → List Tuple
shown rows at = unwrap_or (slice_get rows at) []

-- what fields and tuples say of a file that is opened
abbrev pub sight_in : List Field → List (List Tuple) → Sight
sight_in bound rows =
    record {
      id = record { 0 = number_at bound (length bound - 2) };
      newest = small_at bound (length bound - 1);
      row = option_map (λ (t : Tuple). row_in t.fields) (slice_get (shown rows 0) 0);
      lock = option_map (λ (t : Tuple). holder_in t.fields) (slice_get (shown rows 1) 0);
    }

-- what a result says of a file that is opened; one that was refused says nothing
abbrev pub sight_of : StepResult → Sight
sight_of (Did bound taken rows) = sight_in bound rows
sight_of (Refused index tuple) = sight_in [] []

-- the rows of a result
abbrev pub rows_of : StepResult → List VersionRow
rows_of (Did bound taken rows) = map (λ (t : Tuple). row_in t.fields) (shown rows 0)
rows_of (Refused index tuple) = []

-- whether a pattern is of this shape
abbrev pub is_shape : List Want → List ℕ → Bool
is_shape [] shape = false
is_shape (Eq (Text text) ∷ wants) shape = bytes_eq text shape
is_shape (Eq (Num n) ∷ wants) shape = false
is_shape (Any ∷ wants) shape = false
is_shape (Bind v ∷ wants) shape = false

-- the number that is wanted of a field, if there is one
abbrev pub wanted : Option Want → Option ℕ
wanted None = None
wanted (Some (Eq (Num n))) = Some n
wanted (Some (Eq (Text text))) = None
wanted (Some Any) = None
wanted (Some (Bind v)) = None

-- any field will do
abbrev pub is_any : Option Want → Bool
is_any None = false
is_any (Some (Eq field)) = false
is_any (Some Any) = true
is_any (Some (Bind v)) = false

-- a node that is needed is not there: of any kind, a directory, or a file
abbrev pub missing_node : Option ℕ → Refusal
missing_node None = refusals.NoEntry
missing_node (Some zero) = refusals.NotDir
missing_node (Some (suc kind)) = refusals.IsDir

-- a planned tuple is gone: the mark of a gone file, or a version
abbrev pub changed : List Want → ℕ → Refusal
changed wants version = refusals.Changed (record { 0 = unwrap_or (wanted (slice_get wants 1)) 0 }) version

-- why a step is refused where a condition fails, by the tuple that was found
abbrev pub refusal_of : Cond → Option Tuple → Refusal
refusal_of (conds.Need pattern) found =
    if is_shape pattern.wants (codes "ver") then refusals.NoVersion else missing_node (wanted (slice_get pattern.wants 4))
refusal_of (conds.NoneOf pattern) found =
    if is_shape pattern.wants (codes "lock") then refusals.Locked (holder found)
    else (if is_any (slice_get pattern.wants 3) then refusals.NotEmpty else refusals.Exists)
refusal_of (conds.Take pattern) found =
    if is_shape pattern.wants (codes "gone") then changed pattern.wants 0
    else (if is_shape pattern.wants (codes "ver") then changed pattern.wants (unwrap_or (wanted (slice_get pattern.wants 2)) 0) else refusals.LockLost)
refusal_of (conds.TakeAll pattern) found = refusals.LockLost

-- why a condition refused a step; LockLost where there is none
abbrev pub refused_by : Option Cond → Option Tuple → Refusal
refused_by None found = refusals.LockLost
refused_by (Some cond) found = refusal_of cond found

-- why a step is refused where its condition of this number fails
abbrev pub refusal_at : List Cond → ℕ → Option Tuple → Refusal
refusal_at conds index found = refused_by (slice_get conds index) found

-- why a step was refused
abbrev pub refusal_in : List Cond → StepResult → Refusal
refusal_in conds (Did bound taken rows) = refusals.LockLost
refusal_in conds (Refused index tuple) = refusal_at conds index tuple

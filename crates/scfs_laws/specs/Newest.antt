use Rattle.std.specs.Prelude.{◌≡◌, ℕ, List, [], ◌∷◌, fold, Bool, false, ◌==◌, if◌then◌else◌, Option, Some, None}
use Rattle.std.specs.List.{list_any}
use Rattle.scfs_base.specs.declared.naming.FileId.{FileId}
use Rattle.scfs_base.specs.declared.naming.RequestNo.{RequestNo}
use Rattle.scfs_schedule.specs.declared.types.Line.{Line}
use Rattle.scfs_schedule.specs.declared.types.Line.TheVariants as lines
use Rattle.scfs_schedule.specs.declared.types.Src.{Src}
use Rattle.scfs_schedule.specs.declared.types.Src.TheVariants as sources
use Rattle.scfs_model.specs.Names.{same_file, same_request}
use Rattle.scfs_model.specs.History.{History}

-- The sentence on opens, over the lines of a history alone: the version of an opened line is that of the last committed line of its
-- file before the looked or locked line of its request.

-- the version of a file after a line: a committed line of the file says it
abbrev pub after_commit : FileId → (number : ℕ) → Line → ℕ
after_commit file number (lines.Committed request other version) = if same_file other file then version else number
after_commit file number other = number

-- the version of the last committed line of a file; 0 where there is none
abbrev pub last_committed : FileId → History → ℕ
last_committed file [] = 0
last_committed file (e ∷ past) = fold (after_commit file) (last_committed file past) e.lines

-- whether a line is the looked or the locked line of a request
abbrev pub is_service : RequestNo → Line → Bool
is_service request (lines.Looked other) = same_request other request
is_service request (lines.Locked other file until) = same_request other request
is_service request other = false

-- the part of a history before the entry that has the looked or locked line of a request (a request is served once; were there two
-- such entries, this would take the later one)
abbrev pub before_service : RequestNo → History → Option History
before_service request [] = None
before_service request (e ∷ past) = if list_any (is_service request) e.lines then Some past else before_service request past

-- a saw line: the request of an open, its file, and the version that the open saw
pub record Saw_line : Type 0 where
  pub request : RequestNo
  pub file : FileId
  pub number : ℕ

-- the latest saw line of an agent after a line
abbrev pub after_saw : (a : ℕ) → Option Saw_line → Line → Option Saw_line
after_saw a latest (lines.Saw request file number) =
    if request.agent == a then Some (record { request = request; file = file; number = number }) else latest
after_saw a latest other = latest

-- the latest saw line of an agent
abbrev pub latest_saw : (a : ℕ) → History → Option Saw_line
latest_saw a [] = None
latest_saw a (e ∷ past) = fold (after_saw a) (latest_saw a past) e.lines

-- a saw line's version was the newest of its file when its request was served
abbrev pub WasNewest : History → Saw_line → Type 0
WasNewest past saw = (before : History) × (before_service saw.request past ≡ Some before) × (saw.number ≡ last_committed saw.file before)

-- an open of this version, where this is the agent's latest saw line
abbrev pub IsNewest : History → Option Saw_line → (number : ℕ) → Type 0
IsNewest past None number = ⊥
IsNewest past (Some saw) number = (number ≡ saw.number) × WasNewest past saw

-- version 0 is empty, and any other one comes from the clouds
abbrev pub IsFrom : (number : ℕ) → Src → (size : ℕ) → Type 0
IsFrom number source size = (number ≡ 0 → (source ≡ sources.Empty) × (size ≡ 0)) × (¬ (number ≡ 0) → source ≡ sources.Clouds)

-- a line after a history, where this is agent a's latest saw line before it: a saw line is of the newest version of its file, and an opened
-- line of the agent is of that of its latest saw line. An open says its saw line when it is told its sight, an agent has one call at a time,
-- and so no other open of it says a saw line before this one is opened, refused or lost in a crash
abbrev pub IsShown : History → (a : ℕ) → Option Saw_line → Line → Type 0
IsShown past a latest (lines.Saw request file number) = WasNewest past (record { request = request; file = file; number = number })
IsShown past a latest (lines.Opened b h number source size) = b ≡ a → IsNewest past latest number × IsFrom number source size
IsShown past a latest other = Unit {0}

-- each of the lines of an entry, in their order
abbrev pub AreShown : History → (a : ℕ) → Option Saw_line → List Line → Type 0
AreShown past a latest [] = Unit {0}
AreShown past a latest (l ∷ ls) = IsShown past a latest l × AreShown past a (after_saw a latest l) ls

-- each saw line and each opened line of a history
abbrev pub OpensNewest : History → Type 0
OpensNewest [] = Unit {0}
OpensNewest (e ∷ past) = ((a : ℕ) → AreShown past a (latest_saw a past) e.lines) × OpensNewest past

use Rattle.std.specs.Prelude.{◌≡◌, ◌≢◌, ◌⊎◌, ℕ, ◌+◌, ◌<◌, ◌^◌, List, [], ◌∷◌, ◌++◌, length, ◌==◌, if◌then◌else◌, Some, All, Contains}
use Rattle.std.specs.List.{AllPairs}
use Rattle.scfs_base.specs.Limits.{turns_limit}
use Rattle.scfs_base.specs.declared.naming.RequestNo.{RequestNo}
use Rattle.scfs_base.specs.declared.cloud.CloudAnswer.TheVariants as answers
use Rattle.scfs_schedule.specs.declared.types.Event.{Event}
use Rattle.scfs_schedule.specs.declared.types.Event.TheVariants as events
use Rattle.scfs_schedule.specs.declared.types.Header.{Header}
use Rattle.scfs_schedule.specs.declared.types.Line.TheVariants as lines
use Rattle.scfs_schedule.specs.declared.types.Src.TheVariants as sources
use Rattle.scfs_model.specs.Names.{upload_name}
use Rattle.scfs_model.specs.Format.{Setup, clouds_of, sealed, object_at}
use Rattle.scfs_model.specs.UnitFormat.{under}
use Rattle.scfs_model.specs.History.{Of_answer, Entry, History}
use Rattle.scfs_model.specs.States.{sum_of}
use Rattle.scfs_model.specs.Tree.{version_at}
use Rattle.scfs_model.specs.Layers.{Row, Version, rows, row_of}
use Rattle.scfs_model.specs.Runs.{actual, Happens}
use Rattle.scfs_durable.specs.Safe.{IsSafe}

-- Opens that are given the objects of their version. An open begins with the entry of its sight; of the entries after that one the newest
-- comes first.

-- an agent says, in this entry after a history, that it saw this version of the file, which is above 0 and in the tree
pub record SeesVersion (s : Setup) (sight : Entry) (past : History) (a : ℕ) (close : Version) : Type 0 where
  pub request : RequestNo
  pub of_agent : request.agent ≡ a
  pub saw : Contains sight.lines (lines.Saw request close.file close.number)
  pub above : close.number ≢ 0
  pub is_row : version_at rows (actual s past).tree.versions close.file close.number ≡ Some (row_of s close)

-- from the sight on, cloud c was asked for what it has under a name, by the request of this number
abbrev pub WasAsked : (sight : Entry) → History → RequestNo → (c : ℕ) → (name : List ℕ) → Type 0
WasAsked sight [] request c name = Contains sight.lines (lines.Get request c name)
WasAsked sight (e ∷ new) request c name = Contains e.lines (lines.Get request c name) ⊎ WasAsked sight new request c name

-- in an entry the agent that made a request was given cloud c's answer to it, which is these bytes
abbrev pub IsGiven : Setup → Entry → RequestNo → (c : ℕ) → (bytes : List ℕ) → Type 0
IsGiven s e request c bytes =
    (e.event ≡ events.Give c) × (e.message ≡ Some (Of_answer request (answers.Bytes bytes)))
    × Contains e.lines (lines.Gave c request (sum_of s (answers.Bytes bytes)))

-- since the sight agent a was given, in answer to a Get that it asked since the sight, exactly cloud c's object of a close, as its upload
-- sealed it
abbrev pub WasGivenOwn : Setup → (sight : Entry) → History → (a : ℕ) → Version → (c : ℕ) → Type 0
WasGivenOwn s sight [] a close c = ⊥
WasGivenOwn s sight (e ∷ new) a close c =
    ((request : RequestNo) × (request.agent ≡ a) × WasAsked sight new request c (upload_name close.upload)
    × IsGiven s e request c (object_at (sealed s close.upload close.bytes) c))
    ⊎ WasGivenOwn s sight new a close c

-- how many turns an agent has in an event, and in these entries
abbrev pub turns_in : (a : ℕ) → Event → ℕ
turns_in a (events.Turn b) = if b == a then 1 else 0
turns_in a other = 0

abbrev pub turns_since : (a : ℕ) → History → ℕ
turns_since a [] = 0
turns_since a (e ∷ new) = turns_in a e.event + turns_since a new

-- in these entries it does not crash
abbrev pub StaysUp : (a : ℕ) → History → Type 0
StaysUp a [] = Unit {0}
StaysUp a (e ∷ new) = (e.event ≢ events.Crash a) × StaysUp a new

-- it has fewer than eight turns, and does not crash
pub record IsLeft (a : ℕ) (new : History) : Type 0 where
  pub few_turns : turns_since a new < turns_limit
  pub stays_up : StaysUp a new

-- more than f different clouds each gave it their own object
pub record IsGivenEnough (s : Setup) (sight : Entry) (new : History) (a : ℕ) (close : Version) : Type 0 where
  pub clouds : List ℕ
  pub differ : AllPairs (λ c d. c ≢ d) clouds
  pub are_enough : s.header.f < length clouds
  pub gave : All (λ c. (c < clouds_of s) × WasGivenOwn s sight new a close c) clouds

-- a line of these entries tells that the agent opened, from the clouds, a version of this number with so many bytes
abbrev pub WasOpened : History → (a number size : ℕ) → Type 0
WasOpened [] a number size = ⊥
WasOpened (e ∷ new) a number size =
    ((h : ℕ) × Contains e.lines (lines.Opened a h number sources.Clouds size)) ⊎ WasOpened new a number size

-- the law for users: an open that is given the own objects of more than f clouds before its eighth turn is answered with the version that
-- it saw, whatever all other clouds answer
abbrev pub OpensAreAnswered : Type 0
OpensAreAnswered =
    (header : Header) (new : History) (sight : Entry) (past : History) (a : ℕ) (close : Version) →
    let s : Setup = under header in
    length (new ++ sight ∷ past) < 2 ^ 24 → Happens s (new ++ sight ∷ past) → SeesVersion s sight past a close → length close.bytes < 2 ^ 32 → IsLeft a new
    → IsGivenEnough s sight new a close → WasOpened new a close.number (length close.bytes)

-- and so each open of a safe version is, where the clouds that hold it gave the agent what they hold
abbrev pub SafeVersionsAreOpened : Type 0
SafeVersionsAreOpened =
    (header : Header) (new : History) (sight : Entry) (past : History) (a : ℕ) (v : Row) →
    let s : Setup = under header in
    (safe : IsSafe s past v) → length (new ++ sight ∷ past) < 2 ^ 24 → Happens s (new ++ sight ∷ past) → SeesVersion s sight past a safe.close
    → length safe.close.bytes < 2 ^ 32 → IsLeft a new → All (WasGivenOwn s sight new a safe.close) safe.clouds → WasOpened new a v.number v.length

use Rattle.std.specs.Prelude.{◌≡◌, ℕ, ◌+◌, List, [], ◌∷◌, ◌++◌, length, find, fold, Bool, true, false, ◌&&◌, ◌==◌, if◌then◌else◌, Option, Some, None, Contains}
use Rattle.std.specs.List.{list_any}
use Rattle.scfs_base.specs.declared.naming.FileId.{FileId}
use Rattle.scfs_base.specs.declared.naming.RequestNo.{RequestNo}
use Rattle.scfs_base.specs.declared.naming.UploadNo.{UploadNo}
use Rattle.scfs_base.specs.declared.cloud.CloudAnswer.{CloudAnswer}
use Rattle.scfs_schedule.specs.declared.types.Call.TheVariants as calls
use Rattle.scfs_schedule.specs.declared.types.Event.{Event}
use Rattle.scfs_schedule.specs.declared.types.Event.TheVariants as events
use Rattle.scfs_schedule.specs.declared.types.Line.{Line}
use Rattle.scfs_schedule.specs.declared.types.Line.TheVariants as lines
use Rattle.scfs_schedule.specs.declared.types.Src.{Src}
use Rattle.scfs_schedule.specs.declared.types.Src.TheVariants as sources
use Rattle.scfs_session.specs.Contents.{bytes_from, resized, written}
use Rattle.scfs_model.specs.Lists.{if_some}
use Rattle.scfs_model.specs.Names.{same_file, upload_no, upload_name}
use Rattle.scfs_model.specs.Format.{Setup, sealed}
use Rattle.scfs_model.specs.History.{Message, Of_request, Of_answer, Entry, History}
use Rattle.scfs_model.specs.Reading.{Reading, is_awaited, piece_in, with_piece}

-- The bytes that sessions hold, followed through the events, their lines and the clouds' answers, without the file map.

-- the bytes with which a session was closed, and the upload that they become
pub record Close_seen : Type 0 where
  pub upload : UploadNo
  pub bytes : List ℕ

-- a completed version, and the close that it is
pub record Version_seen : Type 0 where
  pub file : FileId
  pub number : ℕ
  pub close : Close_seen

-- what was seen of an agent: its incarnation; the bytes of each of its sessions, by the session's number; its latest close in each
-- incarnation; and the reading from the clouds of the version in its latest sight
pub record Agent_seen : Type 0 where
  pub incarnation : ℕ
  pub bytes : (h : ℕ) → List ℕ
  pub close : (incarnation : ℕ) → Close_seen
  pub reading : Reading

-- what was seen so far: of each agent, by its number; and the versions, in the order in which they were completed
pub record Seen : Type 0 where
  pub agents : (a : ℕ) → Agent_seen
  pub versions : List Version_seen

-- a reading that begins, of the objects of a close: under its upload's name, and the root and the length of the seal of its bytes
abbrev pub new_reading : Setup → Close_seen → Reading
new_reading s y =
    record {
      name = upload_name y.upload;
      root = (sealed s y.upload y.bytes).root;
      size = length y.bytes;
      order = [];
      gets = [];
      pieces = [];
      turns = 0;
    }

-- before an agent's first close in an incarnation
abbrev pub no_close : (a incarnation : ℕ) → Close_seen
no_close a incarnation = record { upload = upload_no a incarnation 0; bytes = [] }

abbrev pub nothing_seen : Setup → Seen
nothing_seen s =
    record {
      agents = λ a. record { incarnation = 0; bytes = λ h. []; close = no_close a; reading = new_reading s (no_close a 0) };
      versions = [];
    }

-- what stands at each number, with this at one of them
abbrev pub set_at : {X : Type 0} → (ℕ → X) → (n : ℕ) → X → ℕ → X
set_at at n x m = if m == n then x else at m

abbrev pub of_agent : (a : ℕ) → (Agent_seen → Agent_seen) → Seen → Seen
of_agent a change x = record x { agents = set_at x.agents a (change (x.agents a)) }

abbrev pub with_bytes : (h : ℕ) → (bytes : List ℕ) → Agent_seen → Agent_seen
with_bytes h bytes y = record y { bytes = set_at y.bytes h bytes }

abbrev pub with_reading : (Reading → Reading) → Agent_seen → Agent_seen
with_reading change y = record y { reading = change y.reading }

-- the reading that begins at the sight of a file's version
abbrev pub is_version : FileId → (number : ℕ) → Version_seen → Bool
is_version file number v = same_file v.file file && (v.number == number)

abbrev pub reading_of : Setup → List Version_seen → FileId → (number : ℕ) → Reading
reading_of s versions file number = new_reading s (if_some (find (is_version file number) versions) (no_close 0 0) (λ (v : Version_seen). v.close))

-- a Get that was asked
abbrev pub with_get : RequestNo → (c : ℕ) → Reading → Reading
with_get request c r = record r { gets = r.gets ++ (record { request = request; cloud = c }) ∷ [] }

-- an answer that is given adds its piece, if it is good
abbrev pub after_answer : Setup → (c : ℕ) → RequestNo → CloudAnswer → Reading → Reading
after_answer s c request answer r = if is_awaited r c request then with_piece r (piece_in s r c answer) else r

abbrev pub after_message : Setup → (c : ℕ) → RequestNo → Option Message → Reading → Reading
after_message s c request None r = r
after_message s c request (Some (Of_request other)) r = r
after_message s c request (Some (Of_answer other answer)) r = after_answer s c request answer r

-- the bytes of an open, by its source
abbrev pub bytes_opened : Setup → Reading → Src → List ℕ
bytes_opened s r sources.Empty = []
bytes_opened s r sources.Clouds = s.format.unseal s.header.f r.pieces
-- not built yet
bytes_opened s r sources.Own = []
bytes_opened s r sources.Memory = []
bytes_opened s r sources.Disk = []

-- the bytes after the call that an event makes
abbrev pub edited : Event → List ℕ → List ℕ
edited (events.Call a (calls.Write h offset new)) bytes = written bytes offset new
edited (events.Call a (calls.Truncate h size)) bytes = resized bytes size
edited other bytes = bytes

-- the close of a session: an agent's uploads in an incarnation are numbered as its closes
abbrev pub with_close : (a h : ℕ) → Agent_seen → Agent_seen
with_close a h y =
    let upload = upload_no a y.incarnation ((y.close y.incarnation).upload.count + 1) in
    record y { close = set_at y.close y.incarnation (record { upload = upload; bytes = y.bytes h }) }

abbrev pub with_incarnation : (incarnation : ℕ) → Agent_seen → Agent_seen
with_incarnation incarnation y = record y { incarnation = incarnation }

-- what is seen after a line of an event. An agent's close is answered, or lost in a crash, before its next call, so the version that is
-- completed on its request is its latest close in the incarnation that asked
abbrev pub seen_line : Setup → Event → Option Message → Seen → Line → Seen
seen_line s event message x (lines.Opened a h number source size) = of_agent a (λ y. with_bytes h (bytes_opened s y.reading source) y) x
seen_line s event message x (lines.OkWrite a h size) = of_agent a (λ y. with_bytes h (edited event (y.bytes h)) y) x
seen_line s event message x (lines.OkTruncate a h size) = of_agent a (λ y. with_bytes h (edited event (y.bytes h)) y) x
seen_line s event message x (lines.Committed request file number) =
    record x { versions = x.versions ++ (record { file = file; number = number; close = (x.agents request.agent).close request.incarnation }) ∷ [] }
seen_line s event message x (lines.Saw request file number) =
    of_agent request.agent (with_reading (λ r. reading_of s x.versions file number)) x
seen_line s event message x (lines.Get request c name) = of_agent request.agent (with_reading (with_get request c)) x
seen_line s event message x (lines.Gave c request sum) = of_agent request.agent (with_reading (after_message s c request message)) x
seen_line s event message x (lines.Started a incarnation) = of_agent a (with_incarnation incarnation) x
seen_line s event message x other = x

-- whether a line says that a close closes no session that writes: it is refused, or that of a session that reads, or skipped
abbrev pub is_answer : Line → Bool
is_answer lines.Skip = true
is_answer (lines.No a why) = true
is_answer (lines.OkClose a h) = true
is_answer other = false

-- what is seen where an event with these lines begins: the close of a session that writes
abbrev pub seen_event : Event → List Line → Seen → Seen
seen_event (events.Call a (calls.Close h)) shown x = if list_any is_answer shown then x else of_agent a (with_close a h) x
seen_event other shown x = x

-- what is seen after a history
abbrev pub seen : Setup → History → Seen
seen s [] = nothing_seen s
seen s (e ∷ past) = fold (seen_line s e.event e.message) (seen_event e.event e.lines (seen s past)) e.lines

-- the bytes that session h of agent a holds
abbrev pub held : Setup → History → (a h : ℕ) → List ℕ
held s past a h = ((seen s past).agents a).bytes h

-- a line of bytes read stands only where that session is read, and shows the bytes that it holds, from the offset on, all of them
-- or as many as were asked
abbrev pub ShowsHeld : Setup → History → Entry → Type 0
ShowsHeld s past e =
    (a h : ℕ) (bytes : List ℕ) → Contains e.lines (lines.Data a h bytes)
    → (offset : ℕ) × (count : ℕ) × (e.event ≡ events.Call a (calls.Read h offset count)) × (bytes ≡ bytes_from (held s past a h) offset count)

-- each line of bytes read does
abbrev pub ReadsHeld : Setup → History → Type 0
ReadsHeld s [] = Unit {0}
ReadsHeld s (e ∷ past) = ShowsHeld s past e × ReadsHeld s past

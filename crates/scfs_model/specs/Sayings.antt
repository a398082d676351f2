use Rattle.std.specs.Prelude.{ℕ, List}
use Rattle.scfs_base.specs.declared.naming.FileId.{FileId}
use Rattle.scfs_base.specs.declared.naming.RequestNo.{RequestNo}
use Rattle.scfs_schedule.specs.declared.types.How.TheVariants as hows
use Rattle.scfs_schedule.specs.declared.types.Line.{Line}
use Rattle.scfs_schedule.specs.declared.types.Line.TheVariants as lines
use Rattle.scfs_schedule.specs.declared.types.Refusal.{Refusal}
use Rattle.scfs_schedule.specs.declared.types.Src.{Src}
use Rattle.scfs_model.specs.Tree.{Node}

-- what an agent says to its user. The lines of the space, of clouds and of requests are none of these.
pub data Saying : Type 0 where
  -- the sight of an open: the file and the number of its newest version
  Saw : RequestNo → FileId → (number : ℕ) → Saying
  Opened : (session number : ℕ) → Src → (size : ℕ) → Saying
  -- a new file; what is known of a node; bytes of a session; the lengths that a session has then
  Made : FileId → Saying
  Described : Node → Saying
  Reads_out : (session : ℕ) → (bytes : List ℕ) → Saying
  Wrote : (session size : ℕ) → Saying
  Truncated : (session size : ℕ) → Saying
  -- the close of a session that reads, and of one that writes as this version
  Ended : (session : ℕ) → Saying
  Stored : (session number : ℕ) → Saying
  Refuses : Refusal → Saying
  -- a renewal of the lock of a session was refused
  Lapsed : (session : ℕ) → Saying
  -- it goes down; it comes up in a new incarnation; it takes calls again
  Crashed : Saying
  Started : (incarnation : ℕ) → Saying
  Ready : Saying

-- the line in which agent a says it
abbrev pub said_by : (a : ℕ) → Saying → Line
said_by a (Saw request file number) = lines.Saw request file number
said_by a (Opened session number source size) = lines.Opened a session number source size
said_by a (Made id) = lines.OkCreate a id
said_by a (Described n) = lines.OkStat a n.kind n.id n.newest n.size hows.Fresh
said_by a (Reads_out session bytes) = lines.Data a session bytes
said_by a (Wrote session size) = lines.OkWrite a session size
said_by a (Truncated session size) = lines.OkTruncate a session size
said_by a (Ended session) = lines.OkClose a session
said_by a (Stored session number) = lines.Closed a session number
said_by a (Refuses why) = lines.No a why
said_by a (Lapsed session) = lines.Lapsed a session
said_by a Crashed = lines.Crashed a
said_by a (Started incarnation) = lines.Started a incarnation
said_by a Ready = lines.Ready a

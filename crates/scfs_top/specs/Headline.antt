use Rattle.std.specs.Prelude.{◌≡◌, ◌≤◌, ℕ, ◌+◌, List, [], ◌++◌, false, length, Option, Some, None, IfSome}
use Rattle.scfs_base.specs.Limits.{input_limit}
use Rattle.scfs_base.specs.Outside.{Takes, Puts, Rose}
use Rattle.scfs_schedule.specs.declared.types.Header.{Header}
use Rattle.scfs_schedule.specs.Reading.{read}
use Rattle.scfs_policy.specs.declared.rank.RankFacts.{RankFacts}
use Rattle.scfs_laws.specs.Held.{ReadsHeld}
use Rattle.scfs_laws.specs.Newest.{OpensNewest}
use Rattle.scfs_model.specs.History.{History, transcript}
use Rattle.scfs_model.specs.Runs.{Run}
use Rattle.scfs_model.specs.UnitFormat.{under}
use Rattle.scfs_laws.specs.Blocks.{NoClash}
use Rattle.scfs_live.specs.Edges.{GetsPart}
use Rattle.scfs_top.specs.declared.closing.Finish.{Finish}
use Rattle.scfs_durable.specs.Safe.{VersionsStaySafe}
use Rattle.scfs_world.specs.Happening.{IsPlayed}
use Rattle.scfs_top.specs.Finishing.{EndsWith}
use Rattle.scfs_top.specs.declared.closing.Filled.{Filled}
use Rattle.scfs_top.specs.declared.closing.Filled.TheVariants as filleds
use Rattle.scfs_top.specs.declared.closing.LastLine.{LastLine}
use Rattle.scfs_top.specs.declared.closing.Status.{Status}
use Rattle.scfs_top.specs.declared.closing.Status.TheVariants as statuses
use Rattle.scfs_top.specs.Closing.{closing_of, closing_text, closing_status, last_line_text, status_of}
use Rattle.scfs_top.specs.Edges.{GetsFront}
use Rattle.scfs_top.specs.Pace.{KeepsPace}
use Rattle.scfs_top.specs.Playing.{played}

-- out got this text; where writing failed, not all of it; where memory was wanting, a front of it
abbrev pub GetsText : Status → Option (List ℕ) → Option (List ℕ) → List ℕ → Type 0
GetsText statuses.Done before after text = Puts before after text
GetsText statuses.Usage before after text = Puts before after text
GetsText statuses.BadInput before after text = Puts before after text
GetsText statuses.ReadFault before after text = Puts before after text
GetsText statuses.TooLarge before after text = Puts before after text
GetsText statuses.Differs before after text = Puts before after text
GetsText statuses.WriteFault before after text = GetsPart before after text
GetsText statuses.Memory before after text = GetsFront before after text

-- the status is that of the last line, but where writing failed; where memory was wanting there is no last line
abbrev pub IsStatus : Status → Option LastLine → Type 0
IsStatus statuses.Done closing = statuses.Done ≡ closing_status closing
IsStatus statuses.Usage closing = statuses.Usage ≡ closing_status closing
IsStatus statuses.BadInput closing = statuses.BadInput ≡ closing_status closing
IsStatus statuses.ReadFault closing = statuses.ReadFault ≡ closing_status closing
IsStatus statuses.TooLarge closing = statuses.TooLarge ≡ closing_status closing
IsStatus statuses.Differs closing = statuses.Differs ≡ closing_status closing
IsStatus statuses.WriteFault closing = Unit {0}
IsStatus statuses.Memory closing = closing ≡ None

-- a text that ends with this last line was written, and the line gives the status; or writing it failed, and not all of it was written;
-- or memory was wanting, and nothing of it was
abbrev pub ClosesWith : List ℕ → LastLine → Option (List ℕ) → Option (List ℕ) → Status → Type 0
ClosesWith text last before after statuses.Done = Puts before after text × (statuses.Done ≡ status_of last)
ClosesWith text last before after statuses.Usage = Puts before after text × (statuses.Usage ≡ status_of last)
ClosesWith text last before after statuses.BadInput = Puts before after text × (statuses.BadInput ≡ status_of last)
ClosesWith text last before after statuses.ReadFault = Puts before after text × (statuses.ReadFault ≡ status_of last)
ClosesWith text last before after statuses.TooLarge = Puts before after text × (statuses.TooLarge ≡ status_of last)
ClosesWith text last before after statuses.Differs = Puts before after text × (statuses.Differs ≡ status_of last)
ClosesWith text last before after statuses.WriteFault = GetsPart before after text
ClosesWith text last before after statuses.Memory = Puts before after []

-- so it is of the last line alone
abbrev pub Closes : LastLine → Option (List ℕ) → Option (List ℕ) → Status → Type 0
Closes last before after status = ClosesWith (last_line_text last) last before after status

-- the last line after a history of so many events; none where playing had no finish, or memory was wanting for the last line
abbrev pub last_line : ℕ → Option Finish → Filled → Option LastLine
last_line count None filled = None
last_line count (Some finish) filled = closing_of count finish filled

-- The headline, of bytes taken from the input: there is a history of the events that are played of what the grammar reads in them,
-- under the header that stands in them. Its lines are those that agents, space and clouds make, each over the bytes that it was
-- really given; each read of a session shows the bytes that the session holds; each open is of the newest version, by the lines alone;
-- where at most f clouds lied each version stays on f + 1 others; and where no two different blocks share a digest it is a run of the file map, whatever the clouds answered. Out got its transcript and then
-- the last line, which the end of what is played and of the reading decide. Reading kept pace with what out got.
pub record ReplaysText (allows : RankFacts → ℕ → Type 0) (taken : List ℕ) (filled : Filled) (before after : Option (List ℕ)) (status : Status) : Type 0 where
  pub header : Header
  pub past : History
  pub finish : Option Finish
  pub stated : IfSome (played (read false taken)).header (λ stated. stated ≡ header)
  pub ends : EndsWith allows header past (played (read false taken)) finish
  pub plays : IsPlayed allows header past
  pub held : ReadsHeld (under header) past
  pub newest : OpensNewest past
  pub safe : VersionsStaySafe (under header) past
  pub run : NoClash header past → Run (under header) past
  pub wrote : GetsText status before after (transcript past ++ closing_text (last_line (length past) finish filled))
  pub decided : IsStatus status (last_line (length past) finish filled)
  pub pace : KeepsPace past taken before after

-- The whole of it: so it is of the bytes taken, where the source tells them. At the end of the input nothing is left.
pub record Replays (allows : RankFacts → ℕ → Type 0) (left left' before after : Option (List ℕ)) (filled : Filled) (status : Status) : Type 0 where
  pub taken : List ℕ
  pub takes : Takes left left' taken
  pub few : length taken ≤ input_limit + 1
  pub full : filled ≡ filleds.Full → length taken ≡ input_limit + 1
  pub nothing_left : filled ≡ filleds.End → IfSome left' (λ rest. rest ≡ [])
  pub replays : ReplaysText allows taken filled before after status

-- The call's promise: so it is for some ending of the reading, and of that ending the input's counts tell. Reading gave the end
-- only where the count of ends rose, and failed only where the count of faults did.
pub record ReplaysInput (allows : RankFacts → ℕ → Type 0) (left left' before after : Option (List ℕ)) (ends ends' faults faults' : ℕ) (status : Status) : Type 0 where
  pub filled : Filled
  pub replays : Replays allows left left' before after filled status
  pub ended : filled ≡ filleds.End → Rose ends ends'
  pub failed : filled ≡ filleds.Fault → Rose faults faults'

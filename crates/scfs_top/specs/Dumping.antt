-- What a dump of a schedule comes to.
use Rattle.std.specs.Prelude.{◌≡◌, ◌≤◌, ℕ, ◌+◌, List, [], ◌++◌, codes, false, length, Option, Some, None, IfSome, IsSome}
use Rattle.scfs_base.specs.Limits.{input_limit}
use Rattle.scfs_base.specs.Outside.{Takes, Rose}
use Rattle.scfs_policy.specs.declared.rank.RankFacts.{RankFacts}
use Rattle.scfs_schedule.specs.declared.types.Ending.TheVariants as endings
use Rattle.scfs_schedule.specs.declared.types.Header.{Header}
use Rattle.scfs_schedule.specs.Reading.{read}
use Rattle.scfs_laws.specs.Blocks.{NoClash}
use Rattle.scfs_laws.specs.Held.{ReadsHeld}
use Rattle.scfs_laws.specs.Mapped as to
use Rattle.scfs_laws.specs.Newest.{OpensNewest}
use Rattle.scfs_model.specs.History.{History}
use Rattle.scfs_model.specs.Layers.{Row, row_of}
use Rattle.scfs_model.specs.Runs.{actual, mapped, Run}
use Rattle.scfs_model.specs.States.{State}
use Rattle.scfs_model.specs.UnitFormat.{under}
use Rattle.scfs_durable.specs.Safe.{VersionsStaySafe}
use Rattle.scfs_world.specs.Happening.{IsPlayed}
use Rattle.scfs_world.specs.State.{WorldState}
use Rattle.scfs_top.specs.Closing.{last_line_text}
use Rattle.scfs_top.specs.Dump.{IsDump}
use Rattle.scfs_top.specs.Finishing.{EndsWith}
use Rattle.scfs_top.specs.Headline.{GetsText, IsStatus, last_line}
use Rattle.scfs_top.specs.Pace.{IsUnfinished, piece_limit}
use Rattle.scfs_top.specs.Playing.{played}
use Rattle.scfs_top.specs.declared.closing.Filled.{Filled}
use Rattle.scfs_top.specs.declared.closing.Filled.TheVariants as filleds
use Rattle.scfs_top.specs.declared.closing.Finish.{Finish}
use Rattle.scfs_top.specs.declared.closing.Finish.TheVariants as finishes
use Rattle.scfs_top.specs.declared.closing.LastLine.{LastLine}
use Rattle.scfs_top.specs.declared.closing.LastLine.TheVariants as lasts
use Rattle.scfs_top.specs.declared.closing.Status.{Status}

-- the line with the dump of a state's tree
abbrev pub IsDumpLine : State Row → List ℕ → Type 0
IsDumpLine state line = (dump : List ℕ) × IsDump state.clock state.tree dump × (line ≡ dump ++ codes "\n")

-- a run that was played to the end of its text left a world
abbrev pub IsWhole : LastLine → Option WorldState → Type 0
IsWhole (lasts.Done events) world = IsSome world
IsWhole lasts.Usage world = Unit {0}
IsWhole (lasts.BadInput line fault) world = Unit {0}
IsWhole (lasts.BadJournal line fault) world = Unit {0}
IsWhole (lasts.ReadFault which) world = Unit {0}
IsWhole (lasts.TooLarge which) world = Unit {0}
IsWhole (lasts.Differs line kept made) world = Unit {0}

-- What is written behind a run, by its last line and the state that it leaves: where it was played to the end of its text, a line
-- with the dump of the state's tree, and then the last line; else the last line alone, where there is one.
abbrev pub IsOutput : Option LastLine → State Row → List ℕ → Type 0
IsOutput None state text = text ≡ []
IsOutput (Some (lasts.Done events)) state text =
    (line : List ℕ) × IsDumpLine state line × (text ≡ line ++ last_line_text (lasts.Done events))
IsOutput (Some lasts.Usage) state text = text ≡ last_line_text lasts.Usage
IsOutput (Some (lasts.BadInput line fault)) state text = text ≡ last_line_text (lasts.BadInput line fault)
IsOutput (Some (lasts.BadJournal line fault)) state text = text ≡ last_line_text (lasts.BadJournal line fault)
IsOutput (Some (lasts.ReadFault which)) state text = text ≡ last_line_text (lasts.ReadFault which)
IsOutput (Some (lasts.TooLarge which)) state text = text ≡ last_line_text (lasts.TooLarge which)
IsOutput (Some (lasts.Differs line kept made)) state text = text ≡ last_line_text (lasts.Differs line kept made)

-- Reading ends soon: the bytes taken are early ones and at most one piece, and no line of the early ones ends what is played. So at most
-- a piece was taken behind the line at which the run stopped.
pub record EndsSoon (taken : List ℕ) : Type 0 where
  pub early : List ℕ
  pub piece : List ℕ
  pub whole : taken ≡ early ++ piece
  pub few : length piece ≤ piece_limit
  pub goes_on : IsUnfinished (played (read false early))

-- what a history leaves is what the file map has, with a row in place of each close
abbrev pub IsOfMap : Header → History → Type 0
IsOfMap header past = actual (under header) past ≡ to.state (row_of (under header)) (mapped (under header) past)

-- Of bytes taken from the input: there is a history of the events that are played of what the grammar reads in them, under the header
-- that stands in them, of which all holds that holds of one that is replayed. Where it was played to its end and no two different blocks
-- share a digest, the state that it leaves is that of the file map. Out got what is written behind it, and nothing else; where writing
-- failed not all of that, and where memory was wanting nothing. The status is that of a replay.
pub record DumpsText (allows : RankFacts → ℕ → Type 0) (taken : List ℕ) (filled : Filled) (before after : Option (List ℕ)) (status : Status) : Type 0 where
  pub header : Header
  pub past : History
  pub finish : Option Finish
  pub stated : IfSome (played (read false taken)).header (λ stated. stated ≡ header)
  pub ends : EndsWith allows header past (played (read false taken)) finish
  pub plays : IsPlayed allows header past
  pub held : ReadsHeld (under header) past
  pub newest : OpensNewest past
  pub safe : VersionsStaySafe (under header) past
  pub run : NoClash header past → Run (under header) past
  pub mapped : finish ≡ Some (finishes.Text endings.Ended) → NoClash header past → IsOfMap header past
  pub text : List ℕ
  pub output : IsOutput (last_line (length past) finish filled) (actual (under header) past) text
  pub wrote : GetsText status before after text
  pub decided : IsStatus status (last_line (length past) finish filled)
  pub soon : EndsSoon taken

-- The call's promise: so it is of the bytes taken, where the source tells them, for some ending of the reading. At the end of the input
-- nothing is left. Reading gave the end only where the count of ends rose, and failed only where the count of faults did.
pub record DumpsInput (allows : RankFacts → ℕ → Type 0) (left left' before after : Option (List ℕ)) (ends ends' faults faults' : ℕ) (status : Status) : Type 0 where
  pub filled : Filled
  pub taken : List ℕ
  pub takes : Takes left left' taken
  pub few : length taken ≤ input_limit + 1
  pub full : filled ≡ filleds.Full → length taken ≡ input_limit + 1
  pub nothing_left : filled ≡ filleds.End → IfSome left' (λ rest. rest ≡ [])
  pub dumps : DumpsText allows taken filled before after status
  pub ended : filled ≡ filleds.End → Rose ends ends'
  pub failed : filled ≡ filleds.Fault → Rose faults faults'

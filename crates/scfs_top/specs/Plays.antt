use Rattle.std.specs.Prelude.{◌≡◌, ◌≤◌, ℕ, ◌+◌, List, [], ◌∷◌, ◌++◌, false, length, Option, Some, None, IfSome, IsSome, Result, Ok, Err}
use Rattle.std.specs.List.{flat_map}
use Rattle.scfs_base.specs.Limits.{input_limit}
use Rattle.scfs_base.specs.Outside.{Takes}
use Rattle.scfs_policy.specs.declared.rank.RankFacts.{RankFacts}
use Rattle.scfs_schedule.specs.declared.types.Ending.TheVariants as endings
use Rattle.scfs_schedule.specs.declared.types.Event.{Event}
use Rattle.scfs_schedule.specs.declared.types.Header.{Header}
use Rattle.scfs_schedule.specs.Grammar.{IsHeader}
use Rattle.scfs_schedule.specs.Reading.{IsAtEvents, Read, gives, read, with_header}
use Rattle.scfs_schedule.specs.Text.{numbered}
use Rattle.scfs_model.specs.History.{Entry, History, events_then, transcript}
use Rattle.scfs_laws.specs.Held.{ReadsHeld}
use Rattle.scfs_laws.specs.Newest.{OpensNewest}
use Rattle.scfs_model.specs.Runs.{due, Run}
use Rattle.scfs_laws.specs.Blocks.{NoClash}
use Rattle.scfs_model.specs.UnitFormat.{under}
use Rattle.scfs_durable.specs.Safe.{VersionsStaySafe}
use Rattle.scfs_world.specs.Happening.{IsPlayed, Stands}
use Rattle.scfs_world.specs.State.{WorldState}
use Rattle.scfs_live.specs.Edges.{GetsPart}
use Rattle.scfs_live.specs.TooLarge.{IsTooLargeNext}
use Rattle.scfs_top.specs.declared.closing.Filled.{Filled}
use Rattle.scfs_top.specs.declared.closing.Filled.TheVariants as filleds
use Rattle.scfs_top.specs.declared.closing.Finish.{Finish}
use Rattle.scfs_top.specs.declared.closing.Finish.TheVariants as finishes
use Rattle.scfs_top.specs.declared.intake.Intake.{Intake}
use Rattle.scfs_top.specs.declared.play.Played.{Played}
use Rattle.scfs_top.specs.declared.play.Played.TheVariants as playeds
use Rattle.scfs_top.specs.declared.play.Playout.{Playout}
use Rattle.scfs_top.specs.declared.play.Turn.{Turn}
use Rattle.scfs_top.specs.declared.play.Turn.TheVariants as turns
use Rattle.scfs_top.specs.Edges.{Passes}
use Rattle.scfs_top.specs.Finishing.{EndsWith}
use Rattle.scfs_top.specs.Pace.{KeepsPace}
use Rattle.scfs_top.specs.Playing.{Playing, finished, header_lines, played}

-- the text of an entry's lines, behind a history
abbrev pub entry_text : History → Entry → List ℕ
entry_text past e = flat_map (numbered (length past + 1)) e.lines

-- after a history that was played, an entry of this event that was played as well; where no two different blocks of it all share a
-- digest, its lines are those that the file map demands
pub record IsNext (allows : RankFacts → ℕ → Type 0) (header : Header) (past : History) (event : Event) (e : Entry) : Type 0 where
  pub same : e.event ≡ event
  pub plays : IsPlayed allows header (e ∷ past)
  pub permits : NoClash header (e ∷ past) → e.lines ≡ due (under header) past e

-- One event's turn: the world stands for the history with its entry, whose lines went behind those that waited; or it ended what is
-- played, or it would carry too many bytes, or memory was wanting, and nothing was done; or not all of the lines were written.
abbrev pub Turns : (allows : RankFacts → ℕ → Type 0) → Header → History → Event → (before after : Option (List ℕ)) → (waiting waiting' : List ℕ) → Turn → Type 0
Turns allows header past event before after waiting waiting' (turns.Done world) =
    (e : Entry) × IsNext allows header past event e × Stands world header (e ∷ past) × Passes before after waiting waiting' (entry_text past e)
Turns allows header past event before after waiting waiting' (turns.Finished finish) = Passes before after waiting waiting' []
Turns allows header past event before after waiting waiting' turns.TooLarge =
    IsTooLargeNext allows header past event × Passes before after waiting waiting' []
Turns allows header past event before after waiting waiting' turns.WriteFault =
    (e : Entry) × IsNext allows header past event e × GetsPart before after (waiting ++ entry_text past e)
Turns allows header past event before after waiting waiting' turns.Memory = Passes before after waiting waiting' []

-- What is known of a history that was played: each read of a session shows the bytes that the session holds; each open is of the
-- newest version; where at most f clouds lied each version stays on f + 1 others; and where no two different blocks share a digest it is a run
-- of the file map.
pub record Known (allows : RankFacts → ℕ → Type 0) (header : Header) (past : History) : Type 0 where
  pub plays : IsPlayed allows header past
  pub held : ReadsHeld (under header) past
  pub newest : OpensNewest past
  pub safe : VersionsStaySafe (under header) past
  pub run : NoClash header past → Run (under header) past

-- what a text says, with a history's events in front
abbrev pub with_past : History → Read → Read
with_past past read = record read { events = events_then past read.events }

-- A run so far: the bytes taken say this header, the events of this history, and what is given later; of the history's lines some went
-- out and the others wait.
pub record SoFar (left left' before after : Option (List ℕ)) (intake : Intake) (waiting : List ℕ) (header : Header) (past : History) : Type 0 where
  pub taken : List ℕ
  pub takes : Takes left left' taken
  pub room : length taken + intake.room ≡ input_limit + 1
  pub says : (later : List ℕ) → read false (taken ++ later) ≡ with_header header (with_past past (gives intake.reader later))
  pub place : IsAtEvents intake.reader header
  pub lines : intake.reader.lines ≡ header_lines header + length past
  pub wrote : Passes before after [] waiting (transcript past)
  pub pace : KeepsPace past taken before after

-- how playing ended: with a finish after so many events, or with none
abbrev pub finish_of : Played → Option Finish
finish_of (playeds.Ended count finish filled) = Some finish
finish_of playeds.WriteFault = None
finish_of playeds.Memory = None

-- and reading
abbrev pub filled_of : Played → Filled
filled_of (playeds.Ended count finish filled) = filled
filled_of playeds.WriteFault = filleds.Open
filled_of playeds.Memory = filleds.Open

abbrev pub filled_at_begin : Result WorldState Played → Filled
filled_at_begin (Ok world) = filleds.Open
filled_at_begin (Err result) = filled_of result

-- the finish that a turn came to
abbrev pub finish_of_turn : Turn → Option Finish
finish_of_turn (turns.Done world) = None
finish_of_turn (turns.Finished finish) = Some finish
finish_of_turn turns.TooLarge = None
finish_of_turn turns.WriteFault = None
finish_of_turn turns.Memory = None

abbrev pub Counts : Played → History → Type 0
Counts (playeds.Ended count finish filled) past = count ≡ length past
Counts playeds.WriteFault past = Unit {0}
Counts playeds.Memory past = Unit {0}

-- what was written of a history's transcript: all but what waits, or not all where writing failed
abbrev pub WroteBy : Played → History → (before after : Option (List ℕ)) → List ℕ → Type 0
WroteBy (playeds.Ended count finish filled) past before after waiting = Passes before after [] waiting (transcript past)
WroteBy playeds.WriteFault past before after waiting = GetsPart before after (transcript past)
WroteBy playeds.Memory past before after waiting = Passes before after [] waiting (transcript past)

-- A run that ended, having taken these bytes of the input: what is out of its history's lines. Reading kept pace with writing.
pub record Ran (left left' before after : Option (List ℕ)) (waiting taken : List ℕ) (past : History) (result : Played) : Type 0 where
  pub takes : Takes left left' taken
  pub few : length taken ≤ input_limit + 1
  pub full : filled_of result ≡ filleds.Full → length taken ≡ input_limit + 1
  pub nothing_left : filled_of result ≡ filleds.End → IfSome left' (λ rest. rest ≡ [])
  pub counts : Counts result past
  pub wrote : WroteBy result past before after waiting
  pub pace : KeepsPace past taken before after

-- no event is played: with a finish that is all
abbrev pub EndsAtOnce : Playing → Option Finish → Type 0
EndsAtOnce playing (Some finish) = playing ≡ finished finish
EndsAtOnce playing None = Unit {0}

-- playing the text on an input: the history has the events that are played
pub record Plays (allows : RankFacts → ℕ → Type 0) (left left' before after : Option (List ℕ)) (waiting : List ℕ) (result : Played) : Type 0 where
  pub taken : List ℕ
  pub header : Header
  pub past : History
  pub ran : Ran left left' before after waiting taken past result
  pub stated : IfSome (played (read false taken)).header (λ stated. stated ≡ header)
  pub ends : EndsWith allows header past (played (read false taken)) (finish_of result)
  pub known : Known allows header past

-- a world that is left stands for the history, and its header is one
abbrev pub Leaves : Option WorldState → Header → History → Type 0
Leaves None header past = Unit {0}
Leaves (Some world) header past = Stands world header past × IsHeader header

-- playing the text on an input, and the world that is left: there is one where the text was played to its end
pub record PlaysTo (allows : RankFacts → ℕ → Type 0) (left left' before after : Option (List ℕ)) (waiting : List ℕ) (result : Playout) : Type 0 where
  pub plays : Plays allows left left' before after waiting result.played
  pub leaves : Leaves result.world plays.header plays.past
  pub whole : finish_of result.played ≡ Some (finishes.Text endings.Ended) → IsSome result.world

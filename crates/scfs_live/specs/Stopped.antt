-- What a call leaves that ran an old journal again, drove a script and was stopped.
use Rattle.std.specs.Prelude.{◌≡◌, ◌≤◌, ℕ, List, ◌++◌, length, true, Some, None, Ok}
use Rattle.scfs_anchor.specs.Tree.{Each}
use Rattle.scfs_base.specs.Limits.{events_limit}
use Rattle.scfs_policy.specs.declared.rank.RankFacts.{RankFacts}
use Rattle.scfs_schedule.specs.Grammar.{IsHeader}
use Rattle.scfs_schedule.specs.Holding.{is_unfinished}
use Rattle.scfs_schedule.specs.Reading.{read}
use Rattle.scfs_schedule.specs.Text.{event_text}
use Rattle.scfs_schedule.specs.Written.{IsAnswerInRange}
use Rattle.scfs_schedule.specs.declared.types.Event.{Event}
use Rattle.scfs_schedule.specs.declared.types.Event.TheVariants as events
use Rattle.scfs_schedule.specs.declared.types.Header.{Header}
use Rattle.scfs_model.specs.History.{Entry, History}
use Rattle.scfs_model.specs.UnitFormat.{under}
use Rattle.scfs_world.specs.Built.{is_built}
use Rattle.scfs_world.specs.Happening.{IsPlayed}
use Rattle.scfs_live.specs.Driven.{IsDriven}
use Rattle.scfs_live.specs.Finding.{event_read}
use Rattle.scfs_live.specs.GoingOn.{AreDone}
use Rattle.scfs_live.specs.Journal.{pieces_of}
use Rattle.scfs_live.specs.Keeping.{missing}
use Rattle.scfs_live.specs.Reopened.{RunsAll, old_lines}
use Rattle.scfs_live.specs.Reopening.{Walk}
use Rattle.scfs_live.specs.RunAgain.{IsLeftOf}

-- an event is read again from its line
abbrev pub IsReadAgain : Header → Event → Type 0
IsReadAgain header event = event_read header (event_text event) ≡ Ok event

-- so it is of all events of a script, whatever its text is
abbrev pub ScriptsAreReadAgain : Type 0
ScriptsAreReadAgain = (text : List ℕ) (header : Header) → (read true text).header ≡ Some header → Each (IsReadAgain header) (read true text).events

-- an event of a script that the program can do
pub record IsGiven (header : Header) (event : Event) : Type 0 where
  pub again : IsReadAgain header event
  pub built : is_built event ≡ true

-- the answer that an event says, if it says one, is of bytes, as its type has it
abbrev pub SaysBytes : Event → Type 0
SaysBytes (events.Say c answer) = IsAnswerInRange answer
SaysBytes other = Unit {0}

-- new events behind an old history, which the run of a script made, and which were played within the limit
pub record WereDriven (allows : RankFacts → ℕ → Type 0) (header : Header) (script : List Event) (new old : History) : Type 0 where
  pub header_is : IsHeader header
  pub given : Each (IsGiven header) script
  pub said : Each (λ (e : Entry). SaysBytes e.event) new
  pub driven : IsDriven (under header) script new old
  pub plays : IsPlayed allows header (new ++ old)
  pub few : length (new ++ old) ≤ events_limit

-- they are read again from their lines, and the program can do them
abbrev pub DrivenAreDone : (allows : RankFacts → ℕ → Type 0) → Type 0
DrivenAreDone allows =
    (header : Header) (script : List Event) (new old : History) → WereDriven allows header script new old
    → AreDone header old → AreDone header (new ++ old)

-- A call ran an old journal again to a place, drove a script behind it, and wrote any front of what was missing and of the pieces of the
-- new events: what it leaves, if it keeps the limits of an old journal, is left of the journal of all these events.
abbrev pub StoppedCallsLeave : (allows : RankFacts → ℕ → Type 0) → Type 0
StoppedCallsLeave allows =
    (header : Header) (script : List Event) (place : Walk) (new : History) (old front back : List ℕ)
    → RunsAll allows header old place → WereDriven allows header script new place.past
    → missing (is_unfinished old) place.awaited ++ pieces_of new place.past ≡ front ++ back → (old_lines (old ++ front)).passed ≡ None
    → IsLeftOf header (new ++ place.past) (old ++ front)

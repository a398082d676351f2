-- What running again answers over what is left of a journal.
use Rattle.std.specs.Prelude.{◌≡◌, ◌≢◌, ◌<◌, ℕ, ◌+◌, List, [], ◌∷◌, ◌++◌, length, map, Option, Some, None}
use Rattle.scfs_base.specs.Limits.{carried_limit}
use Rattle.scfs_base.specs.Outside.{Puts}
use Rattle.scfs_policy.specs.declared.rank.RankFacts.{RankFacts}
use Rattle.scfs_schedule.specs.Holding.{is_unfinished}
use Rattle.scfs_schedule.specs.Text.{event_text}
use Rattle.scfs_schedule.specs.declared.types.Event.{Event}
use Rattle.scfs_schedule.specs.declared.types.Header.{Header}
use Rattle.scfs_schedule.specs.declared.types.Which.TheVariants as whichs
use Rattle.scfs_model.specs.Clouds.{net}
use Rattle.scfs_model.specs.History.{Entry, History, events_then}
use Rattle.scfs_model.specs.Layers.{rows}
use Rattle.scfs_model.specs.Runs.{Answers, effect_after}
use Rattle.scfs_model.specs.UnitFormat.{under}
use Rattle.scfs_world.specs.Happening.{IsPlayed, Stands}
use Rattle.scfs_world.specs.State.{WorldState}
use Rattle.scfs_live.specs.declared.ending.LiveEnd.{LiveEnd}
use Rattle.scfs_live.specs.declared.ending.LiveEnd.TheVariants as ends
use Rattle.scfs_live.specs.declared.finding.Found.TheVariants as founds
use Rattle.scfs_live.specs.Edges.{GetsPart}
use Rattle.scfs_live.specs.Finding.{found}
use Rattle.scfs_live.specs.GoingOn.{AreDone, awaited_lines, journal_lines, kept_lines}
use Rattle.scfs_live.specs.Keeping.{missing, whole_lines}
use Rattle.scfs_live.specs.Leaving.{IsLeft}
use Rattle.scfs_live.specs.Reopened.{EndsReopening, Reopens, old_lines}
use Rattle.scfs_live.specs.Reopening.{Walk}
use Rattle.scfs_live.specs.TooLarge.{entry_after}

-- a history's events
abbrev pub events_of : History → List Event
events_of past = map (λ (e : Entry). e.event) past

-- the answers of the rank rule in each of its events
abbrev pub ranks_of : History → List (List ℕ)
ranks_of past = map (λ (e : Entry). e.ranks) past

-- these lines are those of a journal up to the line of a history's last event, or go on behind it
abbrev pub HasLast : Header → History → (lines : List (List ℕ)) → Type 0
HasLast header [] lines = Unit {0}
HasLast header (e ∷ past) lines = (shown : List (List ℕ)) × (lines ≡ journal_lines header past ++ event_text e.event ∷ shown)

-- Lines of what is left of a history's journal were run again to a place. `whole` is the history of the events whose lines are among them:
-- the first of the old events, up to the last that left its whole line. The place has these events, no more and no fewer, and the kept
-- lines, with those still to be kept, are the lines that are made now.
pub record GoesAgain (header : Header) (past : History) (lines : List (List ℕ)) (place : Walk) : Type 0 where
  pub whole : History
  pub later : History
  pub first : past ≡ later ++ whole
  pub rest : List (List ℕ)
  pub front : journal_lines header whole ≡ kept_lines lines ++ rest
  pub last : HasLast header whole (kept_lines lines)
  pub same : events_of place.past ≡ events_of whole
  pub made : kept_lines lines ++ awaited_lines place.awaited ≡ journal_lines header place.past

-- the lines before the one of this number were run again
pub record GoesUpTo (allows : RankFacts → ℕ → Type 0) (header : Header) (past : History) (lines : List (List ℕ)) (number : ℕ) (line : List ℕ) : Type 0 where
  pub before : List (List ℕ)
  pub later : List (List ℕ)
  pub parts : lines ≡ before ++ line ∷ later
  pub counted : number ≡ length before + 1
  pub place : Walk
  pub plays : IsPlayed allows header place.past
  pub again : GoesAgain header past before place

-- that line is the first that is not the one made now, since the rank rule answered otherwise in these events than it did before
pub record DiffersAgain (allows : RankFacts → ℕ → Type 0) (header : Header) (past : History) (lines : List (List ℕ)) (number : ℕ) (kept made : List ℕ) : Type 0 where
  pub line : List ℕ
  pub goes : GoesUpTo allows header past lines number line
  pub differs : found header goes.place.awaited line ≡ founds.Differs kept made
  pub otherwise : ranks_of goes.place.past ≢ ranks_of goes.again.whole

-- or it is the line of the next old event, which would carry too many bytes, where the rank rule answers so, in it or before, and
-- otherwise than it did
pub record TooLargeAgain (allows : RankFacts → ℕ → Type 0) (header : Header) (past : History) (lines : List (List ℕ)) : Type 0 where
  pub number : ℕ
  pub next : Entry
  pub goes : GoesUpTo allows header past lines number (event_text next.event)
  pub comes : History
  pub behind : past ≡ comes ++ next ∷ goes.again.whole
  pub ranks : List ℕ
  pub answers : Answers allows (effect_after (under header) rows goes.place.past (entry_after (under header) goes.place.past next.event ranks)).ranked ranks
  pub large : carried_limit < (net (under header) (entry_after (under header) goes.place.past next.event ranks ∷ goes.place.past)).carried
  pub otherwise : ranks ∷ ranks_of goes.place.past ≢ ranks_of (next ∷ goes.again.whole)

-- whatever a rank rule answers
abbrev pub any_answer : RankFacts → ℕ → Type 0
any_answer facts rank = Unit {0}

-- a text is what is left of the journal of a history that was played, by whatever rank rule, and keeps the limits of an old journal
pub record IsLeftOf (header : Header) (past : History) (text : List ℕ) : Type 0 where
  pub done : AreDone header past
  pub plays : IsPlayed any_answer header past
  pub left : IsLeft header past text
  pub within : (old_lines text).passed ≡ None

-- it was reopened: the world stands for the events that left their whole lines, and what is missing of the last one was written
pub record ReopensAgain (allows : RankFacts → ℕ → Type 0) (header : Header) (past : History) (text : List ℕ) (before after : Option (List ℕ))
    (world : WorldState) : Type 0 where
  pub place : Walk
  pub plays : IsPlayed allows header place.past
  pub again : GoesAgain header past (whole_lines text) place
  pub stands : Stands world header place.past
  pub wrote : Puts before after (missing (is_unfinished text) place.awaited)

-- or not all that is missing
pub record UnwrittenAgain (allows : RankFacts → ℕ → Type 0) (header : Header) (past : History) (text : List ℕ) (before after : Option (List ℕ)) : Type 0 where
  pub place : Walk
  pub plays : IsPlayed allows header place.past
  pub again : GoesAgain header past (whole_lines text) place
  pub wrote : GetsPart before after (missing (is_unfinished text) place.awaited)

-- How else it may end: reading or writing failed, or memory was wanting; or where the rank rule answers otherwise than before a line
-- differs, or an event is too large. No line is bad, none is of an event that can't be done, and no other limit is passed.
abbrev pub EndsLeft : (allows : RankFacts → ℕ → Type 0) → Header → (past : History) → (text : List ℕ) → (before after : Option (List ℕ)) → LiveEnd → Type 0
EndsLeft allows header past text before after (ends.WriteFault whichs.Journal) = UnwrittenAgain allows header past text before after
EndsLeft allows header past text before after (ends.ReadFault whichs.Journal) = after ≡ before
EndsLeft allows header past text before after (ends.Differs number kept made) =
    (after ≡ before) × DiffersAgain allows header past (whole_lines text) number kept made
EndsLeft allows header past text before after (ends.TooLarge whichs.Objects) =
    (after ≡ before) × TooLargeAgain allows header past (whole_lines text)
EndsLeft allows header past text before after ends.Memory = after ≡ before
EndsLeft allows header past text before after end = ⊥

-- Over what is left of a journal, where the source tells it, reopening answers a world that stands for the events that left their whole
-- lines, or ends in one of these ways. `allows` are the answers that the rank rule may give now.
pub record LeftJournalsReopen (allows : RankFacts → ℕ → Type 0) : Type 0 where
  pub world :
      (header : Header) (past : History) (text : List ℕ) (left' : Option (List ℕ)) (ends_then ends_now : ℕ) (before after : Option (List ℕ))
      (world : WorldState) → IsLeftOf header past text → Reopens allows header (Some text) left' ends_then ends_now before after world
      → ReopensAgain allows header past text before after world
  pub end :
      (header : Header) (past : History) (text : List ℕ) (left' : Option (List ℕ)) (ends_then ends_now : ℕ) (before after : Option (List ℕ))
      (end : LiveEnd) → IsLeftOf header past text → EndsReopening allows header (Some text) left' ends_then ends_now before after end
      → EndsLeft allows header past text before after end

-- a rank rule that has one answer for each of the facts
pub record HasOneAnswer (allows : RankFacts → ℕ → Type 0) : Type 0 where
  pub one : (facts : RankFacts) (x y : ℕ) → allows facts x → allows facts y → x ≡ y

-- reading or writing failed, or memory was wanting
abbrev pub IsOutside : LiveEnd → Type 0
IsOutside (ends.WriteFault whichs.Journal) = Unit {0}
IsOutside (ends.ReadFault whichs.Journal) = Unit {0}
IsOutside ends.Memory = Unit {0}
IsOutside end = ⊥

-- Where the rank rule has one answer for each of the facts, two histories of the same events are one. So where it gave the answers of the old
-- events too, the world stands for the old entries themselves, the lines made now are the old ones, and no other end is left.
pub record OneRuleReopens (allows : RankFacts → ℕ → Type 0) : Type 0 where
  pub history :
      (header : Header) (past past' : History) → HasOneAnswer allows → IsPlayed allows header past → IsPlayed allows header past'
      → events_then past [] ≡ events_then past' [] → past ≡ past'
  pub world :
      (header : Header) (past : History) (text : List ℕ) (before after : Option (List ℕ)) (world : WorldState) → HasOneAnswer allows
      → IsPlayed allows header past → (r : ReopensAgain allows header past text before after world) → r.place.past ≡ r.again.whole
  pub unwritten :
      (header : Header) (past : History) (text : List ℕ) (before after : Option (List ℕ)) → HasOneAnswer allows
      → IsPlayed allows header past → (r : UnwrittenAgain allows header past text before after) → r.place.past ≡ r.again.whole
  pub end :
      (header : Header) (past : History) (text : List ℕ) (before after : Option (List ℕ)) (end : LiveEnd) → HasOneAnswer allows
      → IsPlayed allows header past → EndsLeft allows header past text before after end → IsOutside end

-- Running an old journal again, line by line.
use Rattle.std.specs.Prelude.{◌≡◌, ◌<◌, ◌≤◌, ℕ, ◌+◌, List, [], ◌∷◌, map, true, false, length, Result, Ok, Err}
use Rattle.scfs_base.specs.Limits.{events_limit}
use Rattle.scfs_policy.specs.declared.rank.RankFacts.{RankFacts}
use Rattle.scfs_schedule.specs.declared.types.Event.{Event}
use Rattle.scfs_schedule.specs.declared.types.Header.{Header}
use Rattle.scfs_schedule.specs.declared.types.Which.TheVariants as whichs
use Rattle.scfs_model.specs.History.{Entry, History}
use Rattle.scfs_world.specs.Built.{is_built}
use Rattle.scfs_world.specs.Happening.{IsPlayed, Stands}
use Rattle.scfs_world.specs.Stepping.{IsWorld}
use Rattle.scfs_live.specs.declared.awaited.Awaited.{Awaited}
use Rattle.scfs_live.specs.declared.ending.LiveEnd.{LiveEnd}
use Rattle.scfs_live.specs.declared.ending.LiveEnd.TheVariants as ends
use Rattle.scfs_live.specs.declared.finding.Found.{Found}
use Rattle.scfs_live.specs.declared.finding.Found.TheVariants as founds
use Rattle.scfs_live.specs.declared.running.Running.{Running}
use Rattle.scfs_live.specs.Finding.{found}
use Rattle.scfs_live.specs.Keeping.{made_line, unkept, without_header_line, without_line}
use Rattle.scfs_live.specs.TooLarge.{IsTooLargeNext}

-- where the running again stands: the history, and the lines that were made and are still to be kept
pub record Walk : Type 0 where
  pub past : History
  pub awaited : Awaited

-- before the first line
abbrev pub unwalked : Header → Walk
unwalked header = record { past = []; awaited = unkept header }

-- after an event, of which no line is kept yet
abbrev pub with_event : Entry → History → Walk
with_event e past = record { past = e ∷ past; awaited = record { header = []; lines = map (made_line (length past + 1)) e.lines } }

-- What a line does: one that is left out, nothing; a kept line is the one that was made; the line of an event that the program can
-- do is the history's next, below the limit of events. Any other ends the running again.
abbrev pub Follows : Found → Walk → Walk → Type 0
Follows founds.LeftOut old new = new ≡ old
Follows founds.KeepsHeader old new = new ≡ record old { awaited = without_header_line old.awaited }
Follows founds.KeepsLine old new = new ≡ record old { awaited = without_line old.awaited }
Follows (founds.Does event) old new =
    (is_built event ≡ true) × (length old.past < events_limit) × ((e : Entry) × (e.event ≡ event) × (new ≡ with_event e old.past))
Follows (founds.Differs kept made) old new = ⊥
Follows (founds.Wrong kind) old new = ⊥

-- these lines lead from one place to another
abbrev pub Walks : Header → Walk → List (List ℕ) → Walk → Type 0
Walks header old [] new = new ≡ old
Walks header old (line ∷ lines) new = (next : Walk) × Follows (found header old.awaited line) old next × Walks header next lines new

-- lines that were run again from the beginning: the history that they led to was played, where the rank rule may answer so
pub record RunsAgain (allows : RankFacts → ℕ → Type 0) (header : Header) (lines : List (List ℕ)) (place : Walk) : Type 0 where
  pub walks : Walks header (unwalked header) lines place
  pub plays : IsPlayed allows header place.past

-- The line of this number is what was found behind this history, and ends the running again: it is not allowed; its event is one that the
-- program can't do yet; it is not the line that was made; or its event would be one too many, or carry too many bytes.
abbrev pub EndsAt : (allows : RankFacts → ℕ → Type 0) → Header → History → (number : ℕ) → Found → LiveEnd → Type 0
EndsAt allows header past number found (ends.Bad bad) = (bad.line ≡ number) × (found ≡ founds.Wrong bad.kind)
EndsAt allows header past number found (ends.Unbuilt line) =
    (line ≡ number) × ((event : Event) × (found ≡ founds.Does event) × (is_built event ≡ false))
EndsAt allows header past number found (ends.Differs line kept made) = (line ≡ number) × (found ≡ founds.Differs kept made)
EndsAt allows header past number found (ends.TooLarge whichs.Events) =
    (event : Event) × (found ≡ founds.Does event) × (is_built event ≡ true) × (length past ≡ events_limit)
EndsAt allows header past number found (ends.TooLarge whichs.Objects) =
    (event : Event) × (found ≡ founds.Does event) × (is_built event ≡ true) × (length past < events_limit)
    × IsTooLargeNext allows header past event
EndsAt allows header past number found (ends.TooLarge which) = ⊥
EndsAt allows header past number found (ends.ReadFault which) = ⊥
EndsAt allows header past number found (ends.WriteFault which) = ⊥
EndsAt allows header past number found ends.Memory = Unit {0}

-- a world and the lines still to be kept stand at a place of the walk
pub record IsAt (allows : RankFacts → ℕ → Type 0) (header : Header) (place : Walk) (running : Running) : Type 0 where
  pub stands : Stands running.world header place.past
  pub plays : IsPlayed allows header place.past
  pub awaited : running.awaited ≡ place.awaited
  pub world : IsWorld running.world
  pub few : length place.past ≤ events_limit

-- what became of a line that was so found: it leads on, or it ends the running again
abbrev pub GoesOn : (allows : RankFacts → ℕ → Type 0) → Header → Walk → (number : ℕ) → Found → Result Running LiveEnd → Type 0
GoesOn allows header old number found (Ok running) = (new : Walk) × Follows found old new × IsAt allows header new running
GoesOn allows header old number found (Err end) = EndsAt allows header old.past number found end

use Rattle.std.specs.Prelude.{◌≡◌, ◌<◌, ◌^◌, ℕ, List, [], ◌∷◌}
use Rattle.scfs_policy.specs.declared.rank.RankFacts.{RankFacts}
use Rattle.scfs_schedule.specs.declared.types.Line.{Line}
use Rattle.scfs_model.specs.Format.{Setup}
use Rattle.scfs_model.specs.History.{Entry, History}
use Rattle.scfs_model.specs.Versions.{Versions}
use Rattle.scfs_model.specs.Given.{given_of}
use Rattle.scfs_model.specs.States.{State, first_state, Effect, effect}
use Rattle.scfs_model.specs.Layers.{Row, Version, rows, closes}

module _ {V : Type 0} (s : Setup) (vs : Versions V) where
  -- what an entry's event does to all; the entry's lines say nothing here
  abbrev pub effect_of : State V → Entry → Effect V
  effect_of state e = effect s vs state e.event e.message (given_of state.clock e)

  -- what a history leaves
  abbrev pub state_after : History → State V
  state_after [] = first_state s
  state_after (e ∷ past) = (effect_of (state_after past) e).state

  -- what an entry's event does after a history
  abbrev pub effect_after : History → Entry → Effect V
  effect_after past e = effect_of (state_after past) e

  -- each event has the lines of what it does after the events before it
  abbrev pub Follows : History → Type 0
  Follows [] = Unit {0}
  Follows (e ∷ past) = (e.lines ≡ (effect_after past e).lines) × Follows past

-- what agents and the space have
abbrev pub actual : Setup → History → State Row
actual s past = state_after s rows past

-- the file map is the machine at closes: each open has the contents of the close that it saw. It judges what clouds answer by the seals of
-- its own bytes, and so as agents do wherever each open got what was closed
abbrev pub mapped : Setup → History → State Version
mapped s past = state_after s (closes s) past

-- the lines that agents, space and clouds make of an entry's event
abbrev pub made : Setup → History → Entry → List Line
made s past e = (effect_after s rows past e).lines

-- the lines that the file map demands of it
abbrev pub due : Setup → History → Entry → List Line
due s past e = (effect_after s (closes s) past e).lines

-- each event's lines are those that agents, space and clouds make; those that the file map demands. Both are said of headers whose agents
-- are blocking and keep no answers, and of the calls and events that are built
abbrev pub Happens : Setup → History → Type 0
Happens s past = Follows s rows past

abbrev pub Run : Setup → History → Type 0
Run s past = Follows s (closes s) past

-- one answer that is allowed for each of the facts, in their order; an answer has 64 bits
abbrev pub Answers : (allows : RankFacts → ℕ → Type 0) → List RankFacts → (ranks : List ℕ) → Type 0
Answers allows [] [] = Unit {0}
Answers allows (x ∷ xs) (rank ∷ ranks) = allows x rank × (rank < 2 ^ 64) × Answers allows xs ranks
Answers allows [] (rank ∷ ranks) = ⊥
Answers allows (x ∷ xs) [] = ⊥

-- in each event the rank rule gave an answer that it allows to all that it was asked
abbrev pub IsRanked : Setup → (allows : RankFacts → ℕ → Type 0) → History → Type 0
IsRanked s allows [] = Unit {0}
IsRanked s allows (e ∷ past) = Answers allows (effect_after s rows past e).ranked e.ranks × IsRanked s allows past

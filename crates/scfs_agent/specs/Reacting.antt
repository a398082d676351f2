use Rattle.std.specs.Prelude.{◌≡◌, ◌<◌, ℕ, ◌+◌, ◌*◌, List, false}
use Rattle.scfs_policy.specs.declared.rank.RankFacts.{RankFacts}
use Rattle.scfs_schedule.specs.declared.types.Header.{Header}
use Rattle.scfs_anchor.specs.Tree.{Each}
use Rattle.scfs_model.specs.Layers.{Row, rows}
use Rattle.scfs_model.specs.Lives.{is_up}
use Rattle.scfs_model.specs.Runs.{Answers}
use Rattle.scfs_model.specs.Steps.{Outcome}
use Rattle.scfs_model.specs.UnitFormat.{under}
use Rattle.scfs_model.specs.Agents as machine
use Rattle.scfs_model.specs.Agents.{Agent, Calls, Tells, Hears, Turns, Crashes, Starts, Reaction}
use Rattle.scfs_model.specs.Reactions.{reacted}
use Rattle.scfs_agent.specs.State.{given_now}
use Rattle.scfs_agent.specs.Asking.{CanBeAsked}
use Rattle.scfs_agent.specs.Outputs.{outputs_by}
use Rattle.scfs_agent.specs.Telling.{IsTold, FitsReply, pending_step}
use Rattle.scfs_agent.specs.declared.types.Input.{Input}
use Rattle.scfs_agent.specs.declared.types.Input.TheVariants as inputs
use Rattle.scfs_agent.specs.declared.types.Output.{Output}

-- The contract of an agent: on each input it does what the machine's agent does.

-- the numbers of a reply fit; an answer comes from one of the 3f + 1 clouds; an agent that is started is down
abbrev pub FitsInput : Header → Agent Row → Input → Type 0
FitsInput header agent (inputs.Call call) = Unit {0}
FitsInput header agent (inputs.Space request reply) = FitsReply (pending_step agent.pending request) reply
FitsInput header agent (inputs.Cloud c request answer) = c < 3 * header.f + 1
FitsInput header agent inputs.Turn = Unit {0}
FitsInput header agent inputs.Crash = Unit {0}
FitsInput header agent inputs.Start = is_up agent.life ≡ false

-- what the machine's agent does, where the rank rule gives these answers
abbrev pub reaction_by : (now : ℕ) → Header → (a : ℕ) → Agent Row → (ranks : List ℕ) → machine.Input Row → Reaction Row
reaction_by now header a agent ranks input = reacted (under header) rows a agent (given_now now ranks) input

-- what agent a does: its outputs, and how it is afterwards, are those of a reaction, and the space can serve each step that it asks
pub record DoesAs (a lease : ℕ) (new : Agent Row) (given : List Output) (r : Reaction Row) : Type 0 where
  pub gives : given ≡ outputs_by a lease r
  pub after : new ≡ r.agent
  pub asks : Each CanBeAsked r.steps

module _ (allows : RankFacts → ℕ → Type 0) (now : ℕ) (header : Header) (a : ℕ) (old new : Agent Row) (given : List Output) where
  -- it does what the machine's agent does, for answers that the rank rule allows to the facts that it is asked about
  abbrev pub DoesRanked : machine.Input Row → Type 0
  DoesRanked input =
      (ranks : List ℕ) × Answers allows (reaction_by now header a old ranks input).ranked ranks
      × DoesAs a header.lease new given (reaction_by now header a old ranks input)

  -- an agent that is given this input at a moment
  abbrev pub Reacts : Input → Type 0
  Reacts (inputs.Call call) = DoesRanked (Calls call)
  Reacts (inputs.Space request reply) = (o : Outcome Row) → IsTold header.lease old.pending request reply o → DoesRanked (Tells request o)
  Reacts (inputs.Cloud c request answer) = DoesRanked (Hears c request answer)
  Reacts inputs.Turn = DoesRanked Turns
  Reacts inputs.Crash = DoesRanked Crashes
  Reacts inputs.Start = DoesRanked Starts

use Rattle.std.proofs.Common.{List}
use Rattle.scfs_model.specs.Layers.{Row}
use Rattle.scfs_model.specs.Agents.{Reaction}
use Rattle.scfs_agent.specs.State.{AgentState}
use Rattle.scfs_agent.specs.Outputs.{outputs_of}
use Rattle.scfs_agent.specs.declared.types.Output.{Output}

-- the outputs of a reaction, and how it leaves the agent
abbrev pub did : AgentState → Reaction Row → List Output × AgentState
did v r = (outputs_of v r, record v { agent = r.agent })

use Rattle.std.proofs.Common.{◌≡◌, ap, arith}
use Rattle.scfs_agent.specs.State.{AgentState}
use Rattle.scfs_agent.specs.Keeping.{calls_in, calls_of}
use Rattle.scfs_agent.proofs.KeptLemmas.{kept_asked}
use Rattle.scfs_agent.proofs.agent.Agent.ask.Goals as goal

pub invariant_of-self-2 : goal.invariant_of-self-2
invariant_of-self-2 c =
    let requests : c.self.inside.requests ≡ c.args.self.now.agent.requests = ap (λ (a : AgentState). a.agent.requests) c.self.view_is in
    let inputs : c.self.inside.inputs ≡ c.args.self.now.inputs = ap (λ (a : AgentState). a.inputs) c.self.view_is in
    let calls = ap (λ (a : AgentState). calls_in a.agent.pending) c.self.view_is in
    let waits = ap (λ (a : AgentState). calls_of a.agent.waiting) c.self.view_is in
    kept_asked c.self.invariant (record { number = c.next_number-number.result; asking = c.args.asking }) c.push.new.self c.in_ok-push.ensures.ok
    (omega (arith, requests, inputs, c.requires.room)) c.requires.asking (omega (arith, calls, waits, c.requires.calls))

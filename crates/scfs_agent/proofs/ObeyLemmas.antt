-- What an agent does on an input, by what its calls gave.
use Rattle.std.proofs.Common.{◌≡◌, ℕ, List, [], cond, Result, Ok, Err, IfOk, OnOk, sym, ap, ◌∙◌, subst}
use Rattle.scfs_base.specs.declared.naming.RequestNo.{RequestNo}
use Rattle.scfs_policy.specs.declared.rank.RankFacts.{RankFacts}
use Rattle.scfs_tuples.specs.declared.types.Reply.{Reply}
use Rattle.scfs_model.specs.Layers.{Row, rows}
use Rattle.scfs_model.specs.Runs.{Answers}
use Rattle.scfs_model.specs.Steps.{Outcome}
use Rattle.scfs_model.specs.Agents as machine
use Rattle.scfs_model.specs.Agents.{Tells, Reaction}
use Rattle.scfs_model.specs.Told.{tells}
use Rattle.scfs_agent.specs.State.{AgentState, setup, given_now}
use Rattle.scfs_agent.specs.Asking.{MayAsk}
use Rattle.scfs_agent.specs.Outputs.{outputs_of}
use Rattle.scfs_agent.specs.Settled.{settled, HasBegun, OneBegun}
use Rattle.scfs_agent.specs.Telling.{IsTold, pending_step, reads_version}
use Rattle.scfs_agent.specs.Reacting.{DoesRanked, Reacts, reaction_by}
use Rattle.scfs_agent.specs.declared.types.Input.TheVariants as inputs
use Rattle.scfs_agent.specs.declared.types.Output.{Output}
use Rattle.scfs_agent.proofs.FitAskedLemmas.{Quiet, none_ranked, all_asked_fit}
use Rattle.scfs_agent.proofs.SettledLemmas.{settled_same}
use Rattle.scfs_agent.proofs.ReactedLemmas.{tells_begun}
use Rattle.scfs_agent.proofs.RankLemmas.{tells_asks}

module _ (allows : RankFacts → ℕ → Type 0) (now : ℕ) (old new : AgentState) (may : MayAsk old.no old.agent) where
  abbrev Does : machine.Input Row → List Output → Type 0
  Does input xs = DoesRanked allows now old.header old.no old.agent new.agent xs input

  abbrev reaction : List ℕ → machine.Input Row → Reaction Row
  reaction ranks input = reaction_by now old.header old.no old.agent ranks input

  -- with these ranks, by an account of the reaction
  does_by : (input : machine.Input Row) (ranks : List ℕ) (xs : List Output) (r : Reaction Row) → reaction ranks input ≡ r
      → Answers allows r.ranked ranks
      → xs ≡ outputs_of old r → new ≡ record old { agent = r.agent } → Does input xs
  does_by input ranks xs r is answers gives after = (
    ranks,
    subst (λ (q : Reaction Row). Answers allows q.ranked ranks) (sym is) answers,
    record {
      gives = gives ∙ ap (outputs_of old) (sym is);
      after = ap (λ (a : AgentState). a.agent) after ∙ ap (λ (q : Reaction Row). q.agent) (sym is);
      asks = all_asked_fit old.header old.no old.agent (given_now now ranks) may input;
    },
  )

  -- where the input is no reply
  pub does_settled : {E : Type 0} (input : machine.Input Row) (r : Reaction Row) (given : Result (List Output) E)
      → Quiet (setup old) old.no may.number input
      → reaction [] input ≡ r → IfOk given (λ xs. xs ≡ outputs_of old r) → OnOk given (new ≡ record old { agent = r.agent })
      → IfOk given (λ xs. Does input xs)
  does_settled input r (Ok xs) quiet is gives after =
      let none : r.ranked ≡ [] =
      ap (λ (q : Reaction Row). q.ranked) (sym is) ∙ none_ranked old.header old.no old.agent (given_now now []) may input quiet in
      does_by input [] xs r is (subst (λ (facts : List RankFacts). Answers allows facts []) (sym none) tt) gives after
  does_settled input r (Err e) quiet is gives after = tt

  -- where no upload begins behind it either
  pub does_alone : {E : Type 0} (input : machine.Input Row) (r : Reaction Row) (given : Result (List Output) E)
      → Quiet (setup old) old.no may.number input
      → reaction [] input ≡ settled (setup old) old.no r → HasBegun r.agent.closed → IfOk given (λ xs. xs ≡ outputs_of old r)
      → OnOk given (new ≡ record old { agent = r.agent }) → IfOk given (λ xs. Does input xs)
  does_alone input r given quiet is begun = does_settled input r given quiet (is ∙ settled_same (setup old) old.no r begun)

  abbrev telling : (ranks : List ℕ) → RequestNo → Outcome Row → Reaction Row
  telling ranks request o = tells (setup old) rows old.no old.agent (given_now now ranks) request o

  pub does_tell : {E : Type 0} (request : RequestNo) (reply : Reply) (ranks : List ℕ) (given : Result (List Output) E) → OneBegun old.agent.closed
      → Answers allows (cond (reads_version (pending_step old.agent.pending request) reply.result) old.agent.tallies []) ranks
      → ((o : Outcome Row) → IsTold old.header.lease old.agent.pending request reply o
      → IfOk given (λ xs. xs ≡ outputs_of old (telling ranks request o)))
      → ((o : Outcome Row) → IsTold old.header.lease old.agent.pending request reply o
      → OnOk given (new ≡ record old { agent = (telling ranks request o).agent }))
      → IfOk given (λ xs. Reacts allows now old.header old.no old.agent new.agent xs (inputs.Space request reply))
  does_tell request reply ranks (Ok xs) begun answers gives after = λ o is.
      does_by (Tells request o) ranks xs (telling ranks request o)
      (settled_same (setup old) old.no (telling ranks request o) (tells_begun (setup old) old.no old.agent (given_now now ranks) request o begun))
      (subst (λ (facts : List RankFacts). Answers allows facts ranks)
      (sym (tells_asks (setup old) old.no old.header.lease old.agent (given_now now ranks) request o reply is.replied is.asked)) answers) (gives o is)
      (after o is)
  does_tell request reply ranks (Err e) begun answers gives after = tt

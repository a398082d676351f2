use Rattle.std.proofs.Common.{◌≡◌, true, false, ap}
use Rattle.std.specs.Prelude.{not}
use Rattle.std.proofs.Common.{arith}
use Rattle.std.proofs.lemmas.Grind.{common_steps}
use Rattle.scfs_model.specs.Asked.{is_answer_to}
use Rattle.scfs_quorum_read.specs.Reading.{is_among}
use Rattle.scfs_agent.specs.State.{AgentState}
use Rattle.scfs_agent.specs.Views.{asked_of}
use Rattle.scfs_agent.proofs.ReadingLemmas.{has_read_so}
use Rattle.scfs_agent.proofs.HandingLemmas.{gives_by, after_by, taken_gives, taken_after}
use Rattle.scfs_agent.proofs.agent.Agent.heard_fetch.Goals as goal

pub reads-requires-clause-fetch : goal.reads-requires-clause-fetch
reads-requires-clause-fetch c =
    let mine : is_answer_to (asked_of c.args.fetch.gets) c.args.cloud c.args.request ≡ true = grind (arith, common_steps) in
    let none : is_among c.args.cloud c.args.fetch.tracker.pieces ≡ false = grind (arith, common_steps) in
    has_read_so c.args.self.now.header.f c.args.fetch c.requires.fetch c.args.cloud c.args.request c.args.answer.now mine none
    c.tally.new.self.header.f
    c.answer.new.self c.in_ok-step.step (ap (λ (a : AgentState). a.header.f) c.in_ok-tally.ensures) c.in_ok-step.ensures.after
    c.in_ok-step.ensures.steps

pub returns-clause-gives : goal.returns-clause-gives
returns-clause-gives c =
    let mine : is_answer_to (asked_of c.args.fetch.gets) c.args.cloud c.args.request ≡ true = grind (arith, common_steps) in
    let none : is_among c.args.cloud c.args.fetch.tracker.pieces ≡ false = grind (arith, common_steps) in
    gives_by c.reads.result _ _ (taken_gives c.args.self.now c.args.fetch c.requires.fetch c.args.cloud c.args.request c.args.answer.now mine none
    c.tally.new.self c.answer.new.self c.in_ok-step.step (not c.wants-2.result) c.in_ok-tally.ensures c.in_ok-step.ensures.after
    c.in_ok-step.ensures.steps
    (ap not c.wants-2.ensures)) c.reads.ensures.gives

pub returns-clause-after : goal.returns-clause-after
returns-clause-after c =
    let mine : is_answer_to (asked_of c.args.fetch.gets) c.args.cloud c.args.request ≡ true = grind (arith, common_steps) in
    let none : is_among c.args.cloud c.args.fetch.tracker.pieces ≡ false = grind (arith, common_steps) in
    after_by c.reads.result _ _ _ (taken_after c.args.self.now c.args.fetch c.requires.fetch c.args.cloud c.args.request c.args.answer.now mine none
    c.tally.new.self c.answer.new.self c.in_ok-step.step (not c.wants-2.result) c.in_ok-tally.ensures c.in_ok-step.ensures.after
    c.in_ok-step.ensures.steps
    (ap not c.wants-2.ensures)) c.reads.ensures.after

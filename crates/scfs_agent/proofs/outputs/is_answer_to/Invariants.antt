use Rattle.std.proofs.Common.{◌≡◌, length}
use Rattle.scfs_model.specs.Asked.{is_answer_to}
use Rattle.scfs_agent.specs.Views.{asked_of}
use Rattle.scfs_agent.proofs.outputs.is_answer_to.Given as goal

abbrev pub invariant-each : goal.invariant-each
invariant-each l = is_answer_to (asked_of l.rest) l.cloud l.request ≡ is_answer_to (asked_of l.fn.asked) l.cloud l.request

abbrev pub decreases-each : goal.decreases-each
decreases-each l = length l.rest

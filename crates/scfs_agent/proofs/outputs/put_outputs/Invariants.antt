use Rattle.std.proofs.Common.{◌≡◌, ◌++◌, length}
use Rattle.scfs_agent.specs.Views.{asked_of}
use Rattle.scfs_agent.specs.Outputs.{put_body, sent_to, sent_outputs}
use Rattle.scfs_agent.proofs.outputs.put_outputs.Given as goal

abbrev pub invariant-each : goal.invariant-each
invariant-each l =
    l.given ++ sent_outputs (sent_to (put_body l.upload l.unit) (asked_of l.rest))
    ≡ sent_outputs (sent_to (put_body l.upload l.unit) (asked_of l.fn.asked))

abbrev pub decreases-each : goal.decreases-each
decreases-each l = length l.rest

use Rattle.std.proofs.Common.{◌≡◌, ◌+◌, ◌++◌, length}
use Rattle.scfs_model.specs.Asked as machine
use Rattle.scfs_agent.specs.Views.{asked_of}
use Rattle.scfs_agent.proofs.outputs.numbered.Given as goal

abbrev pub invariant-each : goal.invariant-each
invariant-each l = record {
  asked : asked_of l.asked ++ machine.asked_of l.agent l.incarnation l.last l.rest ≡ machine.asked_of l.agent l.incarnation l.fn.drawn l.fn.clouds;
  room : l.last + length l.rest ≡ l.fn.drawn + length l.fn.clouds;
  count : length l.asked + length l.rest ≡ length l.fn.clouds;
}

abbrev pub decreases-each : goal.decreases-each
decreases-each l = length l.rest

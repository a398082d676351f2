use Rattle.std.proofs.Common.{◌≡◌, ◌+◌, length, map}
use Rattle.scfs_agent.specs.Views.{request_of}
use Rattle.scfs_agent.specs.Telling.{first_place, is_numbered}
use Rattle.scfs_agent.proofs.told.place_of.Given as goal

abbrev pub invariant-each : goal.invariant-each
invariant-each l = record {
  place : l.at + first_place (is_numbered l.request) (map request_of l.rest) ≡ first_place (is_numbered l.request) (map request_of l.fn.pending);
  within : l.at + length l.rest ≡ length l.fn.pending;
}

abbrev pub decreases-each : goal.decreases-each
decreases-each l = length l.rest

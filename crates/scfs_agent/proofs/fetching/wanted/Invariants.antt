use Rattle.std.proofs.Common.{◌≡◌, ◌++◌, length}
use Rattle.std.specs.Prelude.{filter, not}
use Rattle.scfs_quorum_read.specs.Reading.{is_among}
use Rattle.scfs_agent.proofs.fetching.wanted.Given as goal

abbrev pub invariant-each : goal.invariant-each
invariant-each l =
    l.clouds ++ filter (λ c. not (is_among c l.tracker.pieces)) l.rest ≡ filter (λ c. not (is_among c l.tracker.pieces)) l.fn.order

abbrev pub decreases-each : goal.decreases-each
decreases-each l = length l.rest

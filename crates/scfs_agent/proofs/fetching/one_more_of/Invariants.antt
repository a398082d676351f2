use Rattle.std.proofs.Common.{◌≡◌, ◌<◌, ◌++◌, length, map}
use Rattle.std.specs.List.{All}
use Rattle.scfs_policy.specs.declared.rank.RankFacts.{RankFacts}
use Rattle.scfs_model.specs.Opens.{one_more}
use Rattle.scfs_agent.proofs.fetching.one_more_of.Given as goal

abbrev pub invariant-each : goal.invariant-each
invariant-each l = record {
  counted : l.counted ++ map (one_more l.cloud l.is_good) l.rest ≡ map (one_more l.cloud l.is_good) l.fn.tallies;
  room : All (λ (x : RankFacts). (x.good < 4294967295) × (x.bad < 4294967295)) l.rest;
}

abbrev pub decreases-each : goal.decreases-each
decreases-each l = length l.rest

use Rattle.std.proofs.Common.{◌≡◌, ℕ, ◌+◌, List, ◌++◌, length}
use Rattle.scfs_model.specs.Runs.{Answers}
use Rattle.scfs_agent.proofs.agent.Agent.all_ranks.Given as goal

abbrev pub invariant-each : goal.invariant-each
invariant-each g l = record {
  answers : (more : List ℕ) → Answers (λ facts rank. g.R.Fn.post l.rank (facts, tt) rank) l.rest more
      → Answers (λ facts rank. g.R.Fn.post l.rank (facts, tt) rank) l.initial.rest (l.ranks ++ more);
  count : length l.ranks + length l.rest ≡ length l.initial.rest;
}

abbrev pub decreases-each : goal.decreases-each
decreases-each g l = length l.rest

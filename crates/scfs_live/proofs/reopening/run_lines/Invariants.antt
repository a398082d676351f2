use Rattle.std.proofs.Common.{List, ℕ, length}
use Rattle.scfs_policy.specs.declared.rank.RankFacts.{RankFacts}
use Rattle.scfs_schedule.specs.declared.types.Header.{Header}
use Rattle.scfs_live.specs.Rereading.{IsSoFar}
use Rattle.scfs_live.proofs.reopening.run_lines.Given as goal

abbrev pub invariant-lines : goal.invariant-lines
invariant-lines g l =
    let allows : RankFacts → ℕ → Type 0 = λ facts answer. g.R.Fn.post l.rank (facts, tt) answer in
    (header : Header) (taken : List ℕ) → IsSoFar allows header taken l.initial.lines l.initial.running → IsSoFar allows header taken l.lines l.running

abbrev pub decreases-lines : goal.decreases-lines
decreases-lines g l = length l.lines.rest

use Rattle.std.proofs.Common.{◌≡◌, ◌≤◌, ◌+◌, List, ℕ, [], length, None}
use Rattle.scfs_base.specs.Outside.{Takes}
use Rattle.scfs_policy.specs.declared.rank.RankFacts.{RankFacts}
use Rattle.scfs_schedule.specs.Holding.{is_unfinished}
use Rattle.scfs_schedule.specs.Splitting.{lines_of, no_lines}
use Rattle.scfs_live.specs.Limits.{journal_limit}
use Rattle.scfs_live.specs.Rereading.{IsSoFar}
use Rattle.scfs_live.proofs.reopening.run_again.Given as goal

abbrev pub invariant-pieces : goal.invariant-pieces
invariant-pieces g l =
    let s = g.L.Source in
    let allows : RankFacts → ℕ → Type 0 = λ facts answer. g.R.Fn.post l.rank (facts, tt) answer in
    record {
      taken : List ℕ;
      takes : Takes (s.left l.initial.old) (s.left l.old) taken;
      count : length taken + l.room ≡ journal_limit + 1;
      far : IsSoFar allows l.header taken l.lines l.running;
      none : lines_of l.lines [] ≡ no_lines None;
      unfinished : is_unfinished taken ≡ l.unfinished;
      later_ends : s.ends l.initial.old ≤ s.ends l.old;
      later_faults : s.faults l.initial.old ≤ s.faults l.old;
    }

abbrev pub decreases-pieces : goal.decreases-pieces
decreases-pieces g l = l.room

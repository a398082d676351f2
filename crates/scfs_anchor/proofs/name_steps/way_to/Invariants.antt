use Rattle.std.proofs.Common.{◌≡◌, ◌≢◌, ◌+◌, ◌≤◌, [], ◌++◌, length, map}
use Rattle.scfs_anchor.specs.Plans.{Condition, reach, before_last}
use Rattle.scfs_anchor.specs.StepPlans.{last_name}
use Rattle.scfs_anchor.specs.StepPlans.{nothing_more}
use Rattle.scfs_anchor.proofs.name_steps.way_to.Given as goal

abbrev pub invariant-each : goal.invariant-each
invariant-each l = record {
  below : l.rest ≢ [];
  depth : l.at + length l.rest ≤ 32;
  conds : l.conds ++ map (λ (c : Condition). c.cond) (reach nothing_more l.at l.rest) ≡ map (λ (c : Condition). c.cond) (reach nothing_more 0 l.fn.names);
  at : l.at + before_last l.rest ≡ before_last l.fn.names;
  last : last_name l.rest ≡ last_name l.fn.names;
}

abbrev pub decreases-each : goal.decreases-each
decreases-each l = length l.rest

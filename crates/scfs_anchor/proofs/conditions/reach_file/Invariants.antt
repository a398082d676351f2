use Rattle.std.proofs.Common.{◌≡◌, ◌≢◌, ◌+◌, ◌≤◌, [], ◌++◌, length, map}
use Rattle.scfs_anchor.specs.Plans.{Condition, file, reach, before_last}
use Rattle.scfs_anchor.proofs.conditions.reach_file.Given as goal

abbrev pub invariant-names : goal.invariant-names
invariant-names l = record {
  below : l.rest ≢ [];
  depth : l.at + length l.rest ≤ 32;
  conds : l.conds ++ map (λ (c : Condition). c.cond) (reach file l.at l.rest) ≡ map (λ (c : Condition). c.cond) (reach file 0 l.fn.names);
  id : l.at + before_last l.rest ≡ before_last l.fn.names;
}

abbrev pub decreases-names : goal.decreases-names
decreases-names l = length l.rest

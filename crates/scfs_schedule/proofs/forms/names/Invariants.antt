use Rattle.std.proofs.Common.{◌≡◌, ◌++◌, map, length, drop}
use Rattle.scfs_schedule.specs.Grammar.{made, names}
use Rattle.scfs_schedule.proofs.forms.names.Given as goal

abbrev pub invariant-loop-word : goal.invariant-loop-word
invariant-loop-word l = record {
  value : names (map (λ w. w.now) l.words) ≡ made (λ others. l.names ++ others) (names (map (λ w. w.now) (drop l.word-index l.words)));
  count : length l.names ≡ l.word-index;
}

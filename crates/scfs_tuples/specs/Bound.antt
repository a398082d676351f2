use Rattle.std.specs.Prelude.{ℕ, ◌+◌, List, [], ◌∷◌, length, min, Option, Some, None, not}
use Rattle.std.specs.List.{filter}
use Rattle.scfs_tuples.specs.After.{is_live, live}
use Rattle.scfs_tuples.specs.Matching.{Match, first_match, without_first, without_matches}
use Rattle.scfs_tuples.specs.Near.{is_near_by}
use Rattle.scfs_tuples.specs.declared.types.Field.{Field}
use Rattle.scfs_tuples.specs.declared.types.Tuple.{Tuple}
use Rattle.scfs_tuples.specs.declared.types.Want.{Want}
use Rattle.scfs_tuples.specs.declared.types.Pattern.{Pattern}
use Rattle.scfs_tuples.specs.declared.types.Cond.{Cond}
use Rattle.scfs_tuples.specs.declared.types.Cond.TheVariants as conds
use Rattle.scfs_tuples.specs.declared.types.Step.{Step}

-- the tuples whose life has ended
abbrev pub ended : ℕ → List Tuple → List Tuple
ended now ts = filter (λ t. not (is_live now t.until)) ts

-- how many of these tuples are near a pattern: those equal in the first field, and in the second or third field where that is
-- fixed, whichever are fewer
abbrev pub near_count : List Field → List Want → List Tuple → ℕ
near_count bound ws ts = min (length (filter (is_near_by 1 bound ws) ts)) (length (filter (is_near_by 2 bound ws) ts))

-- those near each pattern of `all`
abbrev pub row_looks : List Field → List Tuple → List Pattern → ℕ
row_looks bound ts [] = 0
row_looks bound ts (p ∷ ps) = near_count bound p.wants ts + row_looks bound ts ps

abbrev pub after_match : Option Match → (Match → ℕ) → ℕ
after_match None go = 0
after_match (Some m) go = go m

abbrev pub after_none : Option Match → ℕ → ℕ
after_none None go = go
after_none (Some m) go = 0

-- for each condition that is tested the tuples near its pattern, of those live before the step, and then those for `all`;
-- beside the live tuples stand those that earlier conditions left, and the bindings
abbrev pub looks_in : List Cond → List Tuple → List Tuple → List Field → List Pattern → ℕ
looks_in [] ts left bound all = row_looks bound ts all
looks_in (conds.Need p ∷ cs) ts left bound all =
    near_count bound p.wants ts + after_match (first_match p.wants left bound) (λ m. looks_in cs ts left m.bound all)
looks_in (conds.NoneOf p ∷ cs) ts left bound all =
    near_count bound p.wants ts + after_none (first_match p.wants left bound) (looks_in cs ts left bound all)
looks_in (conds.Take p ∷ cs) ts left bound all =
    near_count bound p.wants ts
    + after_match (first_match p.wants left bound) (λ m. looks_in cs ts (without_first p.wants left bound) m.bound all)
looks_in (conds.TakeAll p ∷ cs) ts left bound all =
    near_count bound p.wants ts + looks_in cs ts (without_matches p.wants left bound) bound all

-- the most looks of a step: the tuples whose life has ended, and for each pattern the live ones near it
abbrev pub most_looks : List Tuple → ℕ → Step → ℕ
most_looks ts now step = length (ended now ts) + looks_in step.conds (live now ts) (live now ts) [] step.all

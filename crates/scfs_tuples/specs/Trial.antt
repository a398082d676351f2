use Rattle.std.specs.Prelude.{◌≡◌, ℕ, ◌+◌, ◌≤◌, List, ◌∷◌, length, Option, Some, None}
use Rattle.scfs_tuples.specs.After.{tested}
use Rattle.scfs_tuples.specs.Bound.{looks_in, near_count}
use Rattle.scfs_tuples.specs.Filed.{tuples_of}
use Rattle.scfs_tuples.specs.Matching.{Match}
use Rattle.scfs_tuples.specs.Plain.{goes_on}
use Rattle.scfs_tuples.specs.Search.{standing}
use Rattle.scfs_tuples.specs.declared.search.Met.{Met}
use Rattle.scfs_tuples.specs.declared.testing.Verdict.{Verdict}
use Rattle.scfs_tuples.specs.declared.testing.Verdict.TheVariants as verdicts
use Rattle.scfs_tuples.specs.declared.trial.Trial.{Trial}
use Rattle.scfs_tuples.specs.declared.types.Cond.{Cond}
use Rattle.scfs_tuples.specs.declared.types.Cond.TheVariants as conds
use Rattle.scfs_tuples.specs.declared.types.Pattern.{Pattern}
use Rattle.scfs_tuples.specs.declared.types.Tuple.{Tuple}
use Rattle.scfs_tuples.specs.declared.types.Want.{Want}

-- what was met, without its slot
abbrev pub match_of : Option Met → Option Match
match_of None = None
match_of (Some m) = Some (record { tuple = m.tuple; bound = m.bound })

-- the tuples that a trial has not taken
abbrev pub left_in : Trial → List (ℕ × Tuple) → List Tuple
left_in trial es = tuples_of (standing trial.gone es)

-- the wants of a condition's pattern
abbrev pub wants_of : Cond → List Want
wants_of (conds.Need p) = p.wants
wants_of (conds.NoneOf p) = p.wants
wants_of (conds.Take p) = p.wants
wants_of (conds.TakeAll p) = p.wants

-- after a condition that holds there may be further looks, after one that fails none
abbrev pub further : Verdict → ℕ → ℕ
further verdicts.Holds looks = looks
further (verdicts.Fails tuple) looks = 0

-- one condition was tested over these entries: how testing goes on, what further looks there may be, and no more are taken
-- than there were
pub record Tests (cond : Cond) (es : List (ℕ × Tuple)) (old new : Trial) (verdict : Verdict) : Type 0 where
  pub result : (cs : List Cond) (at : ℕ) →
      tested (cond ∷ cs) at (left_in old es) old.bound old.taken ≡ goes_on verdict at (tested cs (at + 1) (left_in new es) new.bound new.taken)
  pub looks : (cs : List Cond) (all : List Pattern) →
      looks_in (cond ∷ cs) (tuples_of es) (left_in old es) old.bound all
      ≡ near_count old.bound (wants_of cond) (tuples_of es) + further verdict (looks_in cs (tuples_of es) (left_in new es) new.bound all)
  pub fewer : new.taken + length (standing new.gone es) ≤ old.taken + length (standing old.gone es)

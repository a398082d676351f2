use Rattle.std.specs.Prelude.{ℕ, ◌+◌, List, [], ◌∷◌, ◌++◌, length, map, Option, Some, None, Bool, true, slice_get, nat_lt}
use Rattle.std.specs.List.{filter}
use Rattle.scfs_tuples.specs.Matching.{Match, first_match, without_first, matches, without_matches, row}
use Rattle.scfs_tuples.specs.declared.types.Field.{Field}
use Rattle.scfs_tuples.specs.declared.types.Field.TheVariants as fields
use Rattle.scfs_tuples.specs.declared.types.Tuple.{Tuple}
use Rattle.scfs_tuples.specs.declared.types.Pattern.{Pattern}
use Rattle.scfs_tuples.specs.declared.types.Cond.{Cond}
use Rattle.scfs_tuples.specs.declared.types.Cond.TheVariants as conds
use Rattle.scfs_tuples.specs.declared.types.Give.{Give}
use Rattle.scfs_tuples.specs.declared.types.Give.TheVariants as gives
use Rattle.scfs_tuples.specs.declared.types.Template.{Template}
use Rattle.scfs_tuples.specs.declared.types.Step.{Step}
use Rattle.scfs_tuples.specs.declared.types.StepResult.{StepResult}
use Rattle.scfs_tuples.specs.declared.types.StepResult.TheVariants as results
use Rattle.scfs_tuples.specs.declared.types.Reply.{Reply}

-- a tuple lives before its end of life
abbrev pub is_live : ℕ → Option ℕ → Bool
is_live now None = true
is_live now (Some until) = nat_lt now until

-- the tuples that are live at this moment
abbrev pub live : ℕ → List Tuple → List Tuple
live now ts = filter (λ t. is_live now t.until) ts

-- what testing the conditions came to: the bindings, how many tuples were taken by the conditions that take all, and the
-- tuples that are left; or the first condition that fails, with the tuple that a `NoneOf` found
pub data Tested : Type 0 where
  Passed : (bound : List Field) (taken : ℕ) (left : List Tuple) → Tested
  Failed : (index : ℕ) (tuple : Option Tuple) → Tested

-- a match is needed
abbrev pub need : Option Match → ℕ → (Match → Tested) → Tested
need None at go = Failed at None
need (Some m) at go = go m

-- no match may be there
abbrev pub need_none : Option Match → ℕ → Tested → Tested
need_none None at go = go
need_none (Some m) at go = Failed at (Some m.tuple)

-- the conditions in order, the first of them with this index, over the tuples that earlier ones left
abbrev pub tested : List Cond → ℕ → List Tuple → List Field → ℕ → Tested
tested [] at ts bound taken = Passed bound taken ts
tested (conds.Need p ∷ cs) at ts bound taken =
    need (first_match p.wants ts bound) at (λ m. tested cs (at + 1) ts m.bound taken)
tested (conds.NoneOf p ∷ cs) at ts bound taken =
    need_none (first_match p.wants ts bound) at (tested cs (at + 1) ts bound taken)
tested (conds.Take p ∷ cs) at ts bound taken =
    need (first_match p.wants ts bound) at (λ m. tested cs (at + 1) (without_first p.wants ts bound) m.bound taken)
tested (conds.TakeAll p ∷ cs) at ts bound taken =
    tested cs (at + 1) (without_matches p.wants ts bound) bound (taken + length (matches p.wants ts bound))

-- what a variable stands for; a step's templates name bound ones alone, and another would give 0
abbrev pub standing : Option Field → Field
standing (Some f) = f
standing None = fields.Num 0

abbrev pub field_of : ℕ → List Field → Give → Field
field_of now bound (gives.Val f) = f
field_of now bound (gives.Var v) = standing (slice_get bound v)
field_of now bound gives.Now = fields.Num now

-- the end of a life that begins now
abbrev pub end_of : ℕ → Option ℕ → Option ℕ
end_of now None = None
end_of now (Some life) = Some (now + life)

-- the tuple that a template puts
abbrev pub tuple_of : ℕ → List Field → Template → Tuple
tuple_of now bound t = record { fields = map (field_of now bound) t.gives; until = end_of now t.life }

-- the answer, where these tuples were live before the step
abbrev pub result_of : Tested → List Tuple → List Pattern → StepResult
result_of (Passed bound taken left) ts all =
    results.Did bound taken (map (λ (p : Pattern). row bound ts p.wants) all)
result_of (Failed index tuple) ts all = results.Refused index tuple

-- the tuples after the step, where these were live before it: the puts behind those left; all of them if it was refused
abbrev pub left_by : Tested → ℕ → List Tuple → List Template → List Tuple
left_by (Passed bound taken left) now ts puts = left ++ map (tuple_of now bound) puts
left_by (Failed index tuple) now ts puts = ts

-- the reply to a step at this moment, where these tuples are live
abbrev pub reply_among : List Tuple → ℕ → Step → Reply
reply_among ts now step = record { now = now; result = result_of (tested step.conds 0 ts [] 0) ts step.all }

-- the tuples that a step at this moment leaves, where these are live
abbrev pub left_among : List Tuple → ℕ → Step → List Tuple
left_among ts now step = left_by (tested step.conds 0 ts [] 0) now ts step.puts

-- the reply to a step at this moment
abbrev pub reply_of : List Tuple → ℕ → Step → Reply
reply_of ts now step = reply_among (live now ts) now step

-- the tuples that a step at this moment leaves
abbrev pub left_after : List Tuple → ℕ → Step → List Tuple
left_after ts now step = left_among (live now ts) now step

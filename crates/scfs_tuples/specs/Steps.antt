use Rattle.std.specs.Prelude.{ℕ, ◌+◌, ◌^◌, ◌<◌, ◌≤◌, List, [], ◌∷◌, Option, Some, None, max}
use Rattle.scfs_tuples.specs.declared.types.Want.{Want}
use Rattle.scfs_tuples.specs.declared.types.Want.TheVariants as wants
use Rattle.scfs_tuples.specs.declared.types.Cond.{Cond}
use Rattle.scfs_tuples.specs.declared.types.Cond.TheVariants as conds
use Rattle.scfs_tuples.specs.declared.types.Give.{Give}
use Rattle.scfs_tuples.specs.declared.types.Give.TheVariants as gives
use Rattle.scfs_tuples.specs.declared.types.Template.{Template}
use Rattle.scfs_tuples.specs.declared.types.Step.{Step}

-- each variable of a pattern is one of the first `count`, which are bound, or the next in the order of first use
abbrev pub InOrder : ℕ → List Want → Type 0
InOrder count [] = Unit {0}
InOrder count (wants.Eq f ∷ ws) = InOrder count ws
InOrder count (wants.Any ∷ ws) = InOrder count ws
InOrder count (wants.Bind v ∷ ws) = (v ≤ count) × InOrder (max count (v + 1)) ws

-- how many variables are bound after a pattern that binds
abbrev pub count_after : ℕ → List Want → ℕ
count_after count [] = count
count_after count (wants.Eq f ∷ ws) = count_after count ws
count_after count (wants.Any ∷ ws) = count_after count ws
count_after count (wants.Bind v ∷ ws) = count_after (max count (v + 1)) ws

-- a template's field names a bound variable alone
abbrev pub Gives : ℕ → List Give → Type 0
Gives count [] = Unit {0}
Gives count (gives.Val f ∷ gs) = Gives count gs
Gives count (gives.Var v ∷ gs) = (v < count) × Gives count gs
Gives count (gives.Now ∷ gs) = Gives count gs

-- a life is below 2^62
abbrev pub IsLife : Option ℕ → Type 0
IsLife None = Unit {0}
IsLife (Some life) = life < 2 ^ 62

-- the life of each template is below 2^62
abbrev pub Lives : List Template → Type 0
Lives [] = Unit {0}
Lives (t ∷ ts) = IsLife t.life × Lives ts

-- the templates name bound variables alone
abbrev pub Name : ℕ → List Template → Type 0
Name count [] = Unit {0}
Name count (t ∷ ts) = Gives count t.gives × Name count ts

-- conditions and templates, where the first `count` variables are bound before
abbrev pub Follows : ℕ → List Cond → List Template → Type 0
Follows count [] puts = Name count puts
Follows count (conds.Need p ∷ cs) puts = InOrder count p.wants × Follows (count_after count p.wants) cs puts
Follows count (conds.NoneOf p ∷ cs) puts = InOrder count p.wants × Follows count cs puts
Follows count (conds.Take p ∷ cs) puts = InOrder count p.wants × Follows (count_after count p.wants) cs puts
Follows count (conds.TakeAll p ∷ cs) puts = InOrder count p.wants × Follows count cs puts

-- a step: its variables are numbered from 0 in the order of first use, its templates name only variables that a `Need` or a
-- `Take` binds, and each life is below 2^62
abbrev pub IsStep : Step → Type 0
IsStep step = Follows 0 step.conds step.puts × Lives step.puts

use Rattle.std.proofs.Common.{◌≡◌, ℕ, List, [], ◌∷◌, ◌++◌, map, refl, ap, ◌∙◌, sym}
use Rattle.scfs_tuples.specs.declared.types.Cond.{Cond}
use Rattle.scfs_tuples.specs.declared.types.Pattern.{Pattern}
use Rattle.scfs_tuples.specs.declared.types.Template.{Template}
use Rattle.scfs_tuples.specs.declared.types.Step.{Step}
use Rattle.scfs_anchor.specs.Plans.{Condition, file, reach}

abbrev IsStepOf : Step → Step → Type 0
IsStepOf a b = a ≡ b

-- the conditions of two parts, one after the other
pub conds_append : (a b : List Condition) → map (λ (c : Condition). c.cond) (a ++ b) ≡ map (λ (c : Condition). c.cond) a ++ map (λ (c : Condition). c.cond) b
conds_append [] b = refl
conds_append (c ∷ a) b = ap (λ cs. c.cond ∷ cs) (conds_append a b)

-- the conditions of a path's last name, after those of the names on the way
pub last_reached : (conds : List Cond) (at : ℕ) (rest others : List (List ℕ)) (name shown : List ℕ) (all : List Cond) → rest ≡ name ∷ others → others ≡ [] → shown ≡ name → conds ++ map (λ (c : Condition). c.cond) (reach file at rest) ≡ all → conds ++ map (λ (c : Condition). c.cond) (file at shown) ≡ all
last_reached conds at rest others name shown all parts none same h =
    ap (λ n. conds ++ map (λ (c : Condition). c.cond) (file at n)) same
    ∙ ap (λ r. conds ++ map (λ (c : Condition). c.cond) (reach file at r)) (sym (parts ∙ ap (λ o. name ∷ o) none))
    ∙ h

-- a step of equal parts
pub same_step : (conds conds' : List Cond) (all all' : List Pattern) (puts puts' : List Template) → conds ≡ conds' → all ≡ all' → puts ≡ puts' → IsStepOf (record { conds = conds; all = all; puts = puts }) (record { conds = conds'; all = all'; puts = puts' })
same_step conds conds' all all' puts puts' e f g =
    ap (λ (x : List Cond). record { conds = x; all = all; puts = puts }) e
    ∙ ap (λ (x : List Pattern). record { conds = conds'; all = x; puts = puts }) f
    ∙ ap (λ (x : List Template). record { conds = conds'; all = all'; puts = x }) g

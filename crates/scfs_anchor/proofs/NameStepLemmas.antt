-- The conditions of a path, up to its last name and of that.
use Rattle.std.proofs.Common.{◌≡◌, ◌≢◌, ℕ, ◌+◌, List, [], ◌∷◌, ◌++◌, map, zero, suc, refl, sym, ap, ◌∙◌, subst, arith}
use Rattle.scfs_base.specs.declared.naming.FileId.{FileId}
use Rattle.scfs_tuples.specs.declared.types.Cond.{Cond}
use Rattle.scfs_tuples.specs.declared.types.Template.{Template}
use Rattle.scfs_tuples.specs.Steps.{Follows, Lives, IsStep}
use Rattle.scfs_anchor.specs.Plans.{Condition, step_of, reach, before_last, on_the_way}
use Rattle.scfs_anchor.proofs.StepLemmas.{conds_append}
use Rattle.scfs_anchor.specs.StepPlans.{create, stat, free, there, file_template, new_file, nothing_more, last_name}

abbrev conds_of : List Condition → List Cond
conds_of cs = map (λ (c : Condition). c.cond) cs

reach_split : (last : ℕ → List ℕ → List Condition) (at : ℕ) (names : List (List ℕ)) → names ≢ []
    → reach last at names ≡ reach nothing_more at names ++ last (at + before_last names) (last_name names)
reach_split last at [] some = absurd (some refl)
reach_split last at (name ∷ []) some = ap (λ (k : ℕ). last k name) (omega arith)
reach_split last at (name ∷ next ∷ names) some =
    ap (λ (cs : List Condition). on_the_way at name ++ cs) (reach_split last (suc at) (next ∷ names) (λ e. cc))
    ∙ ap (λ (k : ℕ). on_the_way at name ++ (reach nothing_more (suc at) (next ∷ names) ++ last k (last_name (next ∷ names)))) (omega arith)

-- the conditions of a path are those on the way, and those of the last name
pub conds_split : (last : ℕ → List ℕ → List Condition) (names : List (List ℕ)) → names ≢ []
    → conds_of (reach last 0 names) ≡ conds_of (reach nothing_more 0 names) ++ conds_of (last (before_last names) (last_name names))
conds_split last names some =
    ap conds_of (reach_split last 0 names some ∙ ap (λ (k : ℕ). reach nothing_more 0 names ++ last k (last_name names)) (omega arith))
    ∙ conds_append (reach nothing_more 0 names) (last (before_last names) (last_name names))

-- the same conditions, where as many variables are bound
counted : (cs : List Cond) (puts : List Template) (n m : ℕ) → n ≡ m → Follows n cs puts → Follows m cs puts
counted cs puts n m e h = subst (λ (k : ℕ). Follows k cs puts) e h

-- the conditions on the way bind a variable a name
follows_way : (at : ℕ) (names : List (List ℕ)) (more : List Cond) (puts : List Template) → names ≢ [] → Follows (at + before_last names) more puts
    → Follows at (conds_of (reach nothing_more at names) ++ more) puts
follows_way at [] more puts some h = absurd (some refl)
follows_way zero (name ∷ []) more puts some h = counted more puts _ _ (omega arith) h
follows_way (suc at) (name ∷ []) more puts some h = counted more puts _ _ (omega arith) h
follows_way zero (name ∷ next ∷ names) more puts some h =
    let rest : Follows 1 (conds_of (reach nothing_more 1 (next ∷ names)) ++ more) puts = follows_way 1 (next ∷ names) more puts (λ e. cc)
    (counted more puts _ _ (omega arith) h) in
    ((omega arith, tt), ((omega arith, tt), counted _ puts _ _ (omega arith) rest))
follows_way (suc at) (name ∷ next ∷ names) more puts some h =
    let rest : Follows (suc (suc at)) (conds_of (reach nothing_more (suc (suc at)) (next ∷ names)) ++ more) puts = follows_way (suc (suc at))
    (next ∷ names) more puts (λ e. cc) (counted more puts _ _ (omega arith) h) in
    ((omega arith, (omega arith, tt)), ((omega arith, (omega arith, tt)), counted _ puts _ _ (omega arith) rest))

follows_last : (last : ℕ → List ℕ → List Condition) (names : List (List ℕ)) (puts : List Template) → names ≢ []
    → Follows (before_last names) (conds_of (last (before_last names) (last_name names))) puts → Follows 0 (conds_of (reach last 0 names)) puts
follows_last last names puts some h =
    subst (λ (cs : List Cond). Follows 0 cs puts) (sym (conds_split last names some))
    (follows_way 0 names _ puts some (counted _ puts _ _ (omega arith) h))

free_follows : (at : ℕ) (name : List ℕ) (id : FileId) → Follows at (conds_of (free at name)) (file_template at name id ∷ [])
free_follows zero name id = (tt, (tt, tt))
free_follows (suc at) name id = ((omega arith, tt), ((omega arith, tt), tt))

pub create_is_step : (names : List (List ℕ)) (id : FileId) → names ≢ [] → IsStep (step_of (create names id))
create_is_step names id some =
    (follows_last free names (new_file names id ∷ []) some (free_follows (before_last names) (last_name names) id), (tt, tt))

there_follows : (at : ℕ) (name : List ℕ) → Follows at (conds_of (there at name)) []
there_follows zero name = ((omega arith, (omega arith, (omega arith, (omega arith, tt)))), tt)
there_follows (suc at) name = ((omega arith, (omega arith, (omega arith, (omega arith, (omega arith, tt))))), tt)

stat_is_step : (names : List (List ℕ)) → IsStep (step_of (stat names))
stat_is_step [] = (tt, tt)
stat_is_step (name ∷ names) =
    (follows_last there (name ∷ names) [] (λ e. cc) (there_follows (before_last (name ∷ names)) (last_name (name ∷ names))), tt)

-- the step of these conditions, which puts nothing
pub stat_follows : (names : List (List ℕ)) (conds : List Cond) (puts : List Template) → conds ≡ conds_of (reach there 0 names) → puts ≡ []
    → Follows 0 conds puts × Lives puts
stat_follows names conds puts e none =
    subst (λ (cs : List Cond). Follows 0 cs puts × Lives puts) (sym e)
    (subst (λ (ps : List Template). Follows 0 (conds_of (reach there 0 names)) ps × Lives ps) (sym none) (stat_is_step names))

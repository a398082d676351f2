use Rattle.std.proofs.Common.{◌≡◌, ◌≢◌, ℕ, ◌+◌, ◌^◌, ◌<◌, ◌≤◌, List, [], ◌∷◌, ◌++◌, map, Option, Some, None, zero, suc, refl, subst, sym, arith}
use Rattle.std.proofs.lemmas.List.{append-nil}
use Rattle.scfs_tuples.specs.declared.types.Cond.{Cond}
use Rattle.scfs_tuples.specs.declared.types.Template.{Template}
use Rattle.scfs_tuples.specs.Steps.{Follows, IsStep}
use Rattle.scfs_anchor.specs.Plans.{Condition, step_of, file, reach, before_last, wanted_version, open_read, open_write, versions}
use Rattle.scfs_anchor.proofs.StepLemmas.{conds_append}

-- the same conditions, where as many variables are bound
counted : (cs : List Cond) (puts : List Template) (n m : ℕ) → n ≡ m → Follows n cs puts → Follows m cs puts
counted cs puts n m e h = subst (λ (k : ℕ). Follows k cs puts) e h

-- the conditions of a path bind the variables in their order
follows_reach : (at : ℕ) (names : List (List ℕ)) (more : List Cond) (puts : List Template) → names ≢ [] → Follows (suc (suc (at + before_last names))) more puts → Follows at (map (λ (c : Condition). c.cond) (reach file at names) ++ more) puts
follows_reach at [] more puts some h = absurd (some refl)
follows_reach zero (name ∷ []) more puts some h =
    ((omega arith, (omega arith, tt)), ((omega arith, (omega arith, tt)), counted more puts _ _ (omega arith) h))
follows_reach (suc at) (name ∷ []) more puts some h =
    ((omega arith, (omega arith, (omega arith, tt))), ((omega arith, (omega arith, (omega arith, tt))), counted more puts _ _ (omega arith) h))
follows_reach zero (name ∷ next ∷ names) more puts some h =
    let rest : Follows 1 (map (λ (c : Condition). c.cond) (reach file 1 (next ∷ names)) ++ more) puts = follows_reach 1 (next ∷ names) more puts (λ e. cc) (counted more puts _ _ (omega arith) h) in
    ((omega arith, tt), ((omega arith, tt), counted _ puts _ _ (omega arith) rest))
follows_reach (suc at) (name ∷ next ∷ names) more puts some h =
    let rest : Follows (suc (suc at)) (map (λ (c : Condition). c.cond) (reach file (suc (suc at)) (next ∷ names)) ++ more) puts = follows_reach (suc (suc at)) (next ∷ names) more puts (λ e. cc) (counted more puts _ _ (omega arith) h) in
    ((omega arith, (omega arith, tt)), ((omega arith, (omega arith, tt)), counted _ puts _ _ (omega arith) rest))

follows_file : (names : List (List ℕ)) (more : List Condition) (puts : List Template) → names ≢ [] → Follows (suc (suc (before_last names))) (map (λ (c : Condition). c.cond) more) puts → Follows 0 (map (λ (c : Condition). c.cond) (reach file 0 names ++ more)) puts
follows_file names more puts some h =
    subst (λ (cs : List Cond). Follows 0 cs puts) (sym (conds_append (reach file 0 names) more))
    (follows_reach 0 names (map (λ (c : Condition). c.cond) more) puts some (counted _ puts _ _ (omega arith) h))

follows_version : (id n : ℕ) (asked : Option ℕ) → id ≤ n → Follows n (map (λ (c : Condition). c.cond) (wanted_version id asked)) []
follows_version id n None h = tt
follows_version id n (Some zero) h = tt
follows_version id n (Some (suc v)) h = ((h, tt), tt)

pub open_read_is_step : (names : List (List ℕ)) (asked : Option ℕ) → names ≢ [] → IsStep (step_of (open_read names asked))
open_read_is_step names asked some =
    (follows_file names (wanted_version (before_last names) asked) [] some (follows_version (before_last names) _ asked (omega arith)), tt)

pub open_write_is_step : (names : List (List ℕ)) (agent incarnation session lease : ℕ) → names ≢ [] → lease < 2 ^ 62 → IsStep (step_of (open_write names agent incarnation session lease))
open_write_is_step names agent incarnation session lease some short =
    (follows_file names _ (open_write names agent incarnation session lease).puts some (((omega arith, tt), ((omega arith, tt), tt))), (short, tt))

pub versions_is_step : (names : List (List ℕ)) → names ≢ [] → IsStep (step_of (versions names))
versions_is_step names some =
    (subst (λ (cs : List Cond). Follows 0 cs []) (append-nil _) (follows_reach 0 names [] [] some tt), tt)

use Rattle.std.proofs.Common.{◌≡◌, ◌≢◌, ℕ, ◌+◌, List, [], ◌∷◌, ◌++◌, length, map, cond, eqb, Option, Some, None, Result, Ok, Err, zero, suc, refl, ap, ◌∙◌, sym, subst, arith, length-append}
use Rattle.std.specs.Prelude.{slice_get}
use Rattle.scfs_schedule.specs.declared.types.Kind.{Kind}
use Rattle.scfs_schedule.specs.declared.types.Kind.TheVariants.{File, Dir}
use Rattle.scfs_schedule.specs.declared.types.Refusal.{Refusal}
use Rattle.scfs_tuples.specs.After.{Tested, Failed, tested}
use Rattle.scfs_tuples.specs.Matching.{want_fits, bind}
use Rattle.scfs_tuples.specs.declared.types.Cond.{Cond}
use Rattle.scfs_tuples.specs.declared.types.Field.{Field}
use Rattle.scfs_tuples.specs.declared.types.Field.TheVariants.{Num}
use Rattle.scfs_tuples.specs.declared.types.Tuple.{Tuple}
use Rattle.scfs_tuples.specs.declared.types.Want.TheVariants.{Any}
use Rattle.scfs_anchor.specs.Shapes.{directory}
use Rattle.scfs_anchor.specs.Plans.{Condition, reach, before_last}
use Rattle.scfs_anchor.specs.Replies.{refusal_at}
use Rattle.scfs_anchor.specs.Tree.{Node, Entry, tuples_of, nodes_of, node_at, same_place, Apart, in_directory}
use Rattle.scfs_anchor.proofs.WalkLemmas.{at_end, IsDirectory}
use Rattle.scfs_anchor.proofs.PathLemmas.{named, came, tested_node, no_more}
use Rattle.scfs_anchor.specs.StepPlans.{last_name}
use Rattle.scfs_anchor.proofs.ItemWalks.{directory_at}

-- What testing the conditions of a path comes to, up to its last name.

abbrev pub conds_of : List Condition → List Cond
conds_of cs = map (λ (c : Condition). c.cond) cs

-- the conditions of the last name are reached, with the directory that they look in bound last, or the path is refused as by the tree
abbrev pub Reaches : (on last : List Cond) → ℕ → List Entry → ℕ → Tested → Result ℕ Refusal → Type 0
Reaches on last i es at t (Ok d) =
    (k : ℕ) × (before : List Field) × (length before ≡ at) × IsDirectory at d before × (t ≡ tested last (i + k) (tuples_of es) before 0)
    × ((found : Option Tuple) → refusal_at on k found ≡ refusal_at last 0 found)
Reaches on last i es at t (Err why) = (k : ℕ) × (t ≡ Failed (i + k) None) × (refusal_at on k None ≡ why)

along : (on last : List Cond) (i : ℕ) (es : List Entry) (at : ℕ) (t u : Tested) (r : Result ℕ Refusal) → t ≡ u → Reaches on last i es at u r
    → Reaches on last i es at t r
along on last i es at t u (Ok d) e (k, before, size, is, h, r) = (k, before, size, is, e ∙ h, r)
along on last i es at t u (Err why) e (k, h, r) = (k, e ∙ h, r)

below : (first second : Cond) (on last : List Cond) (i : ℕ) (es : List Entry) (at : ℕ) (t : Tested) (r : Result ℕ Refusal)
    → Reaches on last (i + 1 + 1) es at t r → Reaches (first ∷ second ∷ on) last i es at t r
below first second on last i es at t (Ok d) (k, before, size, is, h, r) =
    (suc (suc k), before, size, is, h ∙ ap (λ (j : ℕ). tested last j (tuples_of es) before 0) (omega arith), r)
below first second on last i es at t (Err why) (k, h, r) =
    (suc (suc k), h ∙ ap (λ (j : ℕ). Failed j None) (omega arith), r)

way_reaches : (at d : ℕ) (bound : List Field) (name : List ℕ) (on last : List Cond) (i : ℕ) (es : List Entry) (id : ℕ) (go : ℕ → Result ℕ Refusal)
    → (found : Option Node)
    → ((n : Node) → Reaches on last (i + 1 + 1) es id (tested on (i + 1 + 1) (tuples_of es) (bound ++ Num n.id.0 ∷ []) 0) (go n.id.0))
    → Reaches (named at name 0 Any on) last i es id (came found 0 i (λ (n : Node). tested on (i + 1 + 1) (tuples_of es) (bound ++ Num n.id.0 ∷ []) 0))
    (in_directory found go)
way_reaches at d bound name on last i es id go None rest = (0, ap (λ (k : ℕ). Failed k None) (omega arith), refl)
way_reaches at d bound name on last i es id go (Some n) rest = kinds n.kind refl where
  kinds : (kind : Kind) → n.kind ≡ kind
      → Reaches (named at name 0 Any on) last i es id
      (came (Some n) 0 i (λ (n : Node). tested on (i + 1 + 1) (tuples_of es) (bound ++ Num n.id.0 ∷ []) 0)) (in_directory (Some n) go)
  kinds File e = rw e (1, refl, refl)
  kinds Dir e = rw e (below _ _ on last i es id _ (go n.id.0) (rest n))

-- the conditions of a path come to those of its last name, or to what the tree says
pub path_reaches : (last : ℕ → List ℕ → List Condition) (names : List (List ℕ)) (at d : ℕ) (bound : List Field) (i : ℕ) (es : List Entry) (id : ℕ)
    → names ≢ [] → length bound ≡ at → at + before_last names ≡ id → IsDirectory at d bound → Apart same_place (nodes_of es)
    → Reaches (conds_of (reach last at names)) (conds_of (last id (last_name names))) i es id
    (tested (conds_of (reach last at names)) i (tuples_of es) bound 0) (directory_at (nodes_of es) d names)
path_reaches last [] at d bound i es id some size place is apart = absurd (some refl)
path_reaches last (name ∷ []) at d bound i es id some size place is apart =
    let here : at ≡ id = omega arith in
    subst (λ (j : ℕ). Reaches (conds_of (last at name)) (conds_of (last j name)) i es j (tested (conds_of (last at name)) i (tuples_of es) bound 0)
    (Ok d)) here
    (0, bound, size, is, ap (λ (k : ℕ). tested (conds_of (last at name)) k (tuples_of es) bound 0) (omega arith), λ found. refl)
path_reaches last (name ∷ next ∷ names) at d bound i es id some size place is apart =
    let on = conds_of (reach last (suc at) (next ∷ names)) in
    let go = λ (b : ℕ). directory_at (nodes_of es) b (next ∷ names) in
    along (named at name 0 Any on) (conds_of (last id (last_name (next ∷ names)))) i es id _ _ (in_directory (node_at (nodes_of es) d name) go)
    (tested_node at d bound name 0 Any (λ n. []) size is (no_more at bound) es apart on i 0 (node_at (nodes_of es) d name) refl)
    (way_reaches at d bound name on (conds_of (last id (last_name (next ∷ names)))) i es id go (node_at (nodes_of es) d name)
    (λ n. path_reaches last (next ∷ names) (suc at) n.id.0 (bound ++ Num n.id.0 ∷ []) (i + 1 + 1) es id (λ e. cc) (simp length-append (omega arith))
    (omega arith)
    (subst (λ (k : ℕ). slice_get (bound ++ Num n.id.0 ∷ []) k ≡ Some (Num n.id.0)) size (at_end bound [] (Num n.id.0))) apart))

-- a name below that directory, and no other, agrees with the pattern's parent
pub dir_meets : (at d : ℕ) (bound : List Field) → IsDirectory at d bound → (p : ℕ)
    → want_fits (directory at) (Num p) bound ≡ cond (eqb d p) (Some bound) None
dir_meets zero d bound is p = ap (λ r. cond (eqb r p) (Some bound) None) (sym is)
dir_meets (suc k) d bound is p = ap (λ known. bind known (Num p) bound) is

use Rattle.std.proofs.Common.{◌≡◌, ◌≢◌, ℕ, ◌+◌, List, [], ◌∷◌, ◌++◌, length, map, cond, eqb, Bool, true, false, Option, Some, None, Result, Ok, Err, suc, refl, ap, ◌∙◌, subst, arith, append_assoc, length-append, eq-eqb}
use Rattle.std.specs.Prelude.{slice_get}
use Rattle.scfs_schedule.specs.declared.types.Kind.{Kind}
use Rattle.scfs_schedule.specs.declared.types.Kind.TheVariants.{File, Dir}
use Rattle.scfs_schedule.specs.declared.types.Refusal.{Refusal}
use Rattle.scfs_tuples.specs.After.{Tested, Failed, tested, need}
use Rattle.scfs_tuples.specs.Matching.{Match, want_fits, bind}
use Rattle.scfs_tuples.specs.declared.types.Cond.{Cond}
use Rattle.scfs_tuples.specs.declared.types.Cond.TheVariants as conds
use Rattle.scfs_tuples.specs.declared.types.Field.{Field}
use Rattle.scfs_tuples.specs.declared.types.Field.TheVariants.{Num}
use Rattle.scfs_tuples.specs.declared.types.Want.{Want}
use Rattle.scfs_tuples.specs.declared.types.Want.TheVariants.{Any, Bind}
use Rattle.scfs_anchor.specs.Shapes.{number, text, node, directory}
use Rattle.scfs_anchor.specs.Plans.{Condition, file, reach, before_last}
use Rattle.scfs_anchor.specs.Replies.{refusal_at}
use Rattle.scfs_anchor.specs.Tree.{Node, Entry, tuples_of, nodes_of, node_at, kind_number, same_place, Apart, file_at, in_directory, as_file}
use Rattle.scfs_anchor.proofs.WalkLemmas.{at_end, past, IsDirectory, Binds, met, met_again, first_node, second_node}

-- a name is needed, and then that it has a kind
abbrev pub named : ℕ → List ℕ → ℕ → Want → List Cond → List Cond
named at name kind newest more =
    conds.Need (node (Bind at) (directory at) (text name) Any newest Any)
    ∷ conds.Need (node (Bind at) (directory at) (text name) (number kind) newest Any) ∷ more

-- what comes of these two conditions, by the node of the name
abbrev pub came : Option Node → ℕ → ℕ → (Node → Tested) → Tested
came None kind i go = Failed i None
came (Some n) kind i go = cond (eqb kind (kind_number n.kind)) (go n) (Failed (i + 1) None)

abbrev needed_again : List Field → (Node → List Field) → ℕ → Node → ℕ → (List Field → Tested) → Tested
needed_again bound extra kind n i go = need (met_again bound extra kind n) i (λ (m : Match). go m.bound)

by_kind : (bound : List Field) (extra : Node → List Field) (kind : ℕ) (n : Node) (i : ℕ) (go : List Field → Tested) (w : Bool) → eqb kind (kind_number n.kind) ≡ w → needed_again bound extra kind n (i + 1) go ≡ cond (eqb kind (kind_number n.kind)) (go (bound ++ Num n.id.0 ∷ extra n)) (Failed (i + 1) None)
by_kind bound extra kind n i go true e = rw e refl
by_kind bound extra kind n i go false e = rw e refl

-- the two conditions of a name come to what the node of the name says
pub tested_node : (at d : ℕ) (bound : List Field) (name : List ℕ) (kind : ℕ) (newest : Want) (extra : Node → List Field) → length bound ≡ at → IsDirectory at d bound → Binds at bound newest extra → (es : List Entry) → Apart same_place (nodes_of es) → (more : List Cond) (i taken : ℕ) (found : Option Node) → node_at (nodes_of es) d name ≡ found → tested (named at name kind newest more) i (tuples_of es) bound taken ≡ came found kind i (λ (n : Node). tested more (i + 1 + 1) (tuples_of es) (bound ++ Num n.id.0 ∷ extra n) taken)
tested_node at d bound name kind newest extra size is binds es apart more i taken found h =
    ap (λ (m : Option Match). need m i (λ (m : Match). tested (conds.Need (node (Bind at) (directory at) (text name) (number kind) newest Any) ∷ more) (i + 1) (tuples_of es) m.bound taken))
    (first_node at d bound name newest extra free is binds es ∙ ap (met bound extra) h)
    ∙ second found h where
      free : slice_get bound at ≡ None
      free = subst (λ (k : ℕ). slice_get bound k ≡ None) size (past bound)

      own : (m : Node) → slice_get (bound ++ Num m.id.0 ∷ extra m) at ≡ Some (Num m.id.0)
      own m = subst (λ (k : ℕ). slice_get (bound ++ Num m.id.0 ∷ extra m) k ≡ Some (Num m.id.0)) size (at_end bound (extra m) (Num m.id.0))

      second : (found : Option Node) → node_at (nodes_of es) d name ≡ found → need (met bound extra found) i (λ (m : Match). tested (conds.Need (node (Bind at) (directory at) (text name) (number kind) newest Any) ∷ more) (i + 1) (tuples_of es) m.bound taken) ≡ came found kind i (λ (n : Node). tested more (i + 1 + 1) (tuples_of es) (bound ++ Num n.id.0 ∷ extra n) taken)
      second None h = refl
      second (Some n) h =
          ap (λ (m : Option Match). need m (i + 1) (λ (m : Match). tested more (i + 1 + 1) (tuples_of es) m.bound taken)) (second_node at d bound name kind newest extra is binds own n es apart h)
          ∙ by_kind bound extra kind n i (λ b. tested more (i + 1 + 1) (tuples_of es) b taken) (eqb kind (kind_number n.kind)) refl

-- a pattern that binds nothing beside the id
pub no_more : (at : ℕ) (bound : List Field) → Binds at bound Any (λ n. [])
no_more at bound = record { first = λ n. refl; again = λ n. refl }

-- a pattern that binds the newest version behind the id
newest_behind : (at : ℕ) (bound : List Field) → length bound ≡ at → Binds at bound (Bind (at + 1)) (λ n. Num n.newest ∷ [])
newest_behind at bound size = record { first = first; again = again } where
  first : (n : Node) → want_fits (Bind (at + 1)) (Num n.newest) (bound ++ Num n.id.0 ∷ []) ≡ Some (bound ++ Num n.id.0 ∷ Num n.newest ∷ [])
  first n =
      let b = bound ++ Num n.id.0 ∷ [] in
      let place : length b ≡ at + 1 = simp length-append (omega arith) in
      let free : slice_get b (at + 1) ≡ None = subst (λ (k : ℕ). slice_get b k ≡ None) place (past b) in
      ap (λ known. bind known (Num n.newest) b) free ∙ ap (λ x. Some x) (append_assoc bound (Num n.id.0 ∷ []) (Num n.newest ∷ []))

  again : (n : Node) → want_fits (Bind (at + 1)) (Num n.newest) (bound ++ Num n.id.0 ∷ Num n.newest ∷ []) ≡ Some (bound ++ Num n.id.0 ∷ Num n.newest ∷ [])
  again n =
      let b = bound ++ Num n.id.0 ∷ [] in
      let whole = bound ++ Num n.id.0 ∷ Num n.newest ∷ [] in
      let place : length b ≡ at + 1 = simp length-append (omega arith) in
      let found : slice_get (b ++ Num n.newest ∷ []) (at + 1) ≡ Some (Num n.newest) = subst (λ (k : ℕ). slice_get (b ++ Num n.newest ∷ []) k ≡ Some (Num n.newest)) place (at_end b [] (Num n.newest)) in
      let there : slice_get whole (at + 1) ≡ Some (Num n.newest) = subst (λ (l : List Field). slice_get l (at + 1) ≡ Some (Num n.newest)) (append_assoc bound (Num n.id.0 ∷ []) (Num n.newest ∷ [])) found in
      ap (λ known. bind known (Num n.newest) whole) there ∙ ap (λ t. cond t (Some whole) None) (eq-eqb n.newest n.newest refl)

-- what testing a path and further conditions comes to: the further ones are tested with the file's id and newest version
-- bound last, or the path is refused as by the tree
abbrev pub Comes : List Cond → List Cond → ℕ → List Entry → ℕ → ℕ → Tested → Result Node Refusal → Type 0
Comes on more i es taken id t (Ok n) =
    (before : List Field) × (length before ≡ id) × (t ≡ tested more (i + length on) (tuples_of es) (before ++ Num n.id.0 ∷ Num n.newest ∷ []) taken)
Comes on more i es taken id t (Err refusal) =
    (k : ℕ) × (t ≡ Failed (i + k) None) × (refusal_at (on ++ more) k None ≡ refusal)

along : (on more : List Cond) (i : ℕ) (es : List Entry) (taken id : ℕ) (t u : Tested) (r : Result Node Refusal) → t ≡ u → Comes on more i es taken id u r → Comes on more i es taken id t r
along on more i es taken id t u (Ok n) e (before, size, h) = (before, size, e ∙ h)
along on more i es taken id t u (Err refusal) e (k, h, r) = (k, e ∙ h, r)

abbrev conds_of : List Condition → List Cond
conds_of cs = map (λ (c : Condition). c.cond) cs

here_fails : (i : ℕ) → Failed i None ≡ Failed (i + 0) None
here_fails i = ap (λ (k : ℕ). Failed k None) (omega arith)

-- the last name
last_comes : (at d : ℕ) (bound : List Field) (name : List ℕ) (more : List Cond) (i : ℕ) (es : List Entry) (taken id : ℕ) → length bound ≡ id → (found : Option Node) → Comes (conds_of (file at name)) more i es taken id (came found 1 i (λ (n : Node). tested more (i + 1 + 1) (tuples_of es) (bound ++ Num n.id.0 ∷ Num n.newest ∷ []) taken)) (as_file found)
last_comes at d bound name more i es taken id size None = (0, here_fails i, refl)
last_comes at d bound name more i es taken id size (Some n) = kinds n.kind refl where
  kinds : (kind : Kind) → n.kind ≡ kind → Comes (conds_of (file at name)) more i es taken id (came (Some n) 1 i (λ (n : Node). tested more (i + 1 + 1) (tuples_of es) (bound ++ Num n.id.0 ∷ Num n.newest ∷ []) taken)) (as_file (Some n))
  kinds File e = rw e (bound, size, ap (λ (k : ℕ). tested more k (tuples_of es) (bound ++ Num n.id.0 ∷ Num n.newest ∷ []) taken) (omega arith))
  kinds Dir e = rw e (1, refl, refl)

-- the names behind a directory come to what they come to from it
below : (first second : Cond) (on more : List Cond) (i : ℕ) (es : List Entry) (taken id : ℕ) (t : Tested) (r : Result Node Refusal) → Comes on more (i + 1 + 1) es taken id t r → Comes (first ∷ second ∷ on) more i es taken id t r
below first second on more i es taken id t (Ok n) (before, size, h) =
    (before, size, h ∙ ap (λ (k : ℕ). tested more k (tuples_of es) (before ++ Num n.id.0 ∷ Num n.newest ∷ []) taken) (omega arith))
below first second on more i es taken id t (Err refusal) (k, h, r) =
    (suc (suc k), h ∙ ap (λ (j : ℕ). Failed j None) (omega arith), r)

way_comes : (at d : ℕ) (bound : List Field) (name : List ℕ) (on more : List Cond) (i : ℕ) (es : List Entry) (taken id : ℕ) (reach : ℕ → Result Node Refusal) → (found : Option Node) → ((n : Node) → Comes on more (i + 1 + 1) es taken id (tested (on ++ more) (i + 1 + 1) (tuples_of es) (bound ++ Num n.id.0 ∷ []) taken) (reach n.id.0)) → Comes (named at name 0 Any on) more i es taken id (came found 0 i (λ (n : Node). tested (on ++ more) (i + 1 + 1) (tuples_of es) (bound ++ Num n.id.0 ∷ []) taken)) (in_directory found reach)
way_comes at d bound name on more i es taken id reach None rest = (0, here_fails i, refl)
way_comes at d bound name on more i es taken id reach (Some n) rest = kinds n.kind refl where
  kinds : (kind : Kind) → n.kind ≡ kind → Comes (named at name 0 Any on) more i es taken id (came (Some n) 0 i (λ (n : Node). tested (on ++ more) (i + 1 + 1) (tuples_of es) (bound ++ Num n.id.0 ∷ []) taken)) (in_directory (Some n) reach)
  kinds File e = rw e (1, refl, refl)
  kinds Dir e = rw e (below _ _ on more i es taken id _ (reach n.id.0) (rest n))

-- the conditions of a path come to what the tree says of it
pub path_comes : (names : List (List ℕ)) (at d : ℕ) (bound : List Field) (more : List Cond) (i : ℕ) (es : List Entry) (taken id : ℕ) → names ≢ [] → length bound ≡ at → at + before_last names ≡ id → IsDirectory at d bound → Apart same_place (nodes_of es) → Comes (conds_of (reach file at names)) more i es taken id (tested (conds_of (reach file at names) ++ more) i (tuples_of es) bound taken) (file_at (nodes_of es) d names)
path_comes [] at d bound more i es taken id some size place is apart = absurd (some refl)
path_comes (name ∷ []) at d bound more i es taken id some size place is apart =
    along (conds_of (file at name)) more i es taken id _ _ (as_file (node_at (nodes_of es) d name))
    (tested_node at d bound name 1 (Bind (at + 1)) (λ n. Num n.newest ∷ []) size is (newest_behind at bound size) es apart more i taken (node_at (nodes_of es) d name) refl)
    (last_comes at d bound name more i es taken id (omega arith) (node_at (nodes_of es) d name))
path_comes (name ∷ next ∷ names) at d bound more i es taken id some size place is apart =
    let on = conds_of (reach file (suc at) (next ∷ names)) in
    along (named at name 0 Any on) more i es taken id _ _ (in_directory (node_at (nodes_of es) d name) (λ b. file_at (nodes_of es) b (next ∷ names)))
    (tested_node at d bound name 0 Any (λ n. []) size is (no_more at bound) es apart (on ++ more) i taken (node_at (nodes_of es) d name) refl)
    (way_comes at d bound name on more i es taken id (λ b. file_at (nodes_of es) b (next ∷ names)) (node_at (nodes_of es) d name)
    (λ n. path_comes (next ∷ names) (suc at) n.id.0 (bound ++ Num n.id.0 ∷ []) more (i + 1 + 1) es taken id (λ e. cc) (simp length-append (omega arith)) (omega arith)
    (subst (λ (k : ℕ). slice_get (bound ++ Num n.id.0 ∷ []) k ≡ Some (Num n.id.0)) size (at_end bound [] (Num n.id.0))) apart))

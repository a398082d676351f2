use Rattle.std.proofs.Common.{◌≡◌, ℕ, ◌<◌, ◌≤◌, List, [], ◌∷◌, ◌++◌, eqb, Bool, true, false, ◌&&◌, Option, Some, None, zero, suc, refl, ap, ◌∙◌, sym, subst, arith, eq-eqb}
use Rattle.std.specs.Prelude.{MatchOption}
use Rattle.std.specs.List.{find}
use Rattle.std.proofs.lemmas.Bool.Decides.{nat_tests}
use Rattle.scfs_base.specs.declared.naming.FileId.{FileId}
use Rattle.scfs_schedule.specs.declared.types.Kind.TheVariants.{File}
use Rattle.scfs_model.specs.Layers.{Row}
use Rattle.scfs_model.specs.Lists.{without_first}
use Rattle.scfs_model.specs.Names.{same_file}
use Rattle.scfs_model.specs.Tree.{Node}
use Rattle.scfs_anchor.specs.Tree.{Each, Apart}
use Rattle.scfs_anchor.proofs.SightLemmas.{number_eq}
use Rattle.scfs_anchor.proofs.ItemLemmas.{eqb_sym, bytes_sym, both_same}
use Rattle.scfs_anchor.proofs.ListLemmas.{each_also, each_append, each_without, each_found, each_other, find_none, apart_without, apart_append, each_apart, find_without, find_last, find_still, find_past}
use Rattle.scfs_anchor.proofs.WholeLemmas.{same_id, same_place, same_version, node_of, version_of, HasNewest, IsOf, Whole}

-- Nodes and versions that stand for a tree, with a new node, and with a new version of a file.

still_newest : (vs : List Row) (v : Row) (n : Node) (k : ℕ) → HasNewest vs n k → HasNewest (vs ++ v ∷ []) n k
still_newest vs v n zero h = h
still_newest vs v n (suc k) h = (h.0, by (version_of vs n.id (suc k)) refl h.1) where
  by : (o : Option Row) → version_of vs n.id (suc k) ≡ o → MatchOption o ⊥ (λ x. x.length ≡ n.size)
      → MatchOption (version_of (vs ++ v ∷ []) n.id (suc k)) ⊥ (λ x. x.length ≡ n.size)
  by None e is = absurd is
  by (Some x) e is =
      subst (λ (o : Option Row). MatchOption o ⊥ (λ x. x.length ≡ n.size))
      (sym (find_still (λ (x : Row). same_file x.file n.id && eqb x.number (suc k)) vs v x e)) is

still_owned : (ns : List Node) (n : Node) (v : Row) → IsOf (node_of ns v.file) v → IsOf (node_of (ns ++ n ∷ []) v.file) v
still_owned ns n v h = by (node_of ns v.file) refl h where
  by : (o : Option Node) → node_of ns v.file ≡ o → IsOf o v → IsOf (node_of (ns ++ n ∷ []) v.file) v
  by None e is = absurd is
  by (Some m) e is = subst (λ (o : Option Node). IsOf o v) (sym (find_still (λ (x : Node). same_file x.id v.file) ns n m e)) is

-- with a new file under an id and a name that no node has
pub with_node : (ns : List Node) (vs : List Row) (n : Node) → Whole ns vs → Each (λ m. same_id m n ≡ false) ns → Each (λ m. same_place m n ≡ false) ns
    → n.newest ≡ 0 → n.size ≡ 0 → Whole (ns ++ n ∷ []) vs
with_node ns vs n is id place none empty =
    record {
      ids = apart_append same_id ns n is.ids id;
      places = apart_append same_place ns n is.places place;
      versions = is.versions;
      newest = each_append (λ m. HasNewest vs m m.newest) ns (n ∷ []) is.newest (subst (λ (k : ℕ). HasNewest vs n k) (sym none) empty, tt);
      numbers = is.numbers;
      owners = each_also (λ v. IsOf (node_of ns v.file) v) (λ v. IsOf (node_of (ns ++ n ∷ []) v.file) v) (λ v h. still_owned ns n v h) vs is.owners;
    }

id_sym : (a b : Node) → same_id a b ≡ same_id b a
id_sym a b = eqb_sym a.id.0 b.id.0

place_sym : (a b : Node) → same_place a b ≡ same_place b a
place_sym a b = both_same _ _ _ _ (eqb_sym a.parent.0 b.parent.0) (bytes_sym a.name b.name)

-- the first node that passes is the one of its id
pub found_by_id : (p : Node → Bool) (ns : List Node) (n : Node) → Apart same_id ns → find p ns ≡ Some n → node_of ns n.id ≡ Some n
found_by_id p [] n apart e = absurd cc
found_by_id p (x ∷ ns) n apart e = here (λ rest. found_by_id p ns n apart.1 rest) (p x) refl where
  here : (find p ns ≡ Some n → node_of ns n.id ≡ Some n) → (t : Bool) → p x ≡ t → node_of (x ∷ ns) n.id ≡ Some n
  here later true f =
      let same : Some x ≡ Some n = rw f at e in
      let one : x ≡ n = cc in
      let own : eqb x.id.0 n.id.0 ≡ true = eq-eqb x.id.0 n.id.0 (ap (λ (m : Node). m.id.0) one) in
      rw own same
  here later false f =
      let found : find p ns ≡ Some n = rw f at e in
      let other : eqb x.id.0 n.id.0 ≡ false = each_found (λ y. same_id x y ≡ false) p ns (each_other (same_id x) ns apart.0) n found in
      rw other (later found)

-- a node as it is once its file has one version more
abbrev pub renewed : Node → (number size : ℕ) → Node
renewed n number size = record n { newest = number; size = size }

abbrev pub moved : (Node → Bool) → List Node → Node → List Node
moved p ns n = without_first p ns ++ n ∷ []

-- a close: the node moves behind the others, and its next version comes
pub record Close (p : Node → Bool) (ns : List Node) (vs : List Row) (n : Node) (v : Row) : Type 0 where
  pub whole : Whole ns vs
  pub found : find p ns ≡ Some n
  pub file : n.kind ≡ File
  pub id : v.file.0 ≡ n.id.0
  pub number : v.number ≡ suc n.newest

-- what is not the node's is where it was
moved_other : (p : Node → Bool) (ns : List Node) (n m : Node) (file : FileId) → find p ns ≡ Some n → n.id.0 ≡ m.id.0 → eqb n.id.0 file.0 ≡ false
    → node_of (moved p ns m) file ≡ node_of ns file
moved_other p ns n m file found same other =
    find_past (λ (x : Node). same_file x.id file) (without_first p ns) m (subst (λ (i : ℕ). eqb i file.0 ≡ false) same other)
    ∙ find_without p (λ (x : Node). same_file x.id file) ns n found other

moved_own : (p : Node → Bool) (ns : List Node) (n m : Node) (file : FileId) → Apart same_id ns → find p ns ≡ Some n → n.id.0 ≡ m.id.0
    → n.id.0 ≡ file.0 → node_of (moved p ns m) file ≡ Some m
moved_own p ns n m file apart found same own =
    find_last (λ (x : Node). same_file x.id file) (without_first p ns) m
    (find_none (λ (x : Node). same_file x.id file) (without_first p ns)
    (subst (λ (i : ℕ). Each (λ (x : Node). eqb x.id.0 i ≡ false) (without_first p ns)) own (each_apart same_id id_sym p ns apart n found)))
    (eq-eqb m.id.0 file.0 (sym same ∙ own))

above : (a b c : ℕ) → a ≤ b → c ≡ suc b → eqb a c ≡ false
above a b c h e = let over : a < c = omega arith in grind (arith, nat_tests)

-- a version that is there is not the new one
older : {p : Node → Bool} {ns : List Node} {vs : List Row} {n : Node} {v : Row} → Close p ns vs n v → (x : Row) → IsOf (node_of ns x.file) x
    → same_version x v ≡ false
older {p = p} {ns = ns} {n = n} {v = v} c x h = here (eqb x.file.0 v.file.0) refl where
  here : (t : Bool) → eqb x.file.0 v.file.0 ≡ t → same_version x v ≡ false
  here false e = rw e refl
  here true e =
      let same : x.file.0 ≡ n.id.0 = number_eq x.file.0 v.file.0 e ∙ c.id in
      let it : node_of ns x.file ≡ Some n = subst (λ (i : ℕ). node_of ns (record { 0 = i }) ≡ Some n) (sym same)
      (found_by_id p ns n c.whole.ids c.found) in
      let is = subst (λ (o : Option Node). IsOf o x) it h in
      rw e (above x.number n.newest v.number is.1 c.number)

owned : {p : Node → Bool} {ns : List Node} {vs : List Row} {n : Node} {v : Row} → Close p ns vs n v → (size : ℕ) (x : Row)
    → IsOf (node_of ns x.file) x → IsOf (node_of (moved p ns (renewed n v.number size)) x.file) x
owned {p = p} {ns = ns} {n = n} {v = v} c size x h = here (eqb n.id.0 x.file.0) refl where
  here : (t : Bool) → eqb n.id.0 x.file.0 ≡ t → IsOf (node_of (moved p ns (renewed n v.number size)) x.file) x
  here false e = subst (λ (o : Option Node). IsOf o x) (sym (moved_other p ns n (renewed n v.number size) x.file c.found refl e)) h
  here true e =
      let same : n.id.0 ≡ x.file.0 = number_eq n.id.0 x.file.0 e in
      let it : node_of ns x.file ≡ Some n = subst (λ (i : ℕ). node_of ns (record { 0 = i }) ≡ Some n) same (found_by_id p ns n c.whole.ids c.found) in
      let is = subst (λ (o : Option Node). IsOf o x) it h in
      let low : x.number ≤ n.newest = is.1 in
      let next : v.number ≡ suc n.newest = c.number in
      subst (λ (o : Option Node). IsOf o x) (sym (moved_own p ns n (renewed n v.number size) x.file c.whole.ids c.found refl same))
      (is.0, omega arith)

-- the new version is found by its number
new_found : {p : Node → Bool} {ns : List Node} {vs : List Row} {n : Node} {v : Row} → Close p ns vs n v
    → version_of (vs ++ v ∷ []) n.id (suc n.newest) ≡ Some v
new_found {p = p} {ns = ns} {vs = vs} {n = n} {v = v} c =
    find_last (λ (x : Row). same_file x.file n.id && eqb x.number (suc n.newest)) vs v
    (find_none (λ (x : Row). same_file x.file n.id && eqb x.number (suc n.newest)) vs
    (subst (λ (k : ℕ). Each (λ (x : Row). (same_file x.file n.id && eqb x.number k) ≡ false) vs) c.number
    (subst (λ (i : ℕ). Each (λ (x : Row). (eqb x.file.0 i && eqb x.number v.number) ≡ false) vs) c.id
    (each_also (λ x. IsOf (node_of ns x.file) x) (λ x. same_version x v ≡ false) (λ x h. older c x h) vs c.whole.owners))))
    (let one : eqb v.file.0 n.id.0 ≡ true = eq-eqb v.file.0 n.id.0 c.id in
    let two : eqb v.number (suc n.newest) ≡ true = eq-eqb v.number (suc n.newest) c.number in
    rw (one, two) refl)

new_newest : {p : Node → Bool} {ns : List Node} {vs : List Row} {n : Node} {v : Row} → Close p ns vs n v
    → HasNewest (vs ++ v ∷ []) (renewed n v.number v.length) v.number
new_newest {vs = vs} {n = n} {v = v} c =
    subst (λ (k : ℕ). HasNewest (vs ++ v ∷ []) (renewed n v.number v.length) k) (sym c.number)
    (c.file, subst (λ (o : Option Row). MatchOption o ⊥ (λ x. x.length ≡ v.length)) (sym (new_found c)) refl)

pub close_whole : {p : Node → Bool} {ns : List Node} {vs : List Row} {n : Node} {v : Row} → Close p ns vs n v
    → Whole (moved p ns (renewed n v.number v.length)) (vs ++ v ∷ [])
close_whole {p = p} {ns = ns} {vs = vs} {n = n} {v = v} c =
    let m = renewed n v.number v.length in
    let rest = without_first p ns in
    let next : v.number ≡ suc n.newest = c.number in
    record {
      ids = apart_append same_id rest m (apart_without same_id p ns c.whole.ids) (each_apart same_id id_sym p ns c.whole.ids n c.found);
      places =
          apart_append same_place rest m (apart_without same_place p ns c.whole.places)
          (each_apart same_place place_sym p ns c.whole.places n c.found);
      versions =
          apart_append same_version vs v c.whole.versions
          (each_also (λ x. IsOf (node_of ns x.file) x) (λ x. same_version x v ≡ false) (λ x h. older c x h) vs c.whole.owners);
      newest =
          each_append (λ x. HasNewest (vs ++ v ∷ []) x x.newest) rest (m ∷ [])
          (each_without (λ x. HasNewest (vs ++ v ∷ []) x x.newest) p ns
          (each_also (λ x. HasNewest vs x x.newest) (λ x. HasNewest (vs ++ v ∷ []) x x.newest)
          (λ x h. still_newest vs v x x.newest h) ns c.whole.newest))
          (new_newest c, tt);
      numbers = each_append (λ x. 1 ≤ x.number) vs (v ∷ []) c.whole.numbers (omega arith, tt);
      owners =
          each_append (λ x. IsOf (node_of (moved p ns m) x.file) x) vs (v ∷ [])
          (each_also (λ x. IsOf (node_of ns x.file) x) (λ x. IsOf (node_of (moved p ns m) x.file) x) (λ x h. owned c v.length x h) vs c.whole.owners)
          (subst (λ (o : Option Node). IsOf o v) (sym (moved_own p ns n m v.file c.whole.ids c.found refl (sym c.id))) (c.file, omega arith), tt);
    }

-- a node that is found is alone with its id
pub alone : (p : Node → Bool) (ns : List Node) (n : Node) → Apart same_id ns → find p ns ≡ Some n → n.kind ≡ File
    → Each (λ (m : Node). m.id.0 ≡ n.id.0 → m.kind ≡ File) ns
alone p [] n apart e file = tt
alone p (x ∷ ns) n apart e file = here (λ rest. alone p ns n apart.1 rest file) (p x) refl where
  clash : {A : Type 0} (a b : ℕ) → eqb a b ≡ false → a ≡ b → A
  clash a b f g = absurd (let yes : eqb a b ≡ true = eq-eqb a b g in cc)

  here : (find p ns ≡ Some n → Each (λ (m : Node). m.id.0 ≡ n.id.0 → m.kind ≡ File) ns) → (t : Bool) → p x ≡ t
      → Each (λ (m : Node). m.id.0 ≡ n.id.0 → m.kind ≡ File) (x ∷ ns)
  here later true f =
      let same : Some x ≡ Some n = rw f at e in
      let one : x ≡ n = cc in
      subst (λ (y : Node). Each (λ (m : Node). m.id.0 ≡ y.id.0 → m.kind ≡ File) (x ∷ ns)) one (
        λ i. ap (λ (m : Node). m.kind) one ∙ file,
        each_also (λ m. same_id x m ≡ false) (λ m. m.id.0 ≡ x.id.0 → m.kind ≡ File) (λ m g i. clash x.id.0 m.id.0 g (sym i)) ns
            (each_other (same_id x) ns apart.0),
      )
  here later false f =
      let found : find p ns ≡ Some n = rw f at e in
      (λ i. clash x.id.0 n.id.0 (each_found (λ y. same_id x y ≡ false) p ns (each_other (same_id x) ns apart.0) n found) i, later found)

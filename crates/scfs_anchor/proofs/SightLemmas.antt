use Rattle.std.proofs.Common.{◌≡◌, ℕ, List, [], ◌∷◌, map, eqb, Bool, true, false, ◌&&◌, ◌||◌, Some, refl, ap, ◌∙◌, sym, subst, arith}
use Rattle.std.specs.Prelude.{slice_get}
use Rattle.std.specs.List.{list_any}
use Rattle.std.specs.Option.{option_to_list}
use Rattle.std.proofs.lemmas.Bool.Decides.{nat_tests}
use Rattle.scfs_base.specs.declared.naming.FileId.{FileId}
use Rattle.scfs_tuples.specs.Matching.{row, want_agrees, agrees}
use Rattle.scfs_tuples.specs.declared.types.Field.{Field}
use Rattle.scfs_tuples.specs.declared.types.Field.TheVariants.{Num}
use Rattle.scfs_tuples.specs.declared.types.Want.{Want}
use Rattle.scfs_tuples.specs.declared.types.Want.TheVariants.{Any, Bind}
use Rattle.scfs_anchor.specs.Shapes as shapes
use Rattle.scfs_anchor.specs.Replies.{version_tuple}
use Rattle.scfs_anchor.specs.Tree.{Entry, OfNode, OfVersion, OfLock, OfDead, OfGone, Lock, tuple_of, tuples_of, versions_of, locks_of, version_of, lock_on, same_file, same_version, Apart}
use Rattle.scfs_anchor.specs.declared.seen.VersionRow.{VersionRow}

head_false : (t u : Bool) → t || u ≡ false → t ≡ false
head_false true u h = cc
head_false false u h = refl

tail_false : (t u : Bool) → t || u ≡ false → u ≡ false
tail_false true u h = cc
tail_false false u h = h

pub number_eq : (a b : ℕ) → eqb a b ≡ true → a ≡ b
number_eq a b h = grind (arith, nat_tests)

-- how the pattern of a version agrees with one
version_agrees : (bound : List Field) (a i v : ℕ) (number : Want) → slice_get bound a ≡ Some (Num i) → ((n : ℕ) → want_agrees bound number (Num n) ≡ eqb v n) → (r : VersionRow) (t u : Bool) → eqb i r.id.0 ≡ t → eqb v r.number ≡ u → agrees bound (shapes.version (Bind a) number).wants (version_tuple r).fields ≡ t && u
version_agrees bound a i v number is wants r true true e k = rw (is, e, wants r.number, k) refl
version_agrees bound a i v number is wants r true false e k = rw (is, e, wants r.number, k) refl
version_agrees bound a i v number is wants r false u e k = rw (is, e) refl

-- no such version is there, and so none is shown
no_version : (bound : List Field) (a i v : ℕ) (number : Want) → slice_get bound a ≡ Some (Num i) → ((n : ℕ) → want_agrees bound number (Num n) ≡ eqb v n) → (es : List Entry) → list_any (λ (r : VersionRow). eqb i r.id.0 && eqb v r.number) (versions_of es) ≡ false → row bound (tuples_of es) (shapes.version (Bind a) number).wants ≡ []
no_version bound a i v number is wants [] none = refl
no_version bound a i v number is wants (OfNode n ∷ es) none = no_version bound a i v number is wants es none
no_version bound a i v number is wants (OfLock l ∷ es) none = no_version bound a i v number is wants es none
no_version bound a i v number is wants (OfDead u ∷ es) none = no_version bound a i v number is wants es none
no_version bound a i v number is wants (OfGone id ∷ es) none = no_version bound a i v number is wants es none
no_version bound a i v number is wants (OfVersion r ∷ es) none =
    let differs = version_agrees bound a i v number is wants r (eqb i r.id.0) (eqb v r.number) refl refl ∙ head_false _ _ none in
    rw differs (no_version bound a i v number is wants es (tail_false (eqb i r.id.0 && eqb v r.number) _ none))

-- the version that is there is shown, and no other
pub version_shown : (bound : List Field) (a : ℕ) (id : FileId) (v : ℕ) (number : Want) → slice_get bound a ≡ Some (Num id.0) → ((n : ℕ) → want_agrees bound number (Num n) ≡ eqb v n) → (es : List Entry) → Apart same_version (versions_of es) → row bound (tuples_of es) (shapes.version (Bind a) number).wants ≡ map version_tuple (option_to_list (version_of (versions_of es) id v))
version_shown bound a id v number is wants [] apart = refl
version_shown bound a id v number is wants (OfNode n ∷ es) apart = version_shown bound a id v number is wants es apart
version_shown bound a id v number is wants (OfLock l ∷ es) apart = version_shown bound a id v number is wants es apart
version_shown bound a id v number is wants (OfDead u ∷ es) apart = version_shown bound a id v number is wants es apart
version_shown bound a id v number is wants (OfGone g ∷ es) apart = version_shown bound a id v number is wants es apart
version_shown bound a id v number is wants (OfVersion r ∷ es) apart =
    here (eqb id.0 r.id.0) (eqb v r.number) refl refl (version_shown bound a id v number is wants es apart.1) where
      alone : eqb id.0 r.id.0 ≡ true → eqb v r.number ≡ true → row bound (tuples_of es) (shapes.version (Bind a) number).wants ≡ []
      alone e k =
          no_version bound a id.0 v number is wants es
          (subst (λ (i : ℕ). list_any (λ (x : VersionRow). eqb i x.id.0 && eqb v x.number) (versions_of es) ≡ false) (sym (number_eq id.0 r.id.0 e))
          (subst (λ (w : ℕ). list_any (λ (x : VersionRow). eqb r.id.0 x.id.0 && eqb w x.number) (versions_of es) ≡ false) (sym (number_eq v r.number k)) apart.0))

      here : (t u : Bool) → eqb id.0 r.id.0 ≡ t → eqb v r.number ≡ u → row bound (tuples_of es) (shapes.version (Bind a) number).wants ≡ map version_tuple (option_to_list (version_of (versions_of es) id v)) → row bound (tuples_of (OfVersion r ∷ es)) (shapes.version (Bind a) number).wants ≡ map version_tuple (option_to_list (version_of (versions_of (OfVersion r ∷ es)) id v))
      here true true e k rest = rw (version_agrees bound a id.0 v number is wants r true true e k, e, k) (ap (λ ts. version_tuple r ∷ ts) (alone e k))
      here true false e k rest = rw (version_agrees bound a id.0 v number is wants r true false e k, e, k) rest
      here false u e k rest = rw (version_agrees bound a id.0 v number is wants r false u e k, e) rest

-- how the pattern of a lock agrees with one
lock_agrees : (bound : List Field) (a i : ℕ) → slice_get bound a ≡ Some (Num i) → (l : Lock) (t : Bool) → eqb i l.file.0 ≡ t → agrees bound (shapes.lock (Bind a) Any Any Any).wants (tuple_of (OfLock l)).fields ≡ t
lock_agrees bound a i is l true e = rw (is, e) refl
lock_agrees bound a i is l false e = rw (is, e) refl

no_lock : (bound : List Field) (a i : ℕ) → slice_get bound a ≡ Some (Num i) → (es : List Entry) → list_any (λ (l : Lock). eqb i l.file.0) (locks_of es) ≡ false → row bound (tuples_of es) (shapes.lock (Bind a) Any Any Any).wants ≡ []
no_lock bound a i is [] none = refl
no_lock bound a i is (OfNode n ∷ es) none = no_lock bound a i is es none
no_lock bound a i is (OfVersion r ∷ es) none = no_lock bound a i is es none
no_lock bound a i is (OfDead u ∷ es) none = no_lock bound a i is es none
no_lock bound a i is (OfGone id ∷ es) none = no_lock bound a i is es none
no_lock bound a i is (OfLock l ∷ es) none =
    let differs = lock_agrees bound a i is l (eqb i l.file.0) refl ∙ head_false _ _ none in
    rw differs (no_lock bound a i is es (tail_false (eqb i l.file.0) _ none))

-- the lock that is there is shown, and no other
pub lock_shown : (bound : List Field) (a : ℕ) (id : FileId) → slice_get bound a ≡ Some (Num id.0) → (es : List Entry) → Apart (λ (x y : Lock). same_file x.file y.file) (locks_of es) → row bound (tuples_of es) (shapes.lock (Bind a) Any Any Any).wants ≡ map (λ l. tuple_of (OfLock l)) (option_to_list (lock_on (locks_of es) id))
lock_shown bound a id is [] apart = refl
lock_shown bound a id is (OfNode n ∷ es) apart = lock_shown bound a id is es apart
lock_shown bound a id is (OfVersion r ∷ es) apart = lock_shown bound a id is es apart
lock_shown bound a id is (OfDead u ∷ es) apart = lock_shown bound a id is es apart
lock_shown bound a id is (OfGone g ∷ es) apart = lock_shown bound a id is es apart
lock_shown bound a id is (OfLock l ∷ es) apart =
    here (eqb id.0 l.file.0) refl (lock_shown bound a id is es apart.1) where
      alone : eqb id.0 l.file.0 ≡ true → row bound (tuples_of es) (shapes.lock (Bind a) Any Any Any).wants ≡ []
      alone e =
          no_lock bound a id.0 is es
          (subst (λ (i : ℕ). list_any (λ (x : Lock). eqb i x.file.0) (locks_of es) ≡ false) (sym (number_eq id.0 l.file.0 e)) apart.0)

      here : (t : Bool) → eqb id.0 l.file.0 ≡ t → row bound (tuples_of es) (shapes.lock (Bind a) Any Any Any).wants ≡ map (λ l. tuple_of (OfLock l)) (option_to_list (lock_on (locks_of es) id)) → row bound (tuples_of (OfLock l ∷ es)) (shapes.lock (Bind a) Any Any Any).wants ≡ map (λ l. tuple_of (OfLock l)) (option_to_list (lock_on (locks_of (OfLock l ∷ es)) id))
      here true e rest = rw (lock_agrees bound a id.0 is l true e, e) (ap (λ ts. tuple_of (OfLock l) ∷ ts) (alone e))
      here false e rest = rw (lock_agrees bound a id.0 is l false e, e) rest

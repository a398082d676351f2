use Rattle.std.proofs.Common.{◌≡◌, ℕ, zero, suc, List, [], ◌∷◌, ◌++◌, Bool, true, false, refl, ap, ◌∙◌, sym, cond, Option, Some, None, arith}
use Rattle.std.specs.Prelude.{is_some, not, slice_get}
use Rattle.std.proofs.lemmas.Bool.Decides.{nat_tests}
use Rattle.std.specs.BTreeSet.{BTreeSet, contains}
use Rattle.std.specs.List.{filter}
use Rattle.std.specs.Ordering.{is_eq, nat_cmp}
use Rattle.scfs_tuples.specs.Filed.{Apart, AreNear, IsFree, near_entries, slots_of, tuple_at, tuples_of}
use Rattle.scfs_tuples.specs.Matching.{agrees, agrees_with, and_then, bind, field_eq, fits, is_match, row, want_agrees, want_fits}
use Rattle.scfs_tuples.specs.Near.{fixed, fixed_at, fixed_in, has, is_field, is_near, is_near_by}
use Rattle.scfs_tuples.specs.Search.{entries_at, entry_of, first_entry, met_or, standing}
use Rattle.scfs_tuples.specs.declared.types.Field.{Field}
use Rattle.scfs_tuples.specs.declared.types.Tuple.{Tuple}
use Rattle.scfs_tuples.specs.declared.types.Want.{Want}
use Rattle.scfs_tuples.specs.declared.types.Want.TheVariants as wants
use Rattle.scfs_tuples.proofs.EntriesLemmas.{filter_swap}
use Rattle.scfs_tuples.proofs.OrderLemmas.{both_true, slot_same}

get_more : (xs ys : List Field) (n : ℕ) (g : Field) → slice_get xs n ≡ Some g → slice_get (xs ++ ys) n ≡ Some g
get_more [] ys n g h = absurd cc
get_more (x ∷ xs) ys zero g h = h
get_more (x ∷ xs) ys (suc n) g h = get_more xs ys n g h

if_some : (b : Bool) (bound after : List Field) → cond b (Some bound) None ≡ Some after → (b ≡ true) × (after ≡ bound)
if_some true bound after h = (refl, cc)
if_some false bound after h = absurd cc

bind_more : (o : Option Field) (f : Field) (bound after : List Field) → bind o f bound ≡ Some after → (n : ℕ) (g : Field) → slice_get bound n ≡ Some g → slice_get after n ≡ Some g
bind_more None f bound after h n g at =
    let is : after ≡ bound ++ f ∷ [] = cc in
    ap (λ l. slice_get l n) is ∙ get_more bound (f ∷ []) n g at
bind_more (Some k) f bound after h n g at =
    ap (λ l. slice_get l n) (if_some (field_eq k f) bound after h).1 ∙ at

-- a want that fits leaves the bindings that there are
want_more : (w : Want) (f : Field) (bound after : List Field) → want_fits w f bound ≡ Some after → (n : ℕ) (g : Field) → slice_get bound n ≡ Some g → slice_get after n ≡ Some g
want_more (wants.Eq k) f bound after h n g at = ap (λ l. slice_get l n) (if_some (field_eq k f) bound after h).1 ∙ at
want_more wants.Any f bound after h n g at =
    let is : after ≡ bound = cc in
    ap (λ l. slice_get l n) is ∙ at
want_more (wants.Bind v) f bound after h n g at = bind_more (slice_get bound v) f bound after h n g at

fixed_more : (w : Want) (bound after : List Field) → ((n : ℕ) (g : Field) → slice_get bound n ≡ Some g → slice_get after n ≡ Some g) → (g : Field) → fixed bound w ≡ Some g → fixed after w ≡ Some g
fixed_more (wants.Eq k) bound after more g h = h
fixed_more wants.Any bound after more g h = h
fixed_more (wants.Bind v) bound after more g h = more v g h

fixed_in_more : (o : Option Want) (bound after : List Field) → ((n : ℕ) (g : Field) → slice_get bound n ≡ Some g → slice_get after n ≡ Some g) → (g : Field) → fixed_in bound o ≡ Some g → fixed_in after o ≡ Some g
fixed_in_more None bound after more g h = h
fixed_in_more (Some w) bound after more g h = fixed_more w bound after more g h

bind_is : (o : Option Field) (f : Field) (bound after : List Field) (g : Field) → bind o f bound ≡ Some after → o ≡ Some g → field_eq g f ≡ true
bind_is None f bound after g h is = absurd cc
bind_is (Some k) f bound after g h is =
    let same : k ≡ g = cc in
    sym (ap (λ j. field_eq j f) same) ∙ (if_some (field_eq k f) bound after h).0

want_is : (w : Want) (f : Field) (bound after : List Field) (g : Field) → want_fits w f bound ≡ Some after → fixed bound w ≡ Some g → field_eq g f ≡ true
want_is (wants.Eq k) f bound after g h is =
    let same : k ≡ g = cc in
    sym (ap (λ j. field_eq j f) same) ∙ (if_some (field_eq k f) bound after h).0
want_is wants.Any f bound after g h is = absurd cc
want_is (wants.Bind v) f bound after g h is = bind_is (slice_get bound v) f bound after g h is

-- a tuple that fits has each fixed field
fits_has : (ws : List Want) (fs bound after : List Field) (n : ℕ) (g : Field) → fits ws fs bound ≡ Some after → fixed_in bound (slice_get ws n) ≡ Some g → is_field g (slice_get fs n) ≡ true
fits_has [] fs bound after n g h is = absurd cc
fits_has (w ∷ ws) [] bound after n g h is = absurd cc
fits_has (w ∷ ws) (f ∷ fs) bound after n g h is = at (want_fits w f bound) refl h n is (λ b m k. fits_has ws fs b after m g k)
  where
    at : (o : Option (List Field)) → want_fits w f bound ≡ o → and_then o (λ b. fits ws fs b) ≡ Some after → (n : ℕ) → fixed_in bound (slice_get (w ∷ ws) n) ≡ Some g →
        ((b : List Field) (m : ℕ) → fits ws fs b ≡ Some after → fixed_in b (slice_get ws m) ≡ Some g → is_field g (slice_get fs m) ≡ true) → is_field g (slice_get (f ∷ fs) n) ≡ true
    at None k l n i rest = absurd cc
    at (Some b) k l zero i rest = want_is w f bound b g k i
    at (Some b) k l (suc n) i rest = rest b n l (fixed_in_more (slice_get ws n) bound b (want_more w f bound b k) g i)

agrees_is : (w : Want) (f : Field) (bound : List Field) (g : Field) → want_agrees bound w f ≡ true → fixed bound w ≡ Some g → field_eq g f ≡ true
agrees_is (wants.Eq k) f bound g h is =
    let same : k ≡ g = cc in
    sym (ap (λ j. field_eq j f) same) ∙ h
agrees_is wants.Any f bound g h is = absurd cc
agrees_is (wants.Bind v) f bound g h is = sym (ap (λ o. agrees_with o f) is) ∙ h

-- a tuple that agrees has each fixed field
agrees_has : (ws : List Want) (fs bound : List Field) (n : ℕ) (g : Field) → agrees bound ws fs ≡ true → fixed_in bound (slice_get ws n) ≡ Some g → is_field g (slice_get fs n) ≡ true
agrees_has [] fs bound n g h is = absurd cc
agrees_has (w ∷ ws) [] bound n g h is = absurd cc
agrees_has (w ∷ ws) (f ∷ fs) bound zero g h is = agrees_is w f bound g (both_true (want_agrees bound w f) (agrees bound ws fs) h).0 is
agrees_has (w ∷ ws) (f ∷ fs) bound (suc n) g h is = agrees_has ws fs bound n g (both_true (want_agrees bound w f) (agrees bound ws fs) h).1 is

near_true : (n : ℕ) (o p : Option Field) (t : Tuple) → ((g : Field) → o ≡ Some g → has 0 g t ≡ true) → ((g : Field) → p ≡ Some g → has n g t ≡ true) → is_near n o p t ≡ true
near_true n None p t first other = refl
near_true n (Some f) None t first other = first f refl
near_true n (Some f) (Some g) t first other = rw (first f refl, other g refl) refl

truth : (b : Bool) → (b ≡ true → false ≡ true) → b ≡ false
truth true h = sym (h refl)
truth false h = refl

fitting_near : (n : ℕ) (bound : List Field) (ws : List Want) (t : Tuple) (o : Option (List Field)) → fits ws t.fields bound ≡ o → is_some o ≡ true → is_near_by n bound ws t ≡ true
fitting_near n bound ws t None is h = absurd cc
fitting_near n bound ws t (Some after) is h =
    near_true n (fixed_at bound ws 0) (fixed_at bound ws n) t (λ g. fits_has ws t.fields bound after 0 g is) (λ g. fits_has ws t.fields bound after n g is)

-- what is not near does not fit
pub far_match : (n : ℕ) (bound : List Field) (ws : List Want) (t : Tuple) → is_near_by n bound ws t ≡ false → is_match ws bound t ≡ false
far_match n bound ws t h = truth (is_match ws bound t) (λ m. sym h ∙ fitting_near n bound ws t (fits ws t.fields bound) refl m)

pub far_agrees : (n : ℕ) (bound : List Field) (ws : List Want) (t : Tuple) → is_near_by n bound ws t ≡ false → agrees bound ws t.fields ≡ false
far_agrees n bound ws t h =
    truth (agrees bound ws t.fields)
    (λ m. sym h ∙ near_true n (fixed_at bound ws 0) (fixed_at bound ws n) t (λ g. agrees_has ws t.fields bound 0 g m) (λ g. agrees_has ws t.fields bound n g m))

-- a filter that keeps what passes the test
pub filter_wide : {X : Type 0} (p q : X → Bool) → ((x : X) → q x ≡ false → p x ≡ false) → (xs : List X) → filter p (filter q xs) ≡ filter p xs
filter_wide p q wide [] = refl
filter_wide p q wide (x ∷ xs) = at (q x) refl (filter_wide p q wide xs)
  where
    at : (b : Bool) → q x ≡ b → filter p (filter q xs) ≡ filter p xs → filter p (cond (q x) (x ∷ filter q xs) (filter q xs)) ≡ cond (p x) (x ∷ filter p xs) (filter p xs)
    at true h rest = rw h (ap (λ l. cond (p x) (x ∷ l) l) rest)
    at false h rest = rw (h, wide x h) rest

none_fits : (o : Option (List Field)) → is_some o ≡ false → o ≡ None
none_fits None h = refl
none_fits (Some b) h = absurd cc

-- the first of the near ones is the first of all
first_wide : (ws : List Want) (bound : List Field) (q : ℕ × Tuple → Bool) → ((e : ℕ × Tuple) → q e ≡ false → is_match ws bound e.1 ≡ false) → (xs : List (ℕ × Tuple)) →
    first_entry ws (filter q xs) bound ≡ first_entry ws xs bound
first_wide ws bound q wide [] = refl
first_wide ws bound q wide (e ∷ xs) = at (q e) refl (first_wide ws bound q wide xs)
  where
    at : (b : Bool) → q e ≡ b → first_entry ws (filter q xs) bound ≡ first_entry ws xs bound →
        first_entry ws (cond (q e) (e ∷ filter q xs) (filter q xs)) bound ≡ met_or e (fits ws e.1.fields bound) (first_entry ws xs bound)
    at true h rest = rw h (ap (met_or e (fits ws e.1.fields bound)) rest)
    at false h rest = rw (h, none_fits (fits ws e.1.fields bound) (wide e h)) rest

-- each entry of a list stands in its slot
abbrev Held : List (ℕ × Tuple) → List (ℕ × Tuple) → Type 0
Held es [] = Unit {0}
Held es (d ∷ ds) = (tuple_at es d.0 ≡ Some d.1) × Held es ds

slot_turned : (a b : ℕ) → is_eq (nat_cmp a b) ≡ false → is_eq (nat_cmp b a) ≡ false
slot_turned a b h = grind (arith, nat_tests)

held_later : (e : ℕ × Tuple) (es ds : List (ℕ × Tuple)) → IsFree e.0 ds → Held es ds → Held (e ∷ es) ds
held_later e es [] free held = tt
held_later e es (d ∷ ds) free held = (rw (slot_turned e.0 d.0 free.0) held.0, held_later e es ds free.1 held.1)

held_all : (es : List (ℕ × Tuple)) → Apart es → Held es es
held_all [] apart = tt
held_all (e ∷ es) apart = (ap (λ b. cond b (Some e.1) (tuple_at es e.0)) (slot_same e.0), held_later e es es apart.0 (held_all es apart.1))

held_kept : (es : List (ℕ × Tuple)) (d : ℕ × Tuple) (ds : List (ℕ × Tuple)) (b : Bool) → tuple_at es d.0 ≡ Some d.1 → Held es ds → Held es (cond b (d ∷ ds) ds)
held_kept es d ds true h rest = (h, rest)
held_kept es d ds false h rest = rest

held_filter : (p : ℕ × Tuple → Bool) (es ds : List (ℕ × Tuple)) → Held es ds → Held es (filter p ds)
held_filter p es [] held = tt
held_filter p es (d ∷ ds) held = held_kept es d (filter p ds) (p d) held.0 (held_filter p es ds held.1)

entries_back : (es ds : List (ℕ × Tuple)) → Held es ds → entries_at es (slots_of ds) ≡ ds
entries_back es [] held = refl
entries_back es (d ∷ ds) held = ap (λ o. entry_of d.0 o ++ entries_at es (slots_of ds)) held.0 ∙ ap (λ l. d ∷ l) (entries_back es ds held.1)

near_back : (ws : List Want) (bound : List Field) (es : List (ℕ × Tuple)) (slots : List ℕ) (near : AreNear bound ws es slots) → Apart es →
    entries_at es slots ≡ near_entries near.place bound ws es
near_back ws bound es slots near apart =
    ap (entries_at es) near.same
    ∙ entries_back es (near_entries near.place bound ws es) (held_filter (λ e. is_near_by near.place bound ws e.1) es es (held_all es apart))

-- the first match of the near slots is the first match
pub near_first : (ws : List Want) (bound : List Field) (gone : BTreeSet ℕ) (es : List (ℕ × Tuple)) (slots : List ℕ) → AreNear bound ws es slots → Apart es →
    first_entry ws (standing gone (entries_at es slots)) bound ≡ first_entry ws (standing gone es) bound
near_first ws bound gone es slots near apart =
    ap (λ l. first_entry ws (standing gone l) bound) (near_back ws bound es slots near apart)
    ∙ ap (λ l. first_entry ws l bound) (filter_swap (λ e. not (contains nat_cmp gone e.0)) (λ e. is_near_by near.place bound ws e.1) es)
    ∙ first_wide ws bound (λ e. is_near_by near.place bound ws e.1) (λ e. far_match near.place bound ws e.1) (standing gone es)

-- the matches of the near slots are the matches
pub near_matches : (ws : List Want) (bound : List Field) (gone : BTreeSet ℕ) (es : List (ℕ × Tuple)) (slots : List ℕ) → AreNear bound ws es slots → Apart es →
    filter (λ e. is_match ws bound e.1) (standing gone (entries_at es slots)) ≡ filter (λ e. is_match ws bound e.1) (standing gone es)
near_matches ws bound gone es slots near apart =
    ap (λ l. filter (λ e. is_match ws bound e.1) (standing gone l)) (near_back ws bound es slots near apart)
    ∙ ap (filter (λ e. is_match ws bound e.1)) (filter_swap (λ e. not (contains nat_cmp gone e.0)) (λ e. is_near_by near.place bound ws e.1) es)
    ∙ filter_wide (λ e. is_match ws bound e.1) (λ e. is_near_by near.place bound ws e.1) (λ e. far_match near.place bound ws e.1) (standing gone es)

tuples_at : (p : Tuple → Bool) (e : ℕ × Tuple) (es : List (ℕ × Tuple)) (b : Bool) → p e.1 ≡ b → tuples_of (filter (λ e. p e.1) es) ≡ filter p (tuples_of es) →
    tuples_of (filter (λ e. p e.1) (e ∷ es)) ≡ filter p (tuples_of (e ∷ es))
tuples_at p e es true h rest = rw h (ap (λ l. e.1 ∷ l) rest)
tuples_at p e es false h rest = rw h rest

-- the tuples of filtered entries
pub tuples_filter : (p : Tuple → Bool) (es : List (ℕ × Tuple)) → tuples_of (filter (λ e. p e.1) es) ≡ filter p (tuples_of es)
tuples_filter p [] = refl
tuples_filter p (e ∷ es) = tuples_at p e es (p e.1) refl (tuples_filter p es)

-- the row of the near slots is the row
pub near_row : (ws : List Want) (bound : List Field) (es : List (ℕ × Tuple)) (slots : List ℕ) → AreNear bound ws es slots → Apart es →
    row bound (tuples_of (entries_at es slots)) ws ≡ row bound (tuples_of es) ws
near_row ws bound es slots near apart =
    ap (λ l. row bound (tuples_of l) ws) (near_back ws bound es slots near apart)
    ∙ ap (filter (λ t. agrees bound ws t.fields)) (tuples_filter (is_near_by near.place bound ws) es)
    ∙ filter_wide (λ t. agrees bound ws t.fields) (is_near_by near.place bound ws) (far_agrees near.place bound ws) (tuples_of es)

-- all slots give all entries
pub all_back : (es : List (ℕ × Tuple)) (slots : List ℕ) → slots ≡ slots_of es → Apart es → entries_at es slots ≡ es
all_back es slots is apart = ap (entries_at es) is ∙ entries_back es es (held_all es apart)

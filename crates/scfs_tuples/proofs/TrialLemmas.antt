use Rattle.std.proofs.Common.{◌≡◌, ℕ, ◌+◌, ◌≤◌, List, [], ◌∷◌, Bool, true, false, refl, ap, ◌∙◌, sym, cond, arith, length, Option, Some, None, subst}
use Rattle.std.specs.Prelude.{IfSome, is_some, not}
use Rattle.std.proofs.lemmas.List.{length-map}
use Rattle.std.proofs.lemmas.List.Filters.{length-filter_both}
use Rattle.std.proofs.lemmas.Bool.Decides.{nat_tests}
use Rattle.std.specs.BTreeMap.{is_at}
use Rattle.std.specs.BTreeSet.{BTreeSet, contains, contains_by}
use Rattle.std.specs.List.{filter}
use Rattle.std.specs.Ordering.{is_eq, nat_cmp}
use Rattle.scfs_tuples.specs.After.{need, need_none, tested}
use Rattle.scfs_tuples.specs.Bound.{after_match, after_none, looks_in, near_count}
use Rattle.scfs_tuples.specs.Filed.{Apart, IsFree, is_slot, slots_of, tuples_of, without}
use Rattle.scfs_tuples.specs.Matching.{first_match, fits, is_match, match_or, matches, without_first, without_matches}
use Rattle.scfs_tuples.specs.Search.{first_entry, met_or, standing, without_all}
use Rattle.scfs_tuples.specs.Trial.{Tests, left_in, match_of}
use Rattle.scfs_tuples.specs.declared.search.Met.{Met}
use Rattle.scfs_tuples.specs.declared.testing.Verdict.{Verdict}
use Rattle.scfs_tuples.specs.declared.testing.Verdict.TheVariants as verdicts
use Rattle.scfs_tuples.specs.declared.trial.Trial.{Trial}
use Rattle.scfs_tuples.specs.declared.types.Cond.{Cond}
use Rattle.scfs_tuples.specs.declared.types.Cond.TheVariants as conds
use Rattle.scfs_tuples.specs.declared.types.Field.{Field}
use Rattle.scfs_tuples.specs.declared.types.Pattern.{Pattern}
use Rattle.scfs_tuples.specs.declared.types.Tuple.{Tuple}
use Rattle.scfs_tuples.specs.declared.types.Want.{Want}
use Rattle.scfs_tuples.proofs.EntriesLemmas.{free_filter, free_same, without_free}
use Rattle.scfs_tuples.proofs.EndedLemmas.{kept_length}
use Rattle.scfs_tuples.proofs.NearLemmas.{tuples_filter}
use Rattle.scfs_tuples.proofs.SearchLemmas.{filter_both}
use Rattle.scfs_tuples.proofs.OrderLemmas.{slot_exact, slot_same}

-- the first match of the tuples is that of the entries
pub first_met : (ws : List Want) (xs : List (ℕ × Tuple)) (bound : List Field) → first_match ws (tuples_of xs) bound ≡ match_of (first_entry ws xs bound)
first_met ws [] bound = refl
first_met ws (e ∷ xs) bound = at (fits ws e.1.fields bound) (first_met ws xs bound)
  where
    at : (o : Option (List Field)) → first_match ws (tuples_of xs) bound ≡ match_of (first_entry ws xs bound) →
        match_or e.1 o (first_match ws (tuples_of xs) bound) ≡ match_of (met_or e o (first_entry ws xs bound))
    at None rest = rest
    at (Some b) rest = refl

kept_free : (ws : List Want) (xs : List (ℕ × Tuple)) (bound : List Field) (m : Met) (slot : ℕ) → first_entry ws xs bound ≡ Some m → IsFree slot xs → is_eq (nat_cmp slot m.slot) ≡ false
kept_free ws [] bound m slot h free = absurd cc
kept_free ws (e ∷ xs) bound m slot h free = at (fits ws e.1.fields bound) h (λ k. kept_free ws xs bound m slot k free.1)
  where
    at : (o : Option (List Field)) → met_or e o (first_entry ws xs bound) ≡ Some m → (first_entry ws xs bound ≡ Some m → is_eq (nat_cmp slot m.slot) ≡ false) → is_eq (nat_cmp slot m.slot) ≡ false
    at None k rest = rest k
    at (Some b) k rest =
        let same : e.0 ≡ m.slot = cc in
        ap (λ s. is_eq (nat_cmp slot s)) (sym same) ∙ free.0

slot_turned : (a b : ℕ) → is_eq (nat_cmp a b) ≡ false → is_eq (nat_cmp b a) ≡ false
slot_turned a b h = grind (arith, nat_tests)

head_gone : (slot : ℕ) (e : ℕ × Tuple) (xs : List (ℕ × Tuple)) → is_eq (nat_cmp slot e.0) ≡ true → IsFree e.0 xs → without slot (e ∷ xs) ≡ xs
head_gone slot e xs h free = rw h (without_free slot xs (free_same e.0 slot xs (sym (slot_exact slot e.0 h)) free))

head_kept : (slot : ℕ) (e : ℕ × Tuple) (xs : List (ℕ × Tuple)) → is_eq (nat_cmp slot e.0) ≡ false → without slot (e ∷ xs) ≡ e ∷ without slot xs
head_kept slot e xs h = rw h refl

-- without the slot of the first match, the tuples are those without the first match
pub first_gone : (ws : List Want) (xs : List (ℕ × Tuple)) (bound : List Field) (m : Met) → Apart xs → first_entry ws xs bound ≡ Some m → without_first ws (tuples_of xs) bound ≡ tuples_of (without m.slot xs)
first_gone ws [] bound m apart h = absurd cc
first_gone ws (e ∷ xs) bound m apart h = at (fits ws e.1.fields bound) h (λ k. first_gone ws xs bound m apart.1 k)
  where
    at : (o : Option (List Field)) → met_or e o (first_entry ws xs bound) ≡ Some m → (first_entry ws xs bound ≡ Some m → without_first ws (tuples_of xs) bound ≡ tuples_of (without m.slot xs)) →
        cond (is_some o) (tuples_of xs) (e.1 ∷ without_first ws (tuples_of xs) bound) ≡ tuples_of (without m.slot (e ∷ xs))
    at None k rest =
        ap (λ l. e.1 ∷ l) (rest k) ∙ ap tuples_of (sym (head_kept m.slot e xs (slot_turned e.0 m.slot (kept_free ws xs bound m e.0 k apart.0))))
    at (Some b) k rest =
        let same : e.0 ≡ m.slot = cc in
        ap tuples_of (sym (head_gone m.slot e xs (sym (ap (λ s. is_eq (nat_cmp s e.0)) same) ∙ slot_same e.0) apart.0))

keep_head : (e : ℕ × Tuple) (xs ds : List (ℕ × Tuple)) → IsFree e.0 ds → without_all (slots_of ds) (e ∷ xs) ≡ e ∷ without_all (slots_of ds) xs
keep_head e xs [] free = refl
keep_head e xs (d ∷ ds) free =
    ap (without_all (slots_of ds)) (head_kept d.0 e xs (slot_turned e.0 d.0 free.0)) ∙ keep_head e (without d.0 xs) ds free.1

-- without the slots of those that pass, those are left that do not
pub all_gone : (p : ℕ × Tuple → Bool) (xs : List (ℕ × Tuple)) → Apart xs → without_all (slots_of (filter p xs)) xs ≡ filter (λ e. not (p e)) xs
all_gone p [] apart = refl
all_gone p (e ∷ xs) apart = at (p e) (all_gone p xs apart.1)
  where
    at : (b : Bool) → without_all (slots_of (filter p xs)) xs ≡ filter (λ e. not (p e)) xs →
        without_all (slots_of (cond b (e ∷ filter p xs) (filter p xs))) (e ∷ xs) ≡ cond (not b) (e ∷ filter (λ e. not (p e)) xs) (filter (λ e. not (p e)) xs)
    at true rest = ap (without_all (slots_of (filter p xs))) (head_gone e.0 e xs (slot_same e.0) apart.0) ∙ rest
    at false rest = keep_head e xs (filter p xs) (free_filter e.0 p xs apart.0) ∙ ap (λ l. e ∷ l) rest

-- what was met, over equal wants and bindings
pub first_met_at : (ws wants : List Want) (xs : List (ℕ × Tuple)) (b bound : List Field) (met : Option Met) → met ≡ first_entry ws xs b → ws ≡ wants → b ≡ bound →
    first_match wants (tuples_of xs) bound ≡ match_of met
first_met_at ws wants xs b bound met h p q =
    first_met wants xs bound ∙ ap match_of (sym (h ∙ ap (λ w. first_entry w xs b) p ∙ ap (λ c. first_entry wants xs c) q))

pub first_rest_at : (ws wants : List Want) (xs : List (ℕ × Tuple)) (b bound : List Field) (met : Option Met) → met ≡ first_entry ws xs b → ws ≡ wants → b ≡ bound → Apart xs →
    IfSome met (λ m. without_first wants (tuples_of xs) bound ≡ tuples_of (without m.slot xs))
first_rest_at ws wants xs b bound None h p q apart = tt
first_rest_at ws wants xs b bound (Some m) h p q apart =
    first_gone wants xs bound m apart (sym (h ∙ ap (λ w. first_entry w xs b) p ∙ ap (λ c. first_entry wants xs c) q))

pub found_at : (ws wants : List Want) (xs : List (ℕ × Tuple)) (b bound : List Field) (found : List ℕ) → found ≡ slots_of (filter (λ e. is_match ws b e.1) xs) → ws ≡ wants → b ≡ bound →
    found ≡ slots_of (filter (λ e. is_match wants bound e.1) xs)
found_at ws wants xs b bound found h p q =
    h ∙ ap (λ w. slots_of (filter (λ e. is_match w b e.1) xs)) p ∙ ap (λ c. slots_of (filter (λ e. is_match wants c e.1) xs)) q

-- all matches are taken: the tuples left, and how many were taken
pub all_taken : (ws : List Want) (bound : List Field) (xs ys : List (ℕ × Tuple)) (found : List ℕ) → Apart xs → found ≡ slots_of (filter (λ e. is_match ws bound e.1) xs) → ys ≡ without_all found xs →
    tuples_of ys ≡ without_matches ws (tuples_of xs) bound
all_taken ws bound xs ys found apart is left =
    ap tuples_of (left ∙ ap (λ l. without_all l xs) is ∙ all_gone (λ e. is_match ws bound e.1) xs apart) ∙ tuples_filter (λ t. not (is_match ws bound t)) xs

pub count_taken : (ws : List Want) (bound : List Field) (xs : List (ℕ × Tuple)) (found : List ℕ) → found ≡ slots_of (filter (λ e. is_match ws bound e.1) xs) →
    length found ≡ length (matches ws (tuples_of xs) bound)
count_taken ws bound xs found is =
    ap length is ∙ length-map (filter (λ e. is_match ws bound e.1) xs) (λ e. e.0) ∙ sym (length-map (filter (λ e. is_match ws bound e.1) xs) (λ e. e.1))
    ∙ ap length (tuples_filter (is_match ws bound) xs)

pub none_lost : (ws : List Want) (bound : List Field) (xs ys : List (ℕ × Tuple)) (found : List ℕ) → Apart xs → found ≡ slots_of (filter (λ e. is_match ws bound e.1) xs) → ys ≡ without_all found xs →
    length found + length ys ≡ length xs
none_lost ws bound xs ys found apart is left =
    ap (λ n. n + length ys) (ap length is ∙ length-map (filter (λ e. is_match ws bound e.1) xs) (λ e. e.0))
    ∙ ap (λ l. length (filter (λ e. is_match ws bound e.1) xs) + length l) (left ∙ ap (λ l. without_all l xs) is ∙ all_gone (λ e. is_match ws bound e.1) xs apart)
    ∙ length-filter_both (λ e. is_match ws bound e.1) (λ e. not (is_match ws bound e.1)) (λ e. refl) xs

pub need_met : (p : Pattern) (es : List (ℕ × Tuple)) (old : Trial) (m : Met) → first_match p.wants (left_in old es) old.bound ≡ match_of (Some m) →
    Tests (conds.Need p) es old (record old { bound = m.bound }) verdicts.Holds
need_met p es old m h = record {
  result = λ cs at. ap (λ o. need o at (λ m. tested cs (at + 1) (left_in old es) m.bound old.taken)) h;
  looks = λ cs all. ap (λ o. near_count old.bound p.wants (tuples_of es) + after_match o (λ m. looks_in cs (tuples_of es) (left_in old es) m.bound all)) h;
  fewer = omega arith;
}

pub need_missed : (p : Pattern) (es : List (ℕ × Tuple)) (old : Trial) → first_match p.wants (left_in old es) old.bound ≡ None → Tests (conds.Need p) es old old (verdicts.Fails None)
need_missed p es old h = record {
  result = λ cs at. ap (λ o. need o at (λ m. tested cs (at + 1) (left_in old es) m.bound old.taken)) h;
  looks = λ cs all. ap (λ o. near_count old.bound p.wants (tuples_of es) + after_match o (λ m. looks_in cs (tuples_of es) (left_in old es) m.bound all)) h;
  fewer = omega arith;
}

pub none_met : (p : Pattern) (es : List (ℕ × Tuple)) (old : Trial) (m : Met) → first_match p.wants (left_in old es) old.bound ≡ match_of (Some m) →
    Tests (conds.NoneOf p) es old old (verdicts.Fails (Some m.tuple))
none_met p es old m h = record {
  result = λ cs at. ap (λ o. need_none o at (tested cs (at + 1) (left_in old es) old.bound old.taken)) h;
  looks = λ cs all. ap (λ o. near_count old.bound p.wants (tuples_of es) + after_none o (looks_in cs (tuples_of es) (left_in old es) old.bound all)) h;
  fewer = omega arith;
}

pub none_missed : (p : Pattern) (es : List (ℕ × Tuple)) (old : Trial) → first_match p.wants (left_in old es) old.bound ≡ None → Tests (conds.NoneOf p) es old old verdicts.Holds
none_missed p es old h = record {
  result = λ cs at. ap (λ o. need_none o at (tested cs (at + 1) (left_in old es) old.bound old.taken)) h;
  looks = λ cs all. ap (λ o. near_count old.bound p.wants (tuples_of es) + after_none o (looks_in cs (tuples_of es) (left_in old es) old.bound all)) h;
  fewer = omega arith;
}

pub take_missed : (p : Pattern) (es : List (ℕ × Tuple)) (old : Trial) → first_match p.wants (left_in old es) old.bound ≡ None → Tests (conds.Take p) es old old (verdicts.Fails None)
take_missed p es old h = record {
  result = λ cs at. ap (λ o. need o at (λ m. tested cs (at + 1) (without_first p.wants (left_in old es) old.bound) m.bound old.taken)) h;
  looks = λ cs all. ap (λ o. near_count old.bound p.wants (tuples_of es) + after_match o (λ m. looks_in cs (tuples_of es) (without_first p.wants (left_in old es) old.bound) m.bound all)) h;
  fewer = omega arith;
}

pub take_met : (p : Pattern) (es : List (ℕ × Tuple)) (old new : Trial) (m : Met) → first_match p.wants (left_in old es) old.bound ≡ match_of (Some m) →
    without_first p.wants (left_in old es) old.bound ≡ tuples_of (without m.slot (standing old.gone es)) → standing new.gone es ≡ without m.slot (standing old.gone es) →
    new.bound ≡ m.bound → new.taken ≡ old.taken → Tests (conds.Take p) es old new verdicts.Holds
take_met p es old new m h rest gone bound taken =
    let left : without_first p.wants (left_in old es) old.bound ≡ left_in new es = rest ∙ ap tuples_of (sym gone) in
    record {
      result = λ cs at.
          ap (λ o. need o at (λ m. tested cs (at + 1) (without_first p.wants (left_in old es) old.bound) m.bound old.taken)) h
          ∙ ap (λ l. tested cs (at + 1) l m.bound old.taken) left ∙ ap (λ b. tested cs (at + 1) (left_in new es) b old.taken) (sym bound)
          ∙ ap (λ n. tested cs (at + 1) (left_in new es) new.bound n) (sym taken);
      looks = λ cs all.
          ap (λ o. near_count old.bound p.wants (tuples_of es) + after_match o (λ m. looks_in cs (tuples_of es) (without_first p.wants (left_in old es) old.bound) m.bound all)) h
          ∙ ap (λ l. near_count old.bound p.wants (tuples_of es) + looks_in cs (tuples_of es) l m.bound all) left
          ∙ ap (λ b. near_count old.bound p.wants (tuples_of es) + looks_in cs (tuples_of es) (left_in new es) b all) (sym bound);
      fewer = omega (arith, taken, ap length gone, kept_length (λ e. not (is_slot m.slot e)) (standing old.gone es));
    }

pub all_met : (p : Pattern) (es : List (ℕ × Tuple)) (old new : Trial) → left_in new es ≡ without_matches p.wants (left_in old es) old.bound → new.bound ≡ old.bound →
    new.taken ≡ old.taken + length (matches p.wants (left_in old es) old.bound) → new.taken + length (standing new.gone es) ≤ old.taken + length (standing old.gone es) →
    Tests (conds.TakeAll p) es old new verdicts.Holds
all_met p es old new left bound taken few = record {
  result = λ cs at.
      ap (λ l. tested cs (at + 1) l old.bound (old.taken + length (matches p.wants (left_in old es) old.bound))) (sym left)
      ∙ ap (λ b. tested cs (at + 1) (left_in new es) b (old.taken + length (matches p.wants (left_in old es) old.bound))) (sym bound)
      ∙ ap (λ n. tested cs (at + 1) (left_in new es) new.bound n) (sym taken);
  looks = λ cs all.
      ap (λ l. near_count old.bound p.wants (tuples_of es) + looks_in cs (tuples_of es) l old.bound all) (sym left)
      ∙ ap (λ b. near_count old.bound p.wants (tuples_of es) + looks_in cs (tuples_of es) (left_in new es) b all) (sym bound);
  fewer = few;
}

pub rest_met : (met : Option Met) (m : Met) (p : Pattern) (old : Trial) (es : List (ℕ × Tuple)) → met ≡ Some m →
    IfSome met (λ m. without_first p.wants (left_in old es) old.bound ≡ tuples_of (without m.slot (standing old.gone es))) →
    without_first p.wants (left_in old es) old.bound ≡ tuples_of (without m.slot (standing old.gone es))
rest_met met m p old es is h = subst (λ o. IfSome o (λ m. without_first p.wants (left_in old es) old.bound ≡ tuples_of (without m.slot (standing old.gone es)))) is h

-- a condition that is known
pub with_cond : (cond c : Cond) (es : List (ℕ × Tuple)) (old new : Trial) (v : Verdict) → cond ≡ c → Tests c es old new v → Tests cond es old new v
with_cond cond c es old new v is t = subst (λ c. Tests c es old new v) (sym is) t

all_standing : (gone : BTreeSet ℕ) → ((s : ℕ) → contains nat_cmp gone s ≡ false) → (es : List (ℕ × Tuple)) → standing gone es ≡ es
all_standing gone free [] = refl
all_standing gone free (e ∷ es) = rw (free e.0) (ap (λ l. e ∷ l) (all_standing gone free es))

-- where nothing is taken, all stands
pub none_gone : (gone : BTreeSet ℕ) → gone.keys ≡ [] → (es : List (ℕ × Tuple)) → standing gone es ≡ es
none_gone gone empty = all_standing gone (λ s. ap (λ ks. contains_by (nat_cmp s) (record { keys = ks })) empty)

both_at : (a b : Bool) → (a ≡ true → b ≡ true) → cond (not (cond a false b)) (not a) false ≡ not b
both_at true true h = refl
both_at true false h = absurd (cc (h refl))
both_at false true h = refl
both_at false false h = refl

-- a taken slot may go at once
pub one_settled : (old new : BTreeSet ℕ) (slot : ℕ) → ((s : ℕ) → contains nat_cmp new s ≡ cond (is_at (nat_cmp slot) s) false (contains nat_cmp old s)) → contains nat_cmp old slot ≡ true →
    (es : List (ℕ × Tuple)) → standing new (without slot es) ≡ standing old es
one_settled old new slot updates member es =
    sym (filter_both (λ e. not (contains nat_cmp new e.0)) (λ e. not (is_slot slot e)) (λ e. not (contains nat_cmp old e.0))
    (λ e. sym (ap (λ b. cond (not b) (not (is_slot slot e)) false) (updates e.0)
    ∙ both_at (is_slot slot e) (contains nat_cmp old e.0) (λ h. ap (contains nat_cmp old) (sym (slot_exact slot e.0 h)) ∙ member))) es)

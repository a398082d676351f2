use Rattle.std.proofs.Common.{◌≡◌, ℕ, ◌∙◌, List, [], ◌∷◌, length, cond, Bool, true, false, Some, None, refl, ap, suc}
use Rattle.std.specs.Prelude.{filter, not}
use Rattle.std.specs.List.{find}
use Rattle.std.specs.Option.{option_map}
use Rattle.scfs_tuples.specs.After.{Tested, need}
use Rattle.scfs_tuples.specs.Matching.{Match, first_match, fits, matches, without_matches}
use Rattle.scfs_tuples.specs.Matching as matching
use Rattle.scfs_tuples.specs.declared.types.Field.{Field}
use Rattle.scfs_tuples.specs.declared.types.Tuple.{Tuple}
use Rattle.scfs_tuples.specs.declared.types.Want.{Want}
use Rattle.scfs_model.specs.Lists.{without_first}
use Rattle.scfs_anchor.specs.Tree.{Each, tuple_of}
use Rattle.scfs_anchor.specs.Items.{Item, entry_of, space_of}

-- A pattern that meets the items which pass a test.

abbrev pub said : Item → Tuple
said x = tuple_of (entry_of x)

-- the pattern meets the item exactly where it passes the test, and binds this
abbrev pub Meets : List Want → List Field → (Item → Bool) → (Item → List Field) → Item → Type 0
Meets ws bound test binds x = fits ws (said x).fields bound ≡ cond (test x) (Some (binds x)) None

abbrev pub met : (Item → List Field) → Item → Match
met binds x = record { tuple = said x; bound = binds x }

-- the first match is the first item that passes
pub first_met : (ws : List Want) (bound : List Field) (test : Item → Bool) (binds : Item → List Field) (items : List Item)
    → Each (Meets ws bound test binds) items → first_match ws (space_of items) bound ≡ option_map (met binds) (find test items)
first_met ws bound test binds [] h = refl
first_met ws bound test binds (x ∷ items) h = here (test x) refl (first_met ws bound test binds items h.1) where
  here : (t : Bool) → test x ≡ t → first_match ws (space_of items) bound ≡ option_map (met binds) (find test items)
      → first_match ws (space_of (x ∷ items)) bound ≡ option_map (met binds) (find test (x ∷ items))
  here true e rest = rw (h.0, e) refl
  here false e rest = rw (h.0, e) rest

-- what is left without it
pub without_met : (ws : List Want) (bound : List Field) (test : Item → Bool) (binds : Item → List Field) (items : List Item)
    → Each (Meets ws bound test binds) items → matching.without_first ws (space_of items) bound ≡ space_of (without_first test items)
without_met ws bound test binds [] h = refl
without_met ws bound test binds (x ∷ items) h = here (test x) refl (without_met ws bound test binds items h.1) where
  here : (t : Bool) → test x ≡ t → matching.without_first ws (space_of items) bound ≡ space_of (without_first test items)
      → matching.without_first ws (space_of (x ∷ items)) bound ≡ space_of (without_first test (x ∷ items))
  here true e rest = rw (h.0, e) refl
  here false e rest = rw (h.0, e) (ap (λ ts. said x ∷ ts) rest)

-- a condition takes the first item that passes, and on with what is left
pub take_met : (ws : List Want) (bound : List Field) (test : Item → Bool) (binds : Item → List Field) (items : List Item)
    → Each (Meets ws bound test binds) items → (at : ℕ) (go : List Tuple → Match → Tested)
    → need (first_match ws (space_of items) bound) at (go (matching.without_first ws (space_of items) bound))
    ≡ need (option_map (met binds) (find test items)) at (go (space_of (without_first test items)))
take_met ws bound test binds items h at go =
    ap (λ m. need m at (go (matching.without_first ws (space_of items) bound))) (first_met ws bound test binds items h)
    ∙ ap (λ ts. need (option_map (met binds) (find test items)) at (go ts)) (without_met ws bound test binds items h)

-- as many match as pass
pub count_met : (ws : List Want) (bound : List Field) (test : Item → Bool) (binds : Item → List Field) (items : List Item)
    → Each (Meets ws bound test binds) items → length (matches ws (space_of items) bound) ≡ length (filter test items)
count_met ws bound test binds [] h = refl
count_met ws bound test binds (x ∷ items) h = here (test x) refl (count_met ws bound test binds items h.1) where
  here : (t : Bool) → test x ≡ t → length (matches ws (space_of items) bound) ≡ length (filter test items)
      → length (matches ws (space_of (x ∷ items)) bound) ≡ length (filter test (x ∷ items))
  here true e rest = rw (h.0, e) (ap suc rest)
  here false e rest = rw (h.0, e) rest

-- what is left without all of them
pub without_all_met : (ws : List Want) (bound : List Field) (test : Item → Bool) (binds : Item → List Field) (items : List Item)
    → Each (Meets ws bound test binds) items → without_matches ws (space_of items) bound ≡ space_of (filter (λ x. not (test x)) items)
without_all_met ws bound test binds [] h = refl
without_all_met ws bound test binds (x ∷ items) h = here (test x) refl (without_all_met ws bound test binds items h.1) where
  here : (t : Bool) → test x ≡ t → without_matches ws (space_of items) bound ≡ space_of (filter (λ x. not (test x)) items)
      → without_matches ws (space_of (x ∷ items)) bound ≡ space_of (filter (λ x. not (test x)) (x ∷ items))
  here true e rest = rw (h.0, e) rest
  here false e rest = rw (h.0, e) (ap (λ ts. said x ∷ ts) rest)

pub each_of : {A : Type 0} (P : A → Type 0) → ((x : A) → P x) → (xs : List A) → Each P xs
each_of P h [] = tt
each_of P h (x ∷ xs) = (h x, each_of P h xs)

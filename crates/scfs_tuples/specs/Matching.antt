use Rattle.std.specs.Prelude.{List, [], ◌∷◌, ◌++◌, Option, Some, None, Bool, true, false, is_some, slice_get, if◌then◌else◌, ◌==◌, ◌&&◌, not}
use Rattle.std.specs.List.{filter}
use Rattle.std.specs.Str.{bytes_eq}
use Rattle.scfs_tuples.specs.declared.types.Field.{Field}
use Rattle.scfs_tuples.specs.declared.types.Field.TheVariants as fields
use Rattle.scfs_tuples.specs.declared.types.Tuple.{Tuple}
use Rattle.scfs_tuples.specs.declared.types.Want.{Want}
use Rattle.scfs_tuples.specs.declared.types.Want.TheVariants as wants

-- two fields are equal: the same number, or the same text
abbrev pub field_eq : Field → Field → Bool
field_eq (fields.Num a) (fields.Num b) = a == b
field_eq (fields.Num a) (fields.Text y) = false
field_eq (fields.Text x) (fields.Num b) = false
field_eq (fields.Text x) (fields.Text y) = bytes_eq x y

-- the bindings after a variable met a field: a bound one wants an equal field, a free one takes it and is the next
abbrev pub bind : Option Field → Field → List Field → Option (List Field)
bind (Some known) f bound = if field_eq known f then Some bound else None
bind None f bound = Some (bound ++ f ∷ [])

-- the bindings after one want and its field, where they agree
abbrev pub want_fits : Want → Field → List Field → Option (List Field)
want_fits (wants.Eq wanted) f bound = if field_eq wanted f then Some bound else None
want_fits wants.Any f bound = Some bound
want_fits (wants.Bind v) f bound = bind (slice_get bound v) f bound

abbrev pub and_then : {A B : Type 0} → Option A → (A → Option B) → Option B
and_then None go = None
and_then (Some a) go = go a

-- the bindings after a tuple of these fields, where it fits the pattern: as many fields as wants, and each agrees
abbrev pub fits : List Want → List Field → List Field → Option (List Field)
fits [] [] bound = Some bound
fits [] (f ∷ fs) bound = None
fits (w ∷ ws) [] bound = None
fits (w ∷ ws) (f ∷ fs) bound = and_then (want_fits w f bound) (λ after. fits ws fs after)

abbrev pub is_match : List Want → List Field → Tuple → Bool
is_match ws bound t = is_some (fits ws t.fields bound)

-- a tuple that fits, and the bindings after it
pub record Match : Type 0 where
  pub tuple : Tuple
  pub bound : List Field

abbrev pub match_or : Tuple → Option (List Field) → Option Match → Option Match
match_or t (Some after) later = Some (record { tuple = t; bound = after })
match_or t None later = later

-- the first tuple in list order that fits
abbrev pub first_match : List Want → List Tuple → List Field → Option Match
first_match ws [] bound = None
first_match ws (t ∷ ts) bound = match_or t (fits ws t.fields bound) (first_match ws ts bound)

-- the tuples without the first that fits
abbrev pub without_first : List Want → List Tuple → List Field → List Tuple
without_first ws [] bound = []
without_first ws (t ∷ ts) bound = if is_match ws bound t then ts else t ∷ without_first ws ts bound

-- all tuples that fit, in list order
abbrev pub matches : List Want → List Tuple → List Field → List Tuple
matches ws ts bound = filter (is_match ws bound) ts

-- all tuples that do not
abbrev pub without_matches : List Want → List Tuple → List Field → List Tuple
without_matches ws ts bound = filter (λ t. not (is_match ws bound t)) ts

-- a want under bindings that stand: a variable that is free wants any field
abbrev pub agrees_with : Option Field → Field → Bool
agrees_with (Some known) f = field_eq known f
agrees_with None f = true

abbrev pub want_agrees : List Field → Want → Field → Bool
want_agrees bound (wants.Eq wanted) f = field_eq wanted f
want_agrees bound wants.Any f = true
want_agrees bound (wants.Bind v) f = agrees_with (slice_get bound v) f

-- a tuple of these fields agrees with the pattern, under bindings that stand
abbrev pub agrees : List Field → List Want → List Field → Bool
agrees bound [] [] = true
agrees bound [] (f ∷ fs) = false
agrees bound (w ∷ ws) [] = false
agrees bound (w ∷ ws) (f ∷ fs) = want_agrees bound w f && agrees bound ws fs

-- all tuples that agree with the pattern, in list order
abbrev pub row : List Field → List Tuple → List Want → List Tuple
row bound ts ws = filter (λ t. agrees bound ws t.fields) ts

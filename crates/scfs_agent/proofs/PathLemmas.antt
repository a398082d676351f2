-- A path's names, to the space's code and on the machine.
use Rattle.std.proofs.Common.{◌≡◌, ℕ, List, [], ◌∷◌, length, Bool, Option, Some, None, refl, ap}
use Rattle.std.specs.Prelude.{◌&&◌, nat_le, if◌then◌else◌, codes}
use Rattle.std.specs.List.{list_all}
use Rattle.std.specs.Str.{bytes_eq, is_utf8}
use Rattle.scfs_base.specs.Pieces.{pieces}
use Rattle.scfs_anchor.specs.Names as anchor
use Rattle.scfs_anchor.specs.Names.{is_name}
use Rattle.scfs_model.specs.Paths as machine

name_same : (name : List ℕ) → is_name name ≡ machine.is_name is_utf8 name
unfolding is_name
name_same name = refl

and_same : (a b c d : Bool) → a ≡ b → c ≡ d → (a && c) ≡ (b && d)
and_same a b c d e f = cc

all_same : (names : List (List ℕ)) → list_all is_name names ≡ list_all (machine.is_name is_utf8) names
all_same [] = refl
all_same (name ∷ names) = and_same _ _ _ _ (name_same name) (all_same names)

if_same : (names : List (List ℕ)) → anchor.if_names names ≡ machine.if_names is_utf8 names
if_same names = ap (λ (b : Bool). if nat_le (length names) 32 && b then Some names else None) (all_same names)

between_same : (parts : List (List ℕ)) → anchor.names_between parts ≡ machine.names_between is_utf8 parts
between_same [] = refl
between_same (before ∷ []) = refl
between_same ([] ∷ name ∷ names) = if_same (name ∷ names)
between_same ((b ∷ bs) ∷ name ∷ names) = refl

pub names_same : (path : List ℕ) → anchor.names_of path ≡ machine.names_of is_utf8 path
names_same path = ap (λ (o : Option (List (List ℕ))). if bytes_eq path (codes "/") then Some [] else o) (between_same (pieces 47 path))

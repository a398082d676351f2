-- The names of objects are read back from their files.
use Rattle.std.proofs.Common.{◌≡◌, ◌==◌, ◌&&◌, ℕ, List, [], ◌∷◌, map, Bool, true, false, Some, None, refl, ap, subst, ◌∙◌}
use Rattle.std.specs.Prelude.{if◌then◌else◌, IsTrue}
use Rattle.std.specs.List.{list_all, list_any}
use Rattle.std.proofs.lemmas.Bool.{eqb-true}
use Rattle.scfs_cloud.specs.Folder.{is_name_byte, is_object_name, file_byte, file_name, object_byte, object_of}

both_true : (a b : Bool) → (a && b) ≡ true → (a ≡ true) × (b ≡ true)
both_true true true e = (refl, refl)
both_true true false e = cc
both_true false b e = cc

-- a byte of an object's name is read back
byte_back : (byte : ℕ) → is_name_byte byte ≡ true → object_byte (file_byte byte) ≡ byte
byte_back byte fits = by (byte == 47) refl
  where
    other : (is : Bool) → (byte == 95) ≡ is → (if is then 47 else byte) ≡ byte
    other true e = let no_name : is_name_byte 95 ≡ true = subst (λ b. is_name_byte b ≡ true) (eqb-true byte 95 e) fits in cc
    other false e = refl

    by : (slash : Bool) → (byte == 47) ≡ slash → object_byte (if slash then 95 else byte) ≡ byte
    by true e = ap (λ b. b) (cc (eqb-true byte 47 e))
    by false e = other (byte == 95) refl

names_back : (name : List ℕ) → list_all is_name_byte name ≡ true → map object_byte (map file_byte name) ≡ name
names_back [] fits = refl
names_back (byte ∷ name) fits =
    let each = both_true (is_name_byte byte) (list_all is_name_byte name) fits in
    ap (λ first. first ∷ map object_byte (map file_byte name)) (byte_back byte each.0)
    ∙ ap (λ rest. byte ∷ rest) (names_back name each.1)

pub object_names : (name : List ℕ) → IsTrue (is_object_name name) → object_of (file_name name) ≡ Some name
object_names name is =
    let fits = both_true (list_any (λ byte. byte == 47) name) (list_all is_name_byte name) is in
    ap (λ (read : List ℕ). if is_object_name read then Some read else None) (names_back name fits.1)
    ∙ ap (λ (b : Bool). if b then Some name else None) is

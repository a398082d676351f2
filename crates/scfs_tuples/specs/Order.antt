use Rattle.std.specs.Prelude.{ℕ, List, []}
use Rattle.std.specs.Ordering.{nat_cmp, on, then_cmp}
use Rattle.std.specs.declared.cmp.Ordering.{Ordering}
use Rattle.std.specs.Cmp.Lexicographic.{slice_cmp}
use Rattle.scfs_tuples.specs.declared.types.Field.{Field}
use Rattle.scfs_tuples.specs.declared.types.Field.TheVariants as fields

-- numbers stand before texts
abbrev pub kind_of : Field → ℕ
kind_of (fields.Num n) = 0
kind_of (fields.Text t) = 1

abbrev pub text_of : Field → List ℕ
text_of (fields.Num n) = []
text_of (fields.Text t) = t

abbrev pub number_of : Field → ℕ
number_of (fields.Num n) = n
number_of (fields.Text t) = 0

-- the order of fields: numbers by size, then texts as in a dictionary
abbrev pub field_cmp : Field → Field → Ordering
field_cmp = then_cmp (on kind_of nat_cmp) (then_cmp (on text_of (slice_cmp nat_cmp)) (on number_of nat_cmp))

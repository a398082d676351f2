use Rattle.std.specs.Prelude.{ℕ, List, Option, Some, None, Bool, true, false, slice_get, ◌&&◌}
use Rattle.scfs_tuples.specs.Matching.{field_eq}
use Rattle.scfs_tuples.specs.declared.types.Field.{Field}
use Rattle.scfs_tuples.specs.declared.types.Tuple.{Tuple}
use Rattle.scfs_tuples.specs.declared.types.Want.{Want}
use Rattle.scfs_tuples.specs.declared.types.Want.TheVariants as wants

-- the field that a want is fixed to: its own, or that of a bound variable
abbrev pub fixed : List Field → Want → Option Field
fixed bound (wants.Eq f) = Some f
fixed bound wants.Any = None
fixed bound (wants.Bind v) = slice_get bound v

abbrev pub fixed_in : List Field → Option Want → Option Field
fixed_in bound None = None
fixed_in bound (Some w) = fixed bound w

-- the field that the pattern's want at a place is fixed to
abbrev pub fixed_at : List Field → List Want → ℕ → Option Field
fixed_at bound ws n = fixed_in bound (slice_get ws n)

abbrev pub is_field : Field → Option Field → Bool
is_field f None = false
is_field f (Some g) = field_eq f g

-- a tuple has an equal field at a place
abbrev pub has : ℕ → Field → Tuple → Bool
has n f t = is_field f (slice_get t.fields n)

-- a tuple is near by a further place where it has the first fixed field, and the one at that place where that is fixed as well;
-- where the first is not fixed, every tuple is near
abbrev pub is_near : ℕ → Option Field → Option Field → Tuple → Bool
is_near n None other t = true
is_near n (Some f) None t = has 0 f t
is_near n (Some f) (Some g) t = has 0 f t && has n g t

-- a tuple that is near a pattern by a further place
abbrev pub is_near_by : ℕ → List Field → List Want → Tuple → Bool
is_near_by n bound ws t = is_near n (fixed_at bound ws 0) (fixed_at bound ws n) t

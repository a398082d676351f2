use Rattle.std.specs.Prelude.{◌≡◌, ℕ, ◌<◌, List, [], ◌∷◌, length, map, Option, Some, None, Bool, false, ◌&&◌, ◌==◌, not, nat_lt, if◌then◌else◌}
use Rattle.std.specs.declared.cmp.Ordering.{Ordering}
use Rattle.std.specs.Ordering.{nat_cmp, ordering_then}
use Rattle.std.specs.BTreeSet.{BTreeSet, contains}
use Rattle.std.specs.BTreeMap.{BTreeMap, is_at}
use Rattle.std.specs.List.{filter}
use Rattle.std.specs.Map.{lookup}
use Rattle.scfs_tuples.specs.After.{is_live}
use Rattle.scfs_tuples.specs.Bound.{near_count}
use Rattle.scfs_tuples.specs.Index.{slots_at}
use Rattle.scfs_tuples.specs.Near.{has, is_near_by}
use Rattle.scfs_tuples.specs.Order.{field_cmp}
use Rattle.scfs_tuples.specs.declared.types.Field.{Field}
use Rattle.scfs_tuples.specs.declared.types.Tuple.{Tuple}
use Rattle.scfs_tuples.specs.declared.types.Want.{Want}
use Rattle.scfs_tuples.specs.declared.shelves.Shelves.{Shelves}

-- the slots of entries, in order
abbrev pub slots_of : List (ℕ × Tuple) → List ℕ
slots_of es = map (λ e. e.0) es

-- the tuples of entries, in order
abbrev pub tuples_of : List (ℕ × Tuple) → List Tuple
tuples_of es = map (λ e. e.1) es

-- whether an entry has this slot
abbrev pub is_slot : ℕ → ℕ × Tuple → Bool
is_slot slot e = is_at (nat_cmp slot) e.0

-- the tuple in a slot
abbrev pub tuple_at : List (ℕ × Tuple) → ℕ → Option Tuple
tuple_at es slot = lookup (is_at (nat_cmp slot)) es

-- the entries but for those with this slot
abbrev pub without : ℕ → List (ℕ × Tuple) → List (ℕ × Tuple)
without slot es = filter (λ e. not (is_slot slot e)) es

-- the entries whose tuples are near a pattern by a further place
abbrev pub near_entries : ℕ → List Field → List Want → List (ℕ × Tuple) → List (ℕ × Tuple)
near_entries n bound ws es = filter (λ e. is_near_by n bound ws e.1) es

-- the slots of the entries that are near a pattern by a further place, the one by which there are fewest
pub record AreNear (bound : List Field) (ws : List Want) (es : List (ℕ × Tuple)) (slots : List ℕ) : Type 0 where
  pub place : ℕ
  pub same : slots ≡ slots_of (near_entries place bound ws es)
  pub count : length slots ≡ near_count bound ws (tuples_of es)

-- of two lists of slots the shorter, the first where they are equally long
abbrev pub fewer : List ℕ → List ℕ → List ℕ
fewer xs ys = if nat_lt (length ys) (length xs) then ys else xs

-- the entries whose tuples are live at this moment
abbrev pub live_entries : ℕ → List (ℕ × Tuple) → List (ℕ × Tuple)
live_entries now es = filter (λ e. is_live now e.1.until) es

-- the slot has a tuple that is no longer live
pub record IsEnded (now slot : ℕ) (es : List (ℕ × Tuple)) : Type 0 where
  pub same : live_entries now (without slot es) ≡ live_entries now es
  pub fewer : length (without slot es) < length es

-- no entry has this slot
abbrev pub IsFree : ℕ → List (ℕ × Tuple) → Type 0
IsFree slot [] = Unit {0}
IsFree slot (e ∷ es) = (is_slot slot e ≡ false) × IsFree slot es

-- no two entries have the same slot
abbrev pub Apart : List (ℕ × Tuple) → Type 0
Apart [] = Unit {0}
Apart (e ∷ es) = IsFree e.0 es × Apart es

-- each slot is below a number
abbrev pub Below : ℕ → List (ℕ × Tuple) → Type 0
Below next [] = Unit {0}
Below next (e ∷ es) = (e.0 < next) × Below next es

-- two fields, by the first and then by the second
abbrev pub pair_cmp : Field × Field → Field × Field → Ordering
pair_cmp a b = ordering_then (field_cmp a.0 b.0) (field_cmp a.1 b.1)

-- an end of life and a slot, by the end and then by the slot
abbrev pub end_cmp : ℕ × ℕ → ℕ × ℕ → Ordering
end_cmp a b = ordering_then (nat_cmp a.0 b.0) (nat_cmp a.1 b.1)

-- an index has under each key the slots of the entries that have the key
abbrev pub Files : {K : Type 0} → (K → K → Ordering) → BTreeMap K (BTreeSet ℕ) → (K → Tuple → Bool) → List (ℕ × Tuple) → Type 0
Files {K} cmp index test es = (k : K) → slots_at cmp index k ≡ slots_of (filter (λ e. test k e.1) es)

abbrev pub has_both : ℕ → Field × Field → Tuple → Bool
has_both n k t = has 0 k.0 t && has n k.1 t

-- a slot stands under an end of life, or no longer stands there, and nothing else changed
abbrev pub SetsEnd : Bool → Option ℕ → ℕ → BTreeSet (ℕ × ℕ) → BTreeSet (ℕ × ℕ) → Type 0
SetsEnd there None slot old new = (k : ℕ × ℕ) → contains end_cmp new k ≡ contains end_cmp old k
SetsEnd there (Some until) slot old new =
    (k : ℕ × ℕ) → contains end_cmp new k ≡ (if is_at (end_cmp (until, slot)) k then there else contains end_cmp old k)

abbrev pub is_end : ℕ → Option ℕ → Bool
is_end until None = false
is_end until (Some end) = until == end

abbrev pub ends_in : ℕ → Option Tuple → Bool
ends_in until None = false
ends_in until (Some t) = is_end until t.until

-- the sets beside the map are exactly the filters of it
pub record IsFiled (s : Shelves) : Type 0 where
  pub apart : Apart s.tuples.entries
  pub below : Below s.next s.tuples.entries
  pub first : Files field_cmp s.by_first.slots (has 0) s.tuples.entries
  pub second : Files pair_cmp s.by_second.slots (has_both 1) s.tuples.entries
  pub third : Files pair_cmp s.by_third.slots (has_both 2) s.tuples.entries
  pub ends : (until slot : ℕ) → contains end_cmp s.by_end (until, slot) ≡ ends_in until (tuple_at s.tuples.entries slot)

abbrev pub pair_of : Option Field → Option Field → Option (Field × Field)
pair_of (Some f) (Some g) = Some (f, g)
pair_of (Some f) None = None
pair_of None g = None

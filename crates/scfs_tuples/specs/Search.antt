use Rattle.std.specs.Prelude.{ℕ, List, [], ◌∷◌, ◌++◌, Option, Some, None, not}
use Rattle.std.specs.BTreeSet.{BTreeSet, contains}
use Rattle.std.specs.List.{filter}
use Rattle.std.specs.Ordering.{nat_cmp}
use Rattle.scfs_tuples.specs.Filed.{tuple_at, without}
use Rattle.scfs_tuples.specs.Matching.{fits}
use Rattle.scfs_tuples.specs.declared.search.Met.{Met}
use Rattle.scfs_tuples.specs.declared.types.Field.{Field}
use Rattle.scfs_tuples.specs.declared.types.Tuple.{Tuple}
use Rattle.scfs_tuples.specs.declared.types.Want.{Want}

-- the entries that no condition took
abbrev pub standing : BTreeSet ℕ → List (ℕ × Tuple) → List (ℕ × Tuple)
standing gone es = filter (λ e. not (contains nat_cmp gone e.0)) es

abbrev pub met_or : ℕ × Tuple → Option (List Field) → Option Met → Option Met
met_or e (Some after) later = Some (record { slot = e.0; tuple = e.1; bound = after })
met_or e None later = later

-- the first entry whose tuple fits, and the bindings after it
abbrev pub first_entry : List Want → List (ℕ × Tuple) → List Field → Option Met
first_entry ws [] bound = None
first_entry ws (e ∷ es) bound = met_or e (fits ws e.1.fields bound) (first_entry ws es bound)

abbrev pub entry_of : ℕ → Option Tuple → List (ℕ × Tuple)
entry_of slot None = []
entry_of slot (Some t) = (slot, t) ∷ []

-- the entry of a slot, as a list
abbrev pub entry_at : List (ℕ × Tuple) → ℕ → List (ℕ × Tuple)
entry_at es slot = entry_of slot (tuple_at es slot)

-- the entries of slots, in their order
abbrev pub entries_at : List (ℕ × Tuple) → List ℕ → List (ℕ × Tuple)
entries_at es [] = []
entries_at es (slot ∷ slots) = entry_at es slot ++ entries_at es slots

-- the entries but for those of these slots
abbrev pub without_all : List ℕ → List (ℕ × Tuple) → List (ℕ × Tuple)
without_all [] es = es
without_all (slot ∷ slots) es = without_all slots (without slot es)

abbrev pub listed : {A : Type 0} → Option A → List A
listed None = []
listed (Some a) = a ∷ []

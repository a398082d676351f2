use Rattle.std.specs.Prelude.{◌≡◌, ℕ, List, [], Option, Some, None, if◌then◌else◌}
use Rattle.std.specs.declared.cmp.Ordering.{Ordering}
use Rattle.std.specs.BTreeMap.{BTreeMap, get, is_at}
use Rattle.std.specs.BTreeSet.{BTreeSet, insert_key}
use Rattle.std.specs.Ordering.{nat_cmp}
use Rattle.std.specs.Set.{remove_key}

abbrev pub slots_in : Option (BTreeSet ℕ) → List ℕ
slots_in None = []
slots_in (Some slots) = slots.keys

-- the slots under a key, rising
abbrev pub slots_at : {K : Type 0} → (K → K → Ordering) → BTreeMap K (BTreeSet ℕ) → K → List ℕ
slots_at cmp slots k = slots_in (get cmp slots k)

-- a slot was put in its place among those under a key, and nothing else changed
abbrev pub Adds : {K : Type 0} → (K → K → Ordering) → Option K → ℕ → BTreeMap K (BTreeSet ℕ) → BTreeMap K (BTreeSet ℕ) → Type 0
Adds {K} cmp None slot old new = (k : K) → slots_at cmp new k ≡ slots_at cmp old k
Adds {K} cmp (Some key) slot old new =
    (k : K) → slots_at cmp new k ≡ (if is_at (cmp key) k then insert_key nat_cmp (slots_at cmp old key) slot else slots_at cmp old k)

-- a slot was taken from those under a key, and nothing else changed
abbrev pub Removes : {K : Type 0} → (K → K → Ordering) → Option K → ℕ → BTreeMap K (BTreeSet ℕ) → BTreeMap K (BTreeSet ℕ) → Type 0
Removes {K} cmp None slot old new = (k : K) → slots_at cmp new k ≡ slots_at cmp old k
Removes {K} cmp (Some key) slot old new =
    (k : K) → slots_at cmp new k ≡ (if is_at (cmp key) k then remove_key (is_at (nat_cmp slot)) (slots_at cmp old key) else slots_at cmp old k)

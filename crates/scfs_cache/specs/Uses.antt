-- Lists by last use: each key once, the most recently used first.
use Rattle.std.specs.Prelude.{ℕ, List, [], ◌∷◌, take, filter, Bool, not, Option, Some, None}

-- entries by their keys, the most recently used first, and how many there may be
pub record Recent (K V : Type 0) : Type 0 where
  pub most : ℕ
  pub entries : List (K × V)

module _ {K V : Type 0} (same : K → K → Bool) where
  -- the list without a key's entry
  abbrev pub without : K → List (K × V) → List (K × V)
  without key entries = filter (λ entry. not (same key entry.0)) entries

  -- after a use of a key with this value: it comes first, its older place is taken away, and the first so many stay
  abbrev pub used : (most : ℕ) → K → V → List (K × V) → List (K × V)
  used most key value entries = take most ((key, value) ∷ without key entries)

  -- a use of a key with this value, if there is one
  abbrev pub used_if : (most : ℕ) → K → Option V → List (K × V) → List (K × V)
  used_if most key None entries = entries
  used_if most key (Some value) entries = used most key value entries

  -- what uses leave of an empty list; they are read backwards, the last one first
  abbrev pub after_uses : (most : ℕ) → List (K × V) → List (K × V)
  after_uses most [] = []
  after_uses most (latest ∷ earlier) = used most latest.0 latest.1 (after_uses most earlier)

  -- the different keys of uses, each with the value of its last use; they are read backwards, the last one first
  abbrev pub last_uses : List (K × V) → List (K × V)
  last_uses [] = []
  last_uses (latest ∷ earlier) = latest ∷ without latest.0 (last_uses earlier)

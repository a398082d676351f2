-- Answers that an agent keeps, by the paths that it asked for.
use Rattle.std.specs.Prelude.{ℕ, ◌-◌, List, Option, Some, None, nat_lt, if◌then◌else◌, refl}
use Rattle.std.specs.Str.{bytes_eq}
use Rattle.std.specs.Map.{lookup}
use Rattle.std.specs.Coded.{Coded, code_by, coded×, coded_list, coded_ℕ}
use Rattle.scfs_cache.specs.declared.paths.Kept.{Kept}
use Rattle.scfs_cache.specs.Uses.{used, used_if}

-- how many answers of each kind are kept
abbrev pub answers_limit : ℕ
answers_limit = 64

-- answers of one kind by their paths, the most recently used first
abbrev pub Answers : Type 0 → Type 0
Answers V = List (List ℕ × Kept V)

-- such answers are stored as moments and values
abbrev pub answers_code : {V : Type 0} → Coded V → Coded (Answers V)
answers_code {V} v =
    coded_list (coded× (coded_list coded_ℕ)
    (code_by (ℕ × V) (coded× coded_ℕ v)
    (λ (answer : Kept V). (answer.moment, answer.value)) (λ p. record { moment = p.0; value = p.1 }) (λ _. refl)))

module _ {V : Type 0} where
  -- an answer, where it is younger than `stale`
  abbrev pub if_younger : (now stale : ℕ) → Option (Kept V) → Option (Kept V)
  if_younger now stale None = None
  if_younger now stale (Some answer) = if nat_lt (now - answer.moment) stale then Some answer else None

  -- the answer that is kept for a path, where it is younger than `stale`
  abbrev pub fresh : Answers V → (path : List ℕ) → (now stale : ℕ) → Option (Kept V)
  fresh answers path now stale = if_younger now stale (lookup (bytes_eq path) answers)

  -- after a path was asked for: an answer that is given again is used
  abbrev pub after_asking : Answers V → (path : List ℕ) → (now stale : ℕ) → Answers V
  after_asking answers path now stale = used_if bytes_eq answers_limit path (fresh answers path now stale) answers

  -- after an answer was kept, which is a use of its path
  abbrev pub after_keeping : Answers V → (path : List ℕ) → Kept V → Answers V
  after_keeping answers path answer = used bytes_eq answers_limit path answer answers

use Rattle.std.specs.Prelude.{◌≡◌, ℕ, List, [], ◌∷◌, true, is_some}
use Rattle.scfs_model.specs.Format.{Setup}
use Rattle.scfs_model.specs.Layers.{Row, rows}
use Rattle.scfs_model.specs.Agents.{Closed, Reaction, followed}
use Rattle.scfs_model.specs.Reactions.{next_begun}

-- the upload of the first closed session begins behind a reaction, unless it has begun
abbrev pub settled : Setup → (a : ℕ) → Reaction Row → Reaction Row
settled s a r = followed r (λ next. next_begun s rows a next next.closed)

-- there is no closed session whose upload has not begun
abbrev pub HasBegun : List (Closed Row) → Type 0
HasBegun [] = Unit {0}
HasBegun (x ∷ rest) = is_some x.upload ≡ true

-- at most one session is closed and not completed, and its upload has begun
abbrev pub OneBegun : List (Closed Row) → Type 0
OneBegun [] = Unit {0}
OneBegun (x ∷ []) = is_some x.upload ≡ true
OneBegun (x ∷ y ∷ rest) = ⊥

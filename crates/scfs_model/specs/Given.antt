use Rattle.std.specs.Prelude.{ℕ, List}
use Rattle.scfs_model.specs.History.{Entry}

-- what an event is given: its moment, and the answers of the caller's rank rule, in the order in which it was asked
pub record Given : Type 0 where
  pub now : ℕ
  pub ranks : List ℕ

-- what the event of an entry is given at a moment
abbrev pub given_of : (now : ℕ) → Entry → Given
given_of now e = record { now = now; ranks = e.ranks }

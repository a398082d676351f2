use Rattle.std.specs.Prelude.{ℕ, List}

-- what becomes of a reading from the clouds, or of the storing of objects on them: it goes on as it is; these clouds are asked; it
-- has come to its end with this; or it is given up, with so many clouds that gave or took their object
pub data Next (X : Type 0) : Type 0 where
  Goes_on : Next X
  Asks : (clouds : List ℕ) → Next X
  Has : X → Next X
  Gives_up : (clouds : ℕ) → Next X

use Rattle.std.specs.Prelude.{ℕ, ◌+◌, List, [], ◌∷◌, Bool, true, false}
use Rattle.std.specs.Ordering.{nat_cmp}
use Rattle.std.specs.FinSet as set

-- a set of clouds, by their numbers
abbrev pub Clouds : Type 0
Clouds = set.FinSet nat_cmp

-- the places that are marked, counted from a first number
abbrev pub marked_from : ℕ → List Bool → List ℕ
marked_from number [] = []
marked_from number (true ∷ marks) = number ∷ marked_from (number + 1) marks
marked_from number (false ∷ marks) = marked_from (number + 1) marks

-- the clouds that are marked
abbrev pub marked : List Bool → Clouds
marked marks = set.from_list (marked_from 0 marks)

use Rattle.std.specs.Prelude.{Bool, true, false}

-- The life of an agent.

-- it is down after a crash, and starting until the locks that it took before are given back
pub data Life : Type 0 where
  Down : Life
  Starting : Life
  Ready : Life

abbrev pub is_up : Life → Bool
is_up Down = false
is_up Starting = true
is_up Ready = true

abbrev pub is_ready : Life → Bool
is_ready Down = false
is_ready Starting = false
is_ready Ready = true

use Rattle.std.specs.Prelude.{ℕ, ◌+◌, List, length, filter, Bool, true, false, ◌&&◌, not, ◌==◌, nat_le, if◌then◌else◌}
use Rattle.scfs_base.specs.declared.naming.RequestNo.{RequestNo}
use Rattle.scfs_base.specs.declared.cloud.CloudAnswer.{CloudAnswer}
use Rattle.scfs_base.specs.declared.cloud.CloudAnswer.TheVariants as answers
use Rattle.scfs_unit.specs.declared.sealing.Sealed.{Sealed}
use Rattle.scfs_model.specs.Lists.{is_in, below, put_by_number}
use Rattle.scfs_model.specs.Format.{Setup, clouds_of, enough}
use Rattle.scfs_model.specs.Asked.{Asked, is_answer_to}
use Rattle.scfs_model.specs.Next.{Next, Goes_on, Asks, Has, Gives_up}
use Rattle.scfs_base.specs.Limits.{turns_limit}

-- how far the objects of a sealed unit, one a cloud, are stored under a name: their Puts so far, the clouds that acknowledged one by
-- number, and how many turns came since it began
pub record Storing : Type 0 where
  pub name : List ℕ
  pub unit : Sealed
  pub puts : List Asked
  pub acked : List ℕ
  pub turns : ℕ

abbrev pub is_ack : CloudAnswer → Bool
is_ack answers.Ack = true
is_ack answers.Absent = false
is_ack (answers.Bytes bytes) = false
is_ack (answers.Names names) = false
is_ack answers.Fail = false

-- an answer counts where it acknowledges one of the Puts, and its cloud acknowledged none before
abbrev pub is_new_ack : Storing → (c : ℕ) → RequestNo → CloudAnswer → Bool
is_new_ack g c request answer = is_ack answer && is_answer_to g.puts c request && not (is_in c g.acked)

-- after an answer that counts
abbrev pub with_ack : Storing → (c : ℕ) → Storing
with_ack g c = record g { acked = put_by_number c g.acked }

-- all clouds but f are enough
abbrev pub is_enough : Setup → Storing → Bool
is_enough s g = nat_le (enough s) (length g.acked)

-- an answer that counts is enough with those before, or it goes on
abbrev pub store_on : Setup → Storing → Next (Unit {0})
store_on s g = if length g.acked + 1 == enough s then Has tt else Goes_on

-- a turn, until enough clouds acknowledged: the last one ends it, and one before asks the other clouds again
abbrev pub store_turn : Setup → Storing → Next (Unit {0})
store_turn s g =
    if is_enough s g then Goes_on
    else if g.turns + 1 == turns_limit then Gives_up (length g.acked)
    else Asks (filter (λ c. not (is_in c g.acked)) (below (clouds_of s)))

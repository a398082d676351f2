use Rattle.std.specs.Prelude.{ℕ, ◌+◌, List, [], ◌∷◌, Bool, ◌&&◌, ◌==◌}
use Rattle.std.specs.List.{list_any}
use Rattle.scfs_base.specs.declared.naming.RequestNo.{RequestNo}
use Rattle.scfs_model.specs.Names.{request_no, same_request}

-- a request that was made of a cloud
pub record Asked : Type 0 where
  pub request : RequestNo
  pub cloud : ℕ

-- agent a's requests to these clouds, with the numbers after those drawn before
abbrev pub asked_of : (a incarnation drawn : ℕ) → (clouds : List ℕ) → List Asked
asked_of a incarnation drawn [] = []
asked_of a incarnation drawn (c ∷ clouds) =
    (record { request = request_no a incarnation (drawn + 1); cloud = c }) ∷ asked_of a incarnation (drawn + 1) clouds

-- whether an answer of a cloud is to one of these requests, made of that cloud
abbrev pub is_answer_to : List Asked → (c : ℕ) → RequestNo → Bool
is_answer_to asked c request = list_any (λ (x : Asked). (x.cloud == c) && same_request x.request request) asked

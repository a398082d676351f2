-- What would not do: fewer acknowledgements, a cloud that counts twice, and a name that gets another body.
use Rattle.std.proofs.Common.{◌≡◌, ◌≢◌, ℕ, zero, suc, ◌<◌, List, [], ◌∷◌, length, sym, ◌∙◌, arith, Some, Contains}
use Rattle.scfs_net.specs.Store.{Objects, stored, with_object}
use Rattle.scfs_laws.proofs.Lists.{Each, Pairs, each-map}
use Rattle.scfs_durable.proofs.StoreLemmas.{put_here}

-- more than f = 1 different clouds that acknowledged and are no liars
abbrev AreKept : (acked liars good : List ℕ) → Type 0
AreKept acked liars good = (1 < length good) × Pairs (λ m n. m ≢ n) good × Each (λ c. Contains acked c × ¬ Contains liars c) good

all_one : (good : List ℕ) → 1 < length good → Pairs (λ m n. m ≢ n) good → Each (λ c. c ≡ 1) good → ⊥
all_one [] more differ one = omega (arith, more)
all_one (c ∷ []) more differ one = omega (arith, more)
all_one (c ∷ d ∷ cs) more differ one = differ.0.0 (one.0 ∙ sym one.1.0)

-- a close that is completed with f + 1 = 2 acknowledgements, where the first cloud lies
second_of_two : (c : ℕ) → Contains (0 ∷ 1 ∷ []) c × ¬ Contains (0 ∷ []) c → c ≡ 1
second_of_two c ((zero, less, is), none) = absurd (none (0, omega arith, is))
second_of_two c ((suc zero, less, is), none) = sym is
second_of_two c ((suc (suc k), less, is), none) = absurd (omega (arith, less))

pub two_are_too_few : (good : List ℕ) → AreKept (0 ∷ 1 ∷ []) (0 ∷ []) good → ⊥
two_are_too_few good h = all_one good h.0 h.1 (each-map _ (λ c. c ≡ 1) second_of_two good h.2)

-- one that is completed with n - f = 3 acknowledgements, of which two are of one cloud
second_of_three : (c : ℕ) → Contains (0 ∷ 1 ∷ 1 ∷ []) c × ¬ Contains (0 ∷ []) c → c ≡ 1
second_of_three c ((zero, less, is), none) = absurd (none (0, omega arith, is))
second_of_three c ((suc zero, less, is), none) = sym is
second_of_three c ((suc (suc zero), less, is), none) = sym is
second_of_three c ((suc (suc (suc k)), less, is), none) = absurd (omega (arith, less))

pub twice_is_too_few : (good : List ℕ) → AreKept (0 ∷ 1 ∷ 1 ∷ []) (0 ∷ []) good → ⊥
twice_is_too_few good h = all_one good h.0 h.1 (each-map _ (λ c. c ≡ 1) second_of_three good h.2)

-- with a liar among the clouds that count, one of two is left
pub liars_do_not_count : (good : List ℕ) → AreKept (0 ∷ 1 ∷ 2 ∷ []) (0 ∷ 2 ∷ []) good → ⊥
liars_do_not_count good h = all_one good h.0 h.1 (each-map _ (λ c. c ≡ 1) middle good h.2)
  where
    middle : (c : ℕ) → Contains (0 ∷ 1 ∷ 2 ∷ []) c × ¬ Contains (0 ∷ 2 ∷ []) c → c ≡ 1
    middle c ((zero, less, is), none) = absurd (none (0, omega arith, is))
    middle c ((suc zero, less, is), none) = sym is
    middle c ((suc (suc zero), less, is), none) = absurd (none (1, omega arith, is))
    middle c ((suc (suc (suc k)), less, is), none) = absurd (omega (arith, less))

-- were a name that holds a body put with another one, the first would be gone, however many clouds had acknowledged it
pub another_replaces : (objects : Objects) (name body other : List ℕ) → body ≢ other
    → stored (with_object (with_object objects name body) name other) name ≢ Some body
another_replaces objects name body other apart held = apart (same (sym held ∙ put_here (with_object objects name body) name other))
  where
    same : Some body ≡ Some other → body ≡ other
    same e = cc

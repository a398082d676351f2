-- With one liar more than f a version can be lost: a schedule that is played.
use Rattle.std.proofs.Common.{◌≡◌, ◌≢◌, ℕ, zero, suc, ◌+◌, ◌<◌, List, [], ◌∷◌, ◌++◌, length, Bool, true, false, refl, sym, ◌∙◌, arith, inl, inr, take, eq-eqb, true≢false, Option, Some, None, Contains}
use Rattle.std.specs.Prelude.{◌==◌, ◌||◌}
use Rattle.scfs_base.specs.Words.{hex_pair}
use Rattle.scfs_base.specs.declared.cloud.CloudAnswer.TheVariants as answers
use Rattle.scfs_base.specs.declared.cloud.CloudRequest.TheVariants as requests
use Rattle.scfs_base.specs.declared.naming.UploadNo.{UploadNo}
use Rattle.scfs_net.specs.Queues.{first_bytes}
use Rattle.scfs_net.specs.Store.{stored}
use Rattle.scfs_schedule.specs.declared.types.Call.TheVariants as calls
use Rattle.scfs_schedule.specs.declared.types.Event.{Event}
use Rattle.scfs_schedule.specs.declared.types.Event.TheVariants as events
use Rattle.scfs_model.specs.Format.{Setup, clouds_of}
use Rattle.scfs_model.specs.History.{History}
use Rattle.scfs_model.specs.Layers.{Row}
use Rattle.scfs_model.specs.Clouds.{IsServed}
use Rattle.scfs_model.specs.Runs.{actual, Happens}
use Rattle.scfs_model.proofs.ShortFormat.{setup}
use Rattle.scfs_model.proofs.FirstRow.{path_a}
use Rattle.scfs_model.proofs.Played.{entry_of, played}
use Rattle.scfs_model.proofs.SharedFile.{n1, begins}
use Rattle.scfs_laws.proofs.Lists.{Each, Pairs, each-map}
use Rattle.scfs_durable.proofs.Counting.{each_from_all, pairs_from_all}
use Rattle.scfs_durable.specs.Stores.{objects, IsHonest, IsHonestAt, IsTruthful, FewLie}
use Rattle.scfs_durable.specs.Safe.{Backs, IsSafe, AreSafe, IsNameable}

-- whether an event says an answer of cloud c
abbrev is_saying : (c : ℕ) → Event → Bool
is_saying c (events.Say d answer) = d == c
is_saying c other = false

abbrev says : (c : ℕ) → History → Bool
says c [] = false
says c (e ∷ past) = is_saying c e.event || says c past

neither : (b d : Bool) → (b || d) ≡ false → (b ≡ false) × (d ≡ false)
neither true d h = cc
neither false d h = (refl, h)

-- a cloud of which no answer is said never lied
pub unsaid : (s : Setup) (c : ℕ) (past : History) → says c past ≡ false → IsTruthful s past c
unsaid s c [] h = tt
unsaid s c (e ∷ past) h =
    let both = neither (is_saying c e.event) (says c past) h in (by e.event both.0, unsaid s c past both.1)
  where
    by : (event : Event) → is_saying c event ≡ false → IsHonestAt s past c event
    by (events.Say d answer) none = λ same. absurd (true≢false (sym (eq-eqb d c same) ∙ none))
    by other none = tt

-- what is played happens, and its messages are those of the clouds
pub played_happens : (s : Setup) (past : History) (events : List Event) → Happens s past → Happens s (played s past events)
played_happens s past [] h = h
played_happens s past (event ∷ events) h = played_happens s (entry_of s past event ∷ past) events (refl, h)

pub played_served : (s : Setup) (past : History) (events : List Event) → IsServed s past → IsServed s (played s past events)
played_served s past [] h = h
played_served s past (event ∷ events) h = played_served s (entry_of s past event ∷ past) events (refl, h)

abbrev s : Setup
s = setup 1 2

-- clouds 0 to 2 store their objects, cloud 3 is silent, and the close is completed; then clouds 0 and 1, asked for their objects, answer
-- as if they had been put some
abbrev lost : List Event
lost =
    begins
    ++ events.Serve 0 ∷ events.Serve 1 ∷ events.Serve 2 ∷ events.Give 0 ∷ events.Give 1 ∷ events.Give 2 ∷ events.Space 0
    ∷ events.Call 1 (calls.OpenR path_a) ∷ events.Space 1 ∷ events.Told 1 ∷ events.Say 0 answers.Ack ∷ events.Say 1 answers.Ack ∷ []

abbrev past : History
past = played s [] lost

two_lie : FewLie 2 s past
two_lie = record {
  liars = 0 ∷ 1 ∷ [];
  few = omega arith;
  others = by;
}
  where
    by : (c : ℕ) → c < clouds_of s → ¬ Contains (0 ∷ 1 ∷ []) c → IsTruthful s past c
    by zero less none = absurd (none (0, omega arith, refl))
    by (suc zero) less none = absurd (none (1, omega arith, refl))
    by (suc (suc zero)) less none = unsaid s 2 past refl
    by (suc (suc (suc zero))) less none = unsaid s 3 past refl
    by (suc (suc (suc (suc n)))) less none = absurd (omega (arith, less))

-- an acknowledgement of a Get is a lie
ack_lies : (s : Setup) (past : History) (c : ℕ) (name : List ℕ) (limit : ℕ) → IsHonest s past c (requests.Get name limit) answers.Ack → ⊥
ack_lies s past c name limit (inl same) = by (stored (objects s past c) name) same
  where
    by : (found : Option (List ℕ)) → answers.Ack ≡ first_bytes limit found → ⊥
    by None same = cc
    by (Some body) same = cc
ack_lies s past c name limit (inr (inl (body, was, same))) = cc
ack_lies s past c name limit (inr (inr (inl same))) = cc
ack_lies s past c name limit (inr (inr (inr same))) = cc

-- the history before the two lies, and before the second
abbrev first : History
first = played s [] (take 18 lost)

abbrev second : History
second = entry_of s first (events.Say 0 answers.Ack) ∷ first

first_lies : IsTruthful s past 0 → ⊥
unfolding hex_pair
first_lies t = ack_lies s first 0 n1 171 (t.1.0 refl)

second_lies : IsTruthful s past 1 → ⊥
unfolding hex_pair
second_lies t = ack_lies s second 1 n1 171 (t.0 refl)

-- cloud 3 holds nothing
silent_lacks : (u : UploadNo) (contents : List ℕ) → Backs s past u contents 3 → ⊥
unfolding hex_pair
silent_lacks u contents h = cc

one_version : length (actual s past).tree.versions ≡ 1
unfolding hex_pair
one_version = refl

-- so cloud 2 alone is truthful and holds its object
only_third : (u : UploadNo) (contents : List ℕ) (c : ℕ) → (c < clouds_of s) × IsTruthful s past c × Backs s past u contents c → c ≡ 2
only_third u contents zero h = absurd (first_lies h.1)
only_third u contents (suc zero) h = absurd (second_lies h.1)
only_third u contents (suc (suc zero)) h = refl
only_third u contents (suc (suc (suc zero))) h = absurd (silent_lacks u contents h.2)
only_third u contents (suc (suc (suc (suc n)))) h = absurd (omega (arith, h.0))

not_safe : (v : Row) → IsSafe s past v → ⊥
not_safe v h =
    let all = each_from_all _ h.clouds h.hold in
    by h.clouds h.are_enough (pairs_from_all h.clouds h.differ) (each-map _ (λ c. c ≡ 2) (only_third h.close.upload h.close.bytes) h.clouds all)
  where
    by : (cs : List ℕ) → 1 < length cs → Pairs (λ m n. m ≢ n) cs → Each (λ c. c ≡ 2) cs → ⊥
    by [] more differ two = omega (arith, more)
    by (c ∷ []) more differ two = omega (arith, more)
    by (c ∷ d ∷ cs) more differ two = differ.0.0 (two.0 ∙ sym two.1.0)

-- a history that was played, in which so many clouds lied, and then a version that is not safe
pub record Loses (most : ℕ) (s : Setup) (past : History) : Type 0 where
  pub nameable : IsNameable s past
  pub happens : Happens s past
  pub served : IsServed s past
  pub lie : FewLie most s past
  pub lost : ¬ AreSafe most s past

pub one_more_is_too_many : Loses (s.header.f + 1) s past
one_more_is_too_many = record {
  nameable = record { agents = omega arith; events = omega arith };
  happens = played_happens s [] lost tt;
  served = played_served s [] lost tt;
  lie = two_lie;
  lost = λ safe. let h = safe two_lie in
      by (actual s past).tree.versions one_version (each_from_all (IsSafe s past) (actual s past).tree.versions h);
}
  where
    by : (vs : List Row) → length vs ≡ 1 → Each (IsSafe s past) vs → ⊥
    by [] one h = omega (arith, one)
    by (v ∷ vs) one h = not_safe v h.0

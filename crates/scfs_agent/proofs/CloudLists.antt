-- Lists of clouds.
use Rattle.std.proofs.Common.{◌≡◌, ℕ, ◌+◌, ◌*◌, ◌<◌, ◌≤◌, ◌^◌, List, [], ◌∷◌, ◌++◌, length, map, zero, suc, refl, sym, ap, ◌∙◌, arith, add-one, Bool, true, false, cond}
use Rattle.std.specs.List.{All, filter, range_with_len}
use Rattle.std.specs.Int.{div_ceil}
use Rattle.std.proofs.lemmas.Grind.{div_ceil_times}
use Rattle.std.specs.Prelude.{not}
use Rattle.std.proofs.lemmas.List.{append-nil, map-append}
use Rattle.std.proofs.lemmas.List.Filters.{length-filter_both}
use Rattle.scfs_policy.specs.declared.rank.RankFacts.{RankFacts}
use Rattle.std.proofs.lemmas.List.Elements.{filter-append, All-nil, All-cons}
use Rattle.std.proofs.lemmas.List.FromFn.{length-range_with_len, get_or-range_with_len}
use Rattle.scfs_erasure.specs.Rows.{row_length}
use Rattle.scfs_unit.specs.Checking.{object_size}
use Rattle.scfs_model.specs.Lists.{below}

-- a filter is no longer
pub filter_short : {X : Type 0} (test : X → Bool) (xs : List X) → length (filter test xs) ≤ length xs
filter_short test xs = omega (arith, length-filter_both test (λ x. not (test x)) (λ x. refl) xs)

range_more : (a n : ℕ) → range_with_len a (suc n) ≡ range_with_len a n ++ (a + n) ∷ []
range_more a zero = ap (λ k. k ∷ []) (omega arith)
range_more a (suc n) =
    ap (λ rest. a ∷ rest) (range_more (a + 1) n)
    ∙ ap (λ k. a ∷ range_with_len (a + 1) n ++ k ∷ []) (omega arith)

pub below_more : (n : ℕ) → below (n + 1) ≡ below n ++ n ∷ []
below_more n = rw add-one (range_more 0 n ∙ ap (λ k. below n ++ k ∷ []) (omega arith))

pub all_below : (n : ℕ) → All (λ c. c < n) (below n)
all_below n k d l =
    let within : k < n = omega (arith, length-range_with_len 0 n) in omega (arith, get_or-range_with_len 0 n k d within)

pub length-below : (n : ℕ) → length (below n) ≡ n
length-below n = length-range_with_len 0 n

-- an object's length and one byte more are numbers of 32 bits
pub object_is_short : (f size : ℕ) → 1 ≤ f → f ≤ 3 → size < 2 ^ 32 → object_size f size + 1 < 2 ^ 32
unfolding row_length
object_is_short f size low high short =
    let ends : div_ceil size (f + 1) * (f + 1) < size + (f + 1) = (div_ceil_times size (f + 1) (omega arith)).1 in
    let half : div_ceil size (f + 1) * 2 ≤ div_ceil size (f + 1) * (f + 1) = grind arith in
    omega (arith, ends, half)

below_filtered : (test : ℕ → Bool) (n : ℕ) (b : Bool) → test n ≡ b → filter test (below (n + 1)) ≡ filter test (below n) ++ cond b (n ∷ []) []
below_filtered test n b e =
    ap (filter test) (below_more n) ∙ filter-append test (below n) (n ∷ []) ∙ ap (λ (c : Bool). filter test (below n) ++ cond c (n ∷ []) []) e

-- one cloud more that passes a test, and one that does not
pub kept_more : (test : ℕ → Bool) (n : ℕ) (before after : List ℕ) → before ≡ filter test (below n) → test n ≡ true → after ≡ before ++ n ∷ []
    → after ≡ filter test (below (n + 1))
kept_more test n before after was passes is =
    is ∙ ap (λ (xs : List ℕ). xs ++ n ∷ []) was ∙ sym (below_filtered test n true passes)

pub left_more : (test : ℕ → Bool) (n : ℕ) (before after : List ℕ) → before ≡ filter test (below n) → test n ≡ false → after ≡ before
    → after ≡ filter test (below (n + 1))
left_more test n before after was fails is =
    is ∙ was ∙ sym (append-nil (filter test (below n))) ∙ sym (below_filtered test n false fails)

-- the tallies of one cloud more
abbrev pub record_of : ℕ → RankFacts
record_of c = record { cloud = c; good = 0; bad = 0 }

pub new_tallies_more : (n : ℕ) → map (λ (c : ℕ). record_of c) (below (n + 1)) ≡ map (λ (c : ℕ). record_of c) (below n) ++ record_of n ∷ []
new_tallies_more n = ap (map (λ (c : ℕ). record_of c)) (below_more n) ∙ map-append (λ (c : ℕ). record_of c) (below n) (n ∷ [])

-- they count no answers, and are of these clouds
pub first_few : (inputs : ℕ) (clouds : List ℕ) → All (λ (x : RankFacts). (x.good ≤ inputs) × (x.bad ≤ inputs)) (map (λ (c : ℕ). record_of c) clouds)
first_few inputs [] = All-nil (λ (x : RankFacts). (x.good ≤ inputs) × (x.bad ≤ inputs))
first_few inputs (c ∷ cs) =
    All-cons (λ (x : RankFacts). (x.good ≤ inputs) × (x.bad ≤ inputs)) (record_of c) (map (λ (d : ℕ). record_of d) cs) (omega arith, omega arith)
    (first_few inputs cs)

pub first_clouds : (clouds : List ℕ) → map (λ (x : RankFacts). x.cloud) (map (λ (c : ℕ). record_of c) clouds) ≡ clouds
first_clouds [] = refl
first_clouds (c ∷ cs) = ap (λ (rest : List ℕ). c ∷ rest) (first_clouds cs)

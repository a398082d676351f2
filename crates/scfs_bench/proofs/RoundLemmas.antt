-- The pattern's length, and rounds counted from the first.
use Rattle.std.proofs.Common.{◌≡◌, ℕ, suc, ◌+◌, length, refl, ap, ◌∙◌, ◌%◌}
use Rattle.std.proofs.Math.Numerals.{add-one}
use Rattle.std.proofs.lemmas.List.FromFn.{length-map-range_with_len}
use Rattle.scfs_bench.specs.declared.measures.Measure.{Measure}
use Rattle.scfs_bench.specs.Rounds.{Rows, pattern, round_of, rounds_of}

pub pattern_length : (n : ℕ) → length (pattern n) ≡ n
unfolding pattern
pattern_length n = length-map-range_with_len (λ place. place % 251) 0 n

-- no round changes nothing
pub no_rounds : (measure : Measure) (r : Rows) → rounds_of measure 0 r ≡ r
unfolding rounds_of
no_rounds measure r = refl

last_round : (measure : Measure) (n : ℕ) (r : Rows)
    → rounds_of measure (suc n) r ≡ round_of measure (rounds_of measure n r)
unfolding rounds_of
last_round measure n r = refl

-- one round more is a round after the others
pub one_round_more : (measure : Measure) (n : ℕ) (r : Rows)
    → rounds_of measure (n + 1) r ≡ round_of measure (rounds_of measure n r)
one_round_more measure n r = ap (λ k. rounds_of measure k r) (add-one n) ∙ last_round measure n r

-- The coefficients that fit given points: there is one list, and its values depend linearly on the given values.
use Rattle.std.proofs.Common.{◌≡◌, ℕ, zero, suc, ◌+◌, ◌<◌, ◌≢◌, List, [], ◌∷◌, ◌++◌, length, map, take, drop}
use Rattle.std.proofs.Common.{replicate, refl, sym, subst, ap, ap₂, ◌∙◌, arith}
use Rattle.std.specs.Prelude.{slice_index}
use Rattle.std.specs.Int.Bits.{bit_xor}
use Rattle.scfs_gf256.specs.Field.{times, inverse_of}
use Rattle.scfs_gf256.specs.Rows.{dot_product, add_multiples, column_of}
use Rattle.scfs_gf256.specs.Polynomials.{value_of, AreBytes, AreDistinct, IsOnlyFit}
use Rattle.scfs_gf256.specs.Interpolation.{from_roots, lagrange_basis, lagrange_sum, coefficients_of, factors_after}
use Rattle.scfs_gf256.specs.Interpolation.{lagrange_factors, unit_values}
use Rattle.scfs_gf256.proofs.Times.{times_comm}
use Rattle.scfs_gf256.proofs.Bytes.{Bytes, AreBytes-Bytes, Bytes-AreBytes, Bytes-append, Bytes_left, Bytes_right}
use Rattle.scfs_gf256.proofs.Bytes.{AreApart, AreDistinct-AreApart, absent_from_others}
use Rattle.scfs_gf256.proofs.Division.{same_coefficients}
use Rattle.scfs_gf256.proofs.Lagrange.{length-lagrange_sum, Bytes-lagrange_sum, lagrange_sum-fits}
use Rattle.scfs_gf256.proofs.Lagrange.{not_zero_elsewhere, value_of-lagrange_sum-nil, value_of-lagrange_sum-cons}
use Rattle.scfs_gf256.proofs.Lagrange.{value_of-lagrange_basis}
use Rattle.scfs_gf256.proofs.Values.{value_of-lt}
use Rattle.scfs_gf256.proofs.RowLaws.{dot_product-unit_values, slice_index-add_multiples, slice_index-zeros}
use Rattle.std.specs.List.{All}
use Rattle.std.proofs.lemmas.List.{ext_get_or, length-map, length-set, length-replicate, append-nil, append_assoc}
use Rattle.std.proofs.lemmas.List.{take-append-drop, drop_more}
use Rattle.std.proofs.Math.Numerals.{add-one}
use Rattle.scfs_gf256.proofs.Powers.{times_cancel, times-inverse_of, inverse_of-lt}

-- the central fact: one list of as many coefficients as points fits them
pub coefficients_of-IsOnlyFit : (xs ys : List ℕ) → AreBytes xs → AreBytes ys → length xs ≡ length ys → AreDistinct xs
    → IsOnlyFit (coefficients_of xs ys) xs ys
unfolding coefficients_of
coefficients_of-IsOnlyFit xs ys places values same apart =
    let c = lagrange_sum [] xs ys in
    let made = Bytes-lagrange_sum [] xs ys in
    let bytes = AreBytes-Bytes xs places in
    let different = AreDistinct-AreApart xs apart in
    let long = length-lagrange_sum [] xs ys same in
    let fits = lagrange_sum-fits [] xs ys same bytes (AreBytes-Bytes ys values) different in
    record {
      fit = record { as_many = long; bytes = Bytes-AreBytes c made; fits = fits };
      only = λ d h. same_coefficients xs d c bytes different h.as_many long (AreBytes-Bytes d h.bytes) made (h.fits ∙ sym fits);
    }

-- ---- the factors

length-factors_after : (before after : List ℕ) (x : ℕ) → length (factors_after before after x) ≡ length after
unfolding factors_after
length-factors_after before [] x = refl
length-factors_after before (place ∷ after) x = ap suc (length-factors_after (before ++ place ∷ []) after x)

Bytes-factors_after : (before after : List ℕ) (x : ℕ) → Bytes (factors_after before after x)
unfolding factors_after
Bytes-factors_after before [] x = tt
Bytes-factors_after before (place ∷ after) x =
    (value_of-lt (lagrange_basis (before ++ after) place) x, Bytes-factors_after (before ++ place ∷ []) after x)

value_of-lagrange_sum : (before after ys : List ℕ) (x : ℕ) → length after ≡ length ys
    → value_of (lagrange_sum before after ys) x ≡ dot_product (factors_after before after x) ys
unfolding factors_after
value_of-lagrange_sum before [] ys x h = value_of-lagrange_sum-nil before ys x
value_of-lagrange_sum before (a ∷ after) [] x h = cc
value_of-lagrange_sum before (a ∷ after) (y ∷ ys) x h =
    value_of-lagrange_sum-cons before a after y ys x (omega arith)
    ∙ ap₂ bit_xor (times_comm y (value_of (lagrange_basis (before ++ after) a) x))
    (value_of-lagrange_sum (before ++ a ∷ []) after ys x (omega arith))

pub length-lagrange_factors : (xs : List ℕ) (x : ℕ) → length (lagrange_factors xs x) ≡ length xs
unfolding lagrange_factors
length-lagrange_factors xs x = length-factors_after [] xs x

pub Bytes-lagrange_factors : (xs : List ℕ) (x : ℕ) → Bytes (lagrange_factors xs x)
unfolding lagrange_factors
Bytes-lagrange_factors xs x = Bytes-factors_after [] xs x

-- the value elsewhere is the sum of the given values, each times the factor of its place
pub value_of-coefficients_of : (xs ys : List ℕ) (x : ℕ) → length xs ≡ length ys
    → value_of (coefficients_of xs ys) x ≡ dot_product (lagrange_factors xs x) ys
unfolding coefficients_of lagrange_factors
value_of-coefficients_of xs ys x h = value_of-lagrange_sum [] xs ys x h

length-unit_values : (n i : ℕ) → n ≡ length (unit_values n i)
length-unit_values n i = sym (length-set (replicate n 0) i 1 ∙ length-replicate n 0)

-- and the factor of a place is the value elsewhere for the unit values of that place
pub slice_index-lagrange_factors : (xs : List ℕ) (x i : ℕ) → i < length xs
    → slice_index (lagrange_factors xs x) i ≡ value_of (coefficients_of xs (unit_values (length xs) i)) x
slice_index-lagrange_factors xs x i l =
    let factors = lagrange_factors xs x in
    sym (dot_product-unit_values factors (length xs) i (length-lagrange_factors xs x) l (Bytes-lagrange_factors xs x))
    ∙ sym (value_of-coefficients_of xs (unit_values (length xs) i) x (length-unit_values (length xs) i))

-- ---- one factor, as the program finds it

factors_after-at : (before after : List ℕ) (x i : ℕ) → i < length after
    → slice_index (factors_after before after x) i
    ≡ value_of (lagrange_basis ((before ++ take i after) ++ drop (suc i) after) (slice_index after i)) x
unfolding factors_after
factors_after-at before [] x i l = absurd (omega arith)
factors_after-at before (a ∷ after) x zero l =
    ap (λ b. value_of (lagrange_basis (b ++ after) a) x) (sym (append-nil before))
factors_after-at before (a ∷ after) x (suc i) l =
    factors_after-at (before ++ a ∷ []) after x i (omega arith)
    ∙ ap (λ b. value_of (lagrange_basis (b ++ drop (suc i) after) (slice_index after i)) x)
    (append_assoc before (a ∷ []) (take i after))

pub lagrange_factors-at : (xs : List ℕ) (x i : ℕ) → i < length xs
    → slice_index (lagrange_factors xs x) i
    ≡ times (inverse_of (value_of (from_roots (take i xs ++ drop (i + 1) xs)) (slice_index xs i)))
    (value_of (from_roots (take i xs ++ drop (i + 1) xs)) x)
unfolding lagrange_factors
lagrange_factors-at xs x i l =
    factors_after-at [] xs x i l
    ∙ ap (λ k. value_of (lagrange_basis (take i xs ++ drop k xs) (slice_index xs i)) x) (sym (add-one i))
    ∙ value_of-lagrange_basis (take i xs ++ drop (i + 1) xs) (slice_index xs i) x

-- its divisor is not 0
pub others_not_zero : (xs : List ℕ) (i : ℕ) → i < length xs → AreBytes xs → AreDistinct xs
    → value_of (from_roots (take i xs ++ drop (i + 1) xs)) (slice_index xs i) ≢ 0
others_not_zero xs i l places apart =
    let front = take i xs in
    let back = drop (i + 1) xs in
    let own = slice_index xs i in
    let whole : xs ≡ front ++ own ∷ back = sym (take-append-drop i xs) ∙ ap (λ r. front ++ r) (drop_more xs i 0 l) in
    let bytes = subst Bytes whole (AreBytes-Bytes xs places) in
    let different = subst AreApart whole (AreDistinct-AreApart xs apart) in
    let last = Bytes_right front (own ∷ back) bytes in
    let others = Bytes-append front back (Bytes_left front (own ∷ back) bytes) last.1 in
    not_zero_elsewhere (front ++ back) own last.0 others (absent_from_others front own back different)

-- what `inv` returns is the inverse
pub is_inverse_of : (a b : ℕ) → a < 256 → a ≢ 0 → b < 256 → times a b ≡ 1 → b ≡ inverse_of a
is_inverse_of a b l h m e = times_cancel a b (inverse_of a) l h m (inverse_of-lt a) (e ∙ sym (times-inverse_of a l h))

-- ---- values at other places

-- interpolation of the values of as many coefficients as places gives the coefficients back
pub coefficients_of-values : (c xs : List ℕ) → AreBytes c → AreBytes xs → length c ≡ length xs → AreDistinct xs
    → coefficients_of xs (map (value_of c) xs) ≡ c
coefficients_of-values c xs bytes places same apart =
    let ys = map (value_of c) xs in
    let values = Bytes-AreBytes ys (Bytes-values c xs) in
    let only = (coefficients_of-IsOnlyFit xs ys places values (sym (length-map xs (value_of c))) apart).only in
    sym (only c (record { as_many = same; bytes = bytes; fits = refl }))
  where
    Bytes-values : (c xs : List ℕ) → Bytes (map (value_of c) xs)
    Bytes-values c [] = tt
    Bytes-values c (x ∷ xs) = (value_of-lt c x, Bytes-values c xs)

-- rows, added up with the factors of their places, are at each place of the rows what interpolation of the column gives
pub slice_index-interpolated_rows : (xs : List ℕ) (rows : List (List ℕ)) (n x k : ℕ) → length xs ≡ length rows
    → All (λ row. length row ≡ n) rows
    → slice_index (add_multiples (replicate n 0) (lagrange_factors xs x) rows) k
    ≡ value_of (coefficients_of xs (column_of rows k)) x
slice_index-interpolated_rows xs rows n x k same long =
    slice_index-add_multiples (replicate n 0) (lagrange_factors xs x) rows k
    (λ i d l. long i d l ∙ sym (length-replicate n 0))
    ∙ ap (λ b. bit_xor b (dot_product (lagrange_factors xs x) (column_of rows k))) (slice_index-zeros n k)
    ∙ sym (value_of-coefficients_of xs (column_of rows k) x (same ∙ sym (length-map rows (λ row. slice_index row k))))

-- numbers that interpolation gives for the unit values of each place are the factors
pub same_factors : (xs : List ℕ) (x : ℕ) (fs : List ℕ) → length fs ≡ length xs
    → ((i : ℕ) → i < length xs → slice_index fs i ≡ value_of (coefficients_of xs (unit_values (length xs) i)) x)
    → fs ≡ lagrange_factors xs x
same_factors xs x fs long each =
    ext_get_or 0 fs (lagrange_factors xs x) (long ∙ sym (length-lagrange_factors xs x))
    (λ i l. let inside : i < length xs = omega arith in each i inside ∙ sym (slice_index-lagrange_factors xs x i inside))

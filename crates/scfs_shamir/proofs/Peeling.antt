-- The coefficients of a polynomial one after the other: its value at 0 is the constant one, and what is left of it is x
-- times the polynomial of the others.
use Rattle.std.proofs.Common.{◌≡◌, ℕ, zero, suc, ◌<◌, ◌≢◌, List, [], ◌∷◌, ◌++◌, length, map, take}
use Rattle.std.proofs.Common.{get_or, refl, sym, subst, ap, ap₂, ◌∙◌, arith}
use Rattle.std.specs.List.{All}
use Rattle.std.specs.Int.Bits.{bit_xor, xor_assoc, xor_comm, xor_zero_r, xor_self}
use Rattle.std.proofs.lemmas.List.{get_or-map, get_or-take, length-map, length-append}
use Rattle.std.proofs.lemmas.Grind.{same_number_lists}
use Rattle.scfs_gf256.specs.Field.{times}
use Rattle.scfs_gf256.specs.Polynomials.{value_of, AreBytes, AreDistinct, IsFit, IsOnlyFit}
use Rattle.scfs_gf256.specs.Interpolation.{coefficients_of}
use Rattle.scfs_gf256.proofs.Bytes.{Bytes, AreBytes-Bytes, Bytes-AreBytes, Bytes-append}
use Rattle.scfs_gf256.proofs.Fitting.{coefficients_of-IsOnlyFit, coefficients_of-values}
use Rattle.scfs_gf256.proofs.Powers.{times_cancel}
use Rattle.scfs_gf256.proofs.Times.{times_assoc, times_comm, times-one, times-zero}
use Rattle.scfs_gf256.proofs.Values.{value_of-lt, value_of-nil, value_of-cons, value_of-at_zero}

-- x times (a times the inverse of x) is a
pub quotient_times : (x a i : ℕ) → a < 256 → times x i ≡ 1 → times x (times a i) ≡ a
quotient_times x a i l e =
    ap (times x) (times_comm a i) ∙ sym (times_assoc x i a) ∙ ap (λ v. times v a) e ∙ times_comm 1 a ∙ times-one a l

-- a sum less its first term is the second
taken_away : (c t : ℕ) → bit_xor (bit_xor c t) c ≡ t
taken_away c t =
    ap (λ v. bit_xor v c) (xor_comm c t) ∙ xor_assoc t c c ∙ ap (bit_xor t) (xor_self c) ∙ xor_zero_r t

-- q is the quotient of the value v of a polynomial, less its constant coefficient c, and the place x
pub quotient_is : (x v c q w : ℕ) → x < 256 → x ≢ 0 → q < 256 → w < 256 → v ≡ bit_xor c (times x w)
    → times x q ≡ bit_xor v c → w ≡ q
quotient_is x v c q w place nonzero small below value divides =
    times_cancel x w q place nonzero below small
    (sym (divides ∙ ap (λ u. bit_xor u c) value ∙ taken_away c (times x w)))

-- the quotients of values ys and a constant at the places xs
pub record AreQuotients (xs ys : List ℕ) (constant : ℕ) (qs : List ℕ) : Type 0 where
  pub long : length qs ≡ length xs
  pub bytes : AreBytes qs
  pub each : (k : ℕ) → k < length xs → times (get_or xs k 0) (get_or qs k 0) ≡ bit_xor (get_or ys k 0) constant

-- places to divide by
pub record ArePlaces (xs : List ℕ) : Type 0 where
  pub bytes : AreBytes xs
  pub nonzero : All (λ x. x ≢ 0) xs
  pub distinct : AreDistinct xs

-- the quotients are values of the polynomial of the other coefficients
pub fit_of_quotients : (xs ys qs rest : List ℕ) (c : ℕ) → c < 256 → ArePlaces xs → AreBytes rest
    → length rest ≡ length xs → map (value_of (c ∷ rest)) xs ≡ ys → AreQuotients xs ys c qs → IsFit rest xs qs
fit_of_quotients xs ys qs rest c byte places bytes as_many values quotients = record {
  as_many = as_many;
  bytes = bytes;
  fits = same_number_lists (map (value_of rest) xs) qs (length-map xs (value_of rest) ∙ sym quotients.long) each;
}
  where
    each : (k : ℕ) → k < length (map (value_of rest) xs) → get_or (map (value_of rest) xs) k 0 ≡ get_or qs k 0
    each k l =
        let same = length-map xs (value_of rest) in
        let inside : k < length xs = omega arith in
        let within : k < length qs = omega (arith, quotients.long) in
        let x = get_or xs k 0 in
        let value : get_or ys k 0 ≡ value_of (c ∷ rest) x =
        ap (λ l. get_or l k 0) (sym values) ∙ get_or-map (value_of (c ∷ rest)) xs k 0 0 inside in
        get_or-map (value_of rest) xs k 0 0 inside
        ∙ quotient_is x (get_or ys k 0) c (get_or qs k 0) (value_of rest x) (places.bytes k 0 inside)
        (places.nonzero k 0 inside) (quotients.bytes k 0 within) (value_of-lt rest x)
        (value ∙ value_of-cons c rest x byte) (quotients.each k inside)

-- a highest coefficient of 0 changes no value
value_of-padded : (cs : List ℕ) (x : ℕ) → Bytes cs → value_of (cs ++ 0 ∷ []) x ≡ value_of cs x
value_of-padded [] x h =
    value_of-cons 0 [] x (omega arith)
    ∙ ap (λ v. bit_xor 0 (times x v)) (value_of-nil x)
    ∙ ap (bit_xor 0) (times-zero x)
    ∙ xor_zero_r 0
    ∙ sym (value_of-nil x)
value_of-padded (c ∷ cs) x h =
    value_of-cons c (cs ++ 0 ∷ []) x h.0
    ∙ ap (λ v. bit_xor c (times x v)) (value_of-padded cs x h.1)
    ∙ sym (value_of-cons c cs x h.0)

values-padded : (cs xs : List ℕ) → Bytes cs → map (value_of (cs ++ 0 ∷ [])) xs ≡ map (value_of cs) xs
values-padded cs [] h = refl
values-padded cs (x ∷ xs) h = ap₂ ◌∷◌ (value_of-padded cs x h) (values-padded cs xs h)

-- the coefficients after the constant one, with as many kept
abbrev pub shifted : List ℕ → List ℕ
shifted [] = 0 ∷ []
shifted (c ∷ cs) = cs ++ 0 ∷ []

get_or-padded : (cs : List ℕ) (k : ℕ) → get_or (cs ++ 0 ∷ []) k 0 ≡ get_or cs k 0
get_or-padded [] zero = refl
get_or-padded [] (suc k) = refl
get_or-padded (c ∷ cs) zero = refl
get_or-padded (c ∷ cs) (suc k) = get_or-padded cs k

pub get_or-shifted : (d : List ℕ) (k : ℕ) → get_or (shifted d) k 0 ≡ get_or d (suc k) 0
get_or-shifted [] zero = refl
get_or-shifted [] (suc k) = refl
get_or-shifted (c ∷ cs) k = get_or-padded cs k

-- interpolation at 0 gives the constant coefficient
pub constant_of : (d xs ys : List ℕ) → ArePlaces xs → 0 < length xs → IsFit d xs ys
    → value_of (coefficients_of xs ys) 0 ≡ get_or d 0 0
constant_of [] xs ys places some fit = let none = fit.as_many in absurd (omega arith)
constant_of (c ∷ cs) xs ys places some fit =
    ap (λ l. value_of (coefficients_of xs l) 0) (sym fit.fits)
    ∙ ap (λ d. value_of d 0) (coefficients_of-values (c ∷ cs) xs fit.bytes places.bytes fit.as_many places.distinct)
    ∙ value_of-at_zero c cs (AreBytes-Bytes (c ∷ cs) fit.bytes).0

-- and the quotients are values of the others
pub next_fit : (d xs ys qs : List ℕ) (c : ℕ) → ArePlaces xs → 0 < length xs → IsFit d xs ys → c ≡ get_or d 0 0
    → AreQuotients xs ys c qs → IsFit (shifted d) xs qs
next_fit [] xs ys qs c places some fit is quotients = let none = fit.as_many in absurd (omega arith)
next_fit (e ∷ cs) xs ys qs c places some fit is quotients =
    let bytes = AreBytes-Bytes (e ∷ cs) fit.bytes in
    let many = fit.as_many in
    let rest = cs ++ 0 ∷ [] in
    let small : c < 256 = omega (arith, bytes.0, is) in
    fit_of_quotients xs ys qs rest c small places
    (Bytes-AreBytes rest (Bytes-append cs (0 ∷ []) bytes.1 (omega arith, tt)))
    (length-append cs (0 ∷ []) ∙ (omega (arith, many)))
    (ap (λ v. map (value_of (v ∷ rest)) xs) is ∙ values-padded (e ∷ cs) xs bytes ∙ fit.fits)
    quotients

Bytes-values : (c xs : List ℕ) → Bytes (map (value_of c) xs)
Bytes-values c [] = tt
Bytes-values c (x ∷ xs) = (value_of-lt c x, Bytes-values c xs)

-- the first of the computed quotients, whose polynomial was interpolated
pub quotients_taken : (xs ys made c : List ℕ) (constant : ℕ) → IsOnlyFit c xs (take (length xs) made)
    → ((k : ℕ) → k < length xs → times (get_or xs k 0) (get_or made k 0) ≡ bit_xor (get_or ys k 0) constant)
    → AreQuotients xs ys constant (take (length xs) made)
quotients_taken xs ys made c constant fit each = record {
  long = sym (ap length fit.fit.fits) ∙ length-map xs (value_of c);
  bytes = subst AreBytes fit.fit.fits (Bytes-AreBytes (map (value_of c) xs) (Bytes-values c xs));
  each = λ k l. ap (times (get_or xs k 0)) (get_or-take (length xs) made k 0 l) ∙ each k l;
}

pub heads : (x y : ℕ) (xs ys : List ℕ) → x ∷ xs ≡ y ∷ ys → (x ≡ y) × (xs ≡ ys)
heads x y xs ys e = (cc, cc)

-- three coefficients, one after the other
pub peeled : (xs ys first second third all : List ℕ) (key a b c : ℕ) → ArePlaces xs → 0 < length xs
    → IsFit all (0 ∷ xs) (key ∷ ys) → AreQuotients xs ys key first → a ≡ value_of (coefficients_of xs first) 0
    → AreQuotients xs first a second → b ≡ value_of (coefficients_of xs second) 0 → AreQuotients xs second b third
    → c ≡ value_of (coefficients_of xs third) 0
    → a ∷ b ∷ c ∷ [] ≡ get_or all 1 0 ∷ get_or all 2 0 ∷ get_or all 3 0 ∷ []
peeled xs ys first second third [] key a b c places some fit q1 e1 q2 e2 q3 e3 =
    let none = fit.as_many in absurd (omega arith)
peeled xs ys first second third (d ∷ ds) key a b c places some fit q1 e1 q2 e2 q3 e3 =
    let bytes = AreBytes-Bytes (d ∷ ds) fit.bytes in
    let parts = heads (value_of (d ∷ ds) 0) key (map (value_of (d ∷ ds)) xs) ys fit.fits in
    let is : d ≡ key = sym (value_of-at_zero d ds bytes.0) ∙ parts.0 in
    let small : key < 256 = omega (arith, bytes.0, is) in
    let many = fit.as_many in
    let as_many : length ds ≡ length xs = omega (arith, many) in
    let values = ap (λ v. map (value_of (v ∷ ds)) xs) (sym is) ∙ parts.1 in
    let fit1 = fit_of_quotients xs ys first ds key small places (Bytes-AreBytes ds bytes.1) as_many values q1 in
    let a_is = e1 ∙ constant_of ds xs first places some fit1 in
    let fit2 = next_fit ds xs first second a places some fit1 a_is q2 in
    let b_is = e2 ∙ constant_of (shifted ds) xs second places some fit2 in
    let fit3 = next_fit (shifted ds) xs second third b places some fit2 b_is q3 in
    let c_is = e3 ∙ constant_of (shifted (shifted ds)) xs third places some fit3 in
    ap₂ ◌∷◌ a_is
    (ap₂ ◌∷◌ (b_is ∙ get_or-shifted ds 0)
    (ap (λ (v : ℕ). v ∷ []) (c_is ∙ get_or-shifted (shifted ds) 0 ∙ get_or-shifted ds 1)))

-- ---- the place 0 in front

bytes_with : (x : ℕ) (xs : List ℕ) → x < 256 → AreBytes xs → AreBytes (x ∷ xs)
bytes_with x xs h hs zero d l = h
bytes_with x xs h hs (suc k) d l = hs k d (omega arith)

distinct_with_zero : (xs : List ℕ) → All (λ x. x ≢ 0) xs → AreDistinct xs → AreDistinct (0 ∷ xs)
distinct_with_zero xs nonzero distinct zero zero d l m = absurd (omega arith)
distinct_with_zero xs nonzero distinct zero (suc j) d l m = λ e. nonzero j d (omega arith) (sym e)
distinct_with_zero xs nonzero distinct (suc i) zero d l m = absurd (omega arith)
distinct_with_zero xs nonzero distinct (suc i) (suc j) d l m = distinct i j d (omega arith) (omega arith)

-- one polynomial has a value at 0 and values at such places
pub fit_with_zero : (xs ys : List ℕ) (y : ℕ) → ArePlaces xs → AreBytes ys → y < 256 → length xs ≡ length ys
    → IsOnlyFit (coefficients_of (0 ∷ xs) (y ∷ ys)) (0 ∷ xs) (y ∷ ys)
fit_with_zero xs ys y places values value same =
    coefficients_of-IsOnlyFit (0 ∷ xs) (y ∷ ys) (bytes_with 0 xs (omega arith) places.bytes)
    (bytes_with y ys value values) (ap suc same) (distinct_with_zero xs places.nonzero places.distinct)

-- the same at equal places and values
pub fit_at : (xs places ys values : List ℕ) (y : ℕ) → xs ≡ places → ys ≡ values
    → IsOnlyFit (coefficients_of (0 ∷ xs) (y ∷ ys)) (0 ∷ xs) (y ∷ ys)
    → IsOnlyFit (coefficients_of (0 ∷ places) (y ∷ values)) (0 ∷ places) (y ∷ values)
fit_at xs places ys values y same_places same_values fit =
    let at_places : List ℕ → Type 0 = λ l. IsOnlyFit (coefficients_of (0 ∷ l) (y ∷ values)) (0 ∷ l) (y ∷ values) in
    let at_values : List ℕ → Type 0 = λ l. IsOnlyFit (coefficients_of (0 ∷ xs) (y ∷ l)) (0 ∷ xs) (y ∷ l) in
    subst at_places same_places (subst at_values same_values fit)

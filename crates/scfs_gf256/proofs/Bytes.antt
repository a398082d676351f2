-- Lists of bytes and lists of different numbers, by recursion, for proofs by induction.
use Rattle.std.proofs.Common.{◌≡◌, ℕ, zero, suc, ◌<◌, ◌≢◌, List, [], ◌∷◌, ◌++◌, length, replicate, get_or, refl, sym}
use Rattle.std.proofs.Common.{ap, arith}
use Rattle.std.specs.Int.Bits.{bit_xor, xor_lt}
use Rattle.scfs_gf256.specs.Rows.{row_sum, scaled}
use Rattle.scfs_gf256.specs.Polynomials.{AreBytes, AreDistinct}
use Rattle.scfs_gf256.proofs.Times.{times-lt}

-- each number is below 256
abbrev pub Bytes : List ℕ → Type 0
Bytes [] = Unit {0}
Bytes (x ∷ xs) = (x < 256) × Bytes xs

pub AreBytes-Bytes : (xs : List ℕ) → AreBytes xs → Bytes xs
AreBytes-Bytes [] h = tt
AreBytes-Bytes (x ∷ xs) h = (h 0 0 (omega arith), AreBytes-Bytes xs (λ k d l. h (suc k) d (omega arith)))

pub Bytes-AreBytes : (xs : List ℕ) → Bytes xs → AreBytes xs
Bytes-AreBytes [] h k d l = absurd (omega arith)
Bytes-AreBytes (x ∷ xs) h zero d l = h.0
Bytes-AreBytes (x ∷ xs) h (suc k) d l = Bytes-AreBytes xs h.1 k d (omega arith)

-- what a slice of bytes is known to hold
pub Bytes_from_places : (xs : List ℕ) → ((k : ℕ) → k < length xs → get_or xs k 0 < 256) → Bytes xs
Bytes_from_places [] h = tt
Bytes_from_places (x ∷ xs) h = (h 0 (omega arith), Bytes_from_places xs (λ k l. h (suc k) (omega arith)))

pub Bytes-append : (xs ys : List ℕ) → Bytes xs → Bytes ys → Bytes (xs ++ ys)
Bytes-append [] ys h k = k
Bytes-append (x ∷ xs) ys h k = (h.0, Bytes-append xs ys h.1 k)

pub Bytes_left : (xs ys : List ℕ) → Bytes (xs ++ ys) → Bytes xs
Bytes_left [] ys h = tt
Bytes_left (x ∷ xs) ys h = (h.0, Bytes_left xs ys h.1)

pub Bytes_right : (xs ys : List ℕ) → Bytes (xs ++ ys) → Bytes ys
Bytes_right [] ys h = h
Bytes_right (x ∷ xs) ys h = Bytes_right xs ys h.1

pub Bytes-replicate : (n : ℕ) → Bytes (replicate n 0)
Bytes-replicate zero = tt
Bytes-replicate (suc n) = (omega arith, Bytes-replicate n)

pub xor-byte : (a b : ℕ) → a < 256 → b < 256 → bit_xor a b < 256
xor-byte a b l m = xor_lt 8 a b l m

pub Bytes-row_sum : (xs ys : List ℕ) → Bytes xs → Bytes ys → Bytes (row_sum xs ys)
Bytes-row_sum [] ys h k = tt
Bytes-row_sum (a ∷ xs) [] h k = tt
Bytes-row_sum (a ∷ xs) (b ∷ ys) h k = (xor-byte a b h.0 k.0, Bytes-row_sum xs ys h.1 k.1)

pub Bytes-scaled : (f : ℕ) (ys : List ℕ) → Bytes (scaled f ys)
Bytes-scaled f [] = tt
Bytes-scaled f (b ∷ ys) = (times-lt f b, Bytes-scaled f ys)

pub length-row_sum : (xs ys : List ℕ) → length xs ≡ length ys → length (row_sum xs ys) ≡ length xs
length-row_sum [] ys h = refl
length-row_sum (a ∷ xs) [] h = cc
length-row_sum (a ∷ xs) (b ∷ ys) h = ap suc (length-row_sum xs ys (omega arith))

-- x is not in the list
abbrev pub IsAbsent : ℕ → List ℕ → Type 0
IsAbsent x [] = Unit {0}
IsAbsent x (y ∷ ys) = (x ≢ y) × IsAbsent x ys

-- no number is in the list twice
abbrev pub AreApart : List ℕ → Type 0
AreApart [] = Unit {0}
AreApart (x ∷ xs) = IsAbsent x xs × AreApart xs

absent_from_places : (x : ℕ) (ys : List ℕ) → ((k : ℕ) → k < length ys → x ≢ get_or ys k 0) → IsAbsent x ys
absent_from_places x [] h = tt
absent_from_places x (y ∷ ys) h = (h 0 (omega arith), absent_from_places x ys (λ k l. h (suc k) (omega arith)))

pub AreDistinct-AreApart : (xs : List ℕ) → AreDistinct xs → AreApart xs
AreDistinct-AreApart [] h = tt
AreDistinct-AreApart (x ∷ xs) h = (
  absent_from_places x xs (λ k l. h 0 (suc k) 0 (omega arith) (omega arith)),
  AreDistinct-AreApart xs (λ i j d l m. h (suc i) (suc j) d (omega arith) (omega arith)),
)

absent_later : (y x : ℕ) (before after : List ℕ) → IsAbsent y (before ++ x ∷ after)
    → (x ≢ y) × IsAbsent y (before ++ after)
absent_later y x [] after h = (λ e. h.0 (sym e), h.1)
absent_later y x (b ∷ before) after h = let rest = absent_later y x before after h.1 in (rest.0, (h.0, rest.1))

-- each number of such a list is absent from the others
pub absent_from_others : (before : List ℕ) (x : ℕ) (after : List ℕ) → AreApart (before ++ x ∷ after)
    → IsAbsent x (before ++ after)
absent_from_others [] x after h = h.0
absent_from_others (b ∷ before) x after h =
    ((absent_later b x before after h.0).0, absent_from_others before x after h.1)

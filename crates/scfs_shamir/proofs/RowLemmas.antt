-- Rows of 32 bytes, and lists of bytes.
use Rattle.std.proofs.Common.{◌≡◌, ℕ, zero, suc, ◌<◌, List, [], ◌∷◌, length, take, replicate, get_or, sym}
use Rattle.std.proofs.Common.{◌∙◌, arith}
use Rattle.std.specs.List.{All}
use Rattle.std.proofs.lemmas.List.{length-replicate, get_or-replicate}
use Rattle.std.proofs.lemmas.List.FromFn.{fill_by_all, get_or-map-range_with_len, length-map-range_with_len}
use Rattle.scfs_gf256.specs.Rows.{column_of}
use Rattle.scfs_gf256.proofs.Bytes.{Bytes}
use Rattle.scfs_shamir.specs.Shares.{each_byte}
use Rattle.scfs_shamir.specs.Recovery.{IsRow}

-- a row is what a rule gives if it is so at each place
pub each_byte_from : (rule : ℕ → ℕ) (row : List ℕ) → length row ≡ 32
    → ((k : ℕ) → k < 32 → get_or row k 0 ≡ rule k) → row ≡ each_byte rule
unfolding each_byte
each_byte_from rule row long each = fill_by_all rule row 32 0 long each

pub get_or-each_byte : (rule : ℕ → ℕ) (k d : ℕ) → k < 32 → get_or (each_byte rule) k d ≡ rule k
unfolding each_byte
get_or-each_byte rule k d l = get_or-map-range_with_len rule 0 32 k k d l (omega arith)

pub length-each_byte : (rule : ℕ → ℕ) → length (each_byte rule) ≡ 32
unfolding each_byte
length-each_byte rule = length-map-range_with_len rule 0 32

pub IsRow-each_byte : (rule : ℕ → ℕ) → ((k : ℕ) → k < 32 → rule k < 256) → IsRow (each_byte rule)
IsRow-each_byte rule small = record {
  long = length-each_byte rule;
  bytes = λ k d l.
      let inside : k < 32 = omega (arith, length-each_byte rule) in
      omega (arith, get_or-each_byte rule k d inside, small k inside);
}

pub each_byte-zero : (rule : ℕ → ℕ) → ((k : ℕ) → k < 32 → rule k ≡ 0) → each_byte rule ≡ replicate 32 0
each_byte-zero rule none =
    sym (each_byte_from rule (replicate 32 0) (length-replicate {A = ℕ} 32 0)
    (λ k l. get_or-replicate 32 k 0 0 l ∙ sym (none k l)))

-- ---- lists of bytes

pub Bytes-take : (n : ℕ) (xs : List ℕ) → Bytes xs → Bytes (take n xs)
Bytes-take zero [] h = tt
Bytes-take zero (x ∷ xs) h = tt
Bytes-take (suc n) [] h = tt
Bytes-take (suc n) (x ∷ xs) h = (h.0, Bytes-take n xs h.1)

pub get_or-byte : (xs : List ℕ) (k : ℕ) → Bytes xs → get_or xs k 0 < 256
get_or-byte [] k h = omega arith
get_or-byte (x ∷ xs) zero h = h.0
get_or-byte (x ∷ xs) (suc k) h = get_or-byte xs k h.1

-- a place of several rows
pub Bytes-column_of : (rows : List (List ℕ)) (k : ℕ) → k < 32 → All IsRow rows → Bytes (column_of rows k)
Bytes-column_of [] k l h = tt
Bytes-column_of (row ∷ rows) k l h =
    let first = h 0 row (omega arith) in (
      first.bytes k 0 (omega (arith, first.long)),
      Bytes-column_of rows k l (λ i d m. h (suc i) d (omega arith)),
    )

-- ---- facts about each of some

pub All-nil : {X : Type 0} (P : X → Type 0) → All P []
All-nil P k d l = absurd (omega arith)

pub All-cons : {X : Type 0} (P : X → Type 0) (x : X) (xs : List X) → P x → All P xs → All P (x ∷ xs)
All-cons P x xs h hs zero d l = h
All-cons P x xs h hs (suc k) d l = hs k d (omega arith)

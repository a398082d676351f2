-- Facts about the stream and what is encrypted with it.
use Rattle.std.proofs.Common.{◌≡◌, ℕ, zero, suc, ◌+◌, ◌*◌, ◌/◌, ◌%◌, ◌<◌, ◌≤◌, ◌-◌, List, ◌∷◌, length, get_or, take, drop, map, replicate, refl, ap, sym, ◌∙◌, arith, w32}
use Rattle.std.specs.Prelude.{bit_xor}
use Rattle.std.specs.Int.{byte_at, to_le_bytes}
use Rattle.std.specs.List.{range_with_len, flat_map}
use Rattle.std.specs.Int.Bits.{xor_assoc, xor_self, xor_zero_l, xor_zero_r}
use Rattle.std.proofs.lemmas.Grind.{same_number_lists}
use Rattle.std.proofs.lemmas.List.{length-drop, length-take-le, length-replicate, get_or-drop, get_or-take, get_or-replicate}
use Rattle.std.proofs.lemmas.List.FromFn.{length-map-range_with_len, get_or-map-range_with_len}
use Rattle.std.proofs.lemmas.Simd.{length-zip2, get_or-zip2}
use Rattle.scfs_stream.specs.Stream.{stream_word, stream_byte, stream_part, stream, ciphered}

-- a word's bytes are the stream's
pub byte_of_word : (key : List ℕ) (p j : ℕ) → j < 4
    → get_or (to_le_bytes w32 (stream_word key p)) j 0 ≡ stream_byte key (4 * p + j)
unfolding stream_byte
byte_of_word key p j in_word =
    let word : (4 * p + j) / 4 ≡ p = omega arith in
    let place : (4 * p + j) % 4 ≡ j = omega arith in
    rw (word, place) (by_place j in_word)
  where
    by_place : (j : ℕ) → j < 4 → get_or (to_le_bytes w32 (stream_word key p)) j 0 ≡ byte_at j (stream_word key p)
    by_place zero h = refl
    by_place (suc zero) h = refl
    by_place (suc (suc zero)) h = refl
    by_place (suc (suc (suc zero))) h = refl
    by_place (suc (suc (suc (suc n)))) h = absurd (omega arith)

pub length-stream_part : (key : List ℕ) (from n : ℕ) → length (stream_part key from n) ≡ n
unfolding stream_part
length-stream_part key from n = length-map-range_with_len (stream_byte key) from n

pub get_or-stream_part : (key : List ℕ) (from n k : ℕ) → k < n
    → get_or (stream_part key from n) k 0 ≡ stream_byte key (from + k)
unfolding stream_part
get_or-stream_part key from n k within = get_or-map-range_with_len (stream_byte key) from n k (from + k) 0 within refl

pub get_or-stream : (key : List ℕ) (n k : ℕ) → k < n → get_or (stream key n) k 0 ≡ stream_byte key k
unfolding stream_part
get_or-stream key n k within = get_or-map-range_with_len (stream_byte key) 0 n k k 0 within (omega arith)

-- a part of a part
pub part_of_stream : (key : List ℕ) (from n m : ℕ) → from + m ≤ n
    → take m (drop from (stream key n)) ≡ stream_part key from m
part_of_stream key from n m fits =
    let drops : length (drop from (stream key n)) ≡ n - from =
    length-drop from (stream key n) ∙ ap (λ k. k - from) (length-stream_part key 0 n) in
    let takes : length (take m (drop from (stream key n))) ≡ m =
    length-take-le m (drop from (stream key n)) (omega arith) in
    same_number_lists (take m (drop from (stream key n))) (stream_part key from m)
    (takes ∙ sym (length-stream_part key from m)) (λ k below.
    let within : k < m = omega arith in
    get_or-take m (drop from (stream key n)) k 0 within
    ∙ get_or-drop from (stream key n) k 0
    ∙ get_or-stream key n (from + k) (omega arith)
    ∙ sym (get_or-stream_part key from m k within))

pub length-ciphered : (key bytes : List ℕ) → length (ciphered key bytes) ≡ length bytes
length-ciphered key bytes =
    length-zip2 bit_xor bytes (stream key (length bytes)) (sym (length-stream_part key 0 (length bytes)))

pub get_or-ciphered : (key bytes : List ℕ) (k : ℕ) → k < length bytes
    → get_or (ciphered key bytes) k 0 ≡ bit_xor (get_or bytes k 0) (stream_byte key k)
get_or-ciphered key bytes k below =
    get_or-zip2 bit_xor bytes (stream key (length bytes)) k 0 0 0 below
    (omega (arith, length-stream_part key 0 (length bytes)))
    ∙ ap (bit_xor (get_or bytes k 0)) (get_or-stream key (length bytes) k below)

-- what is encrypted twice is what it was
pub ciphered-ciphered : (key bytes : List ℕ) → ciphered key (ciphered key bytes) ≡ bytes
ciphered-ciphered key bytes =
    let long = length-ciphered key bytes in
    same_number_lists (ciphered key (ciphered key bytes)) bytes
    (length-ciphered key (ciphered key bytes) ∙ long) (λ k below.
    let within : k < length bytes =
    omega (arith, length-ciphered key (ciphered key bytes), length-ciphered key bytes) in
    get_or-ciphered key (ciphered key bytes) k (omega (arith, length-ciphered key bytes))
    ∙ ap (λ n. bit_xor n (stream_byte key k)) (get_or-ciphered key bytes k within)
    ∙ xor_assoc (get_or bytes k 0) (stream_byte key k) (stream_byte key k)
    ∙ ap (bit_xor (get_or bytes k 0)) (xor_self (stream_byte key k))
    ∙ xor_zero_r (get_or bytes k 0))

-- zeros are encrypted to the stream itself
pub ciphered-zeros : (key : List ℕ) (n : ℕ) → ciphered key (replicate n 0) ≡ stream key n
ciphered-zeros key n =
    let long : length (replicate n 0) ≡ n = length-replicate n 0 in
    same_number_lists (ciphered key (replicate n 0)) (stream key n)
    (length-ciphered key (replicate n 0) ∙ long ∙ sym (length-stream_part key 0 n)) (λ k below.
    let within : k < n = omega (arith, length-ciphered key (replicate n 0), long) in
    get_or-ciphered key (replicate n 0) k (omega (arith, long))
    ∙ ap (λ b. bit_xor b (stream_byte key k)) (get_or-replicate n k 0 0 within)
    ∙ xor_zero_l (stream_byte key k)
    ∙ sym (get_or-stream key n k within))

four_in_front : (a b c d a' b' c' d' : ℕ) (rest rest' : List ℕ) → a ≡ a' → b ≡ b' → c ≡ c' → d ≡ d' → rest ≡ rest'
    → a ∷ b ∷ c ∷ d ∷ rest ≡ a' ∷ b' ∷ c' ∷ d' ∷ rest'
four_in_front a b c d a' b' c' d' rest rest' first second third fourth others = cc

at_byte : (key : List ℕ) (p j i : ℕ) → j < 4 → 4 * p + j ≡ i
    → stream_byte key i ≡ get_or (to_le_bytes w32 (stream_word key p)) j 0
at_byte key p j i in_word place = sym (byte_of_word key p j in_word ∙ ap (stream_byte key) place)

-- the bytes of the words from a place on
words_from : (key : List ℕ) (p n : ℕ) → map (stream_byte key) (range_with_len (4 * p) (4 * n))
    ≡ flat_map (λ place. to_le_bytes w32 (stream_word key place)) (range_with_len p n)
words_from key p zero = refl
words_from key p (suc n) =
    let more : 4 * suc n ≡ suc (suc (suc (suc (4 * n)))) = omega arith in
    let next : 4 * p + 1 + 1 + 1 + 1 ≡ 4 * (p + 1) = omega arith in
    ap (λ m. map (stream_byte key) (range_with_len (4 * p) m)) more
    ∙ four_in_front _ _ _ _ _ _ _ _ _ _
    (at_byte key p 0 (4 * p) (omega arith) (omega arith)) (at_byte key p 1 (4 * p + 1) (omega arith) (omega arith))
    (at_byte key p 2 (4 * p + 1 + 1) (omega arith) (omega arith))
    (at_byte key p 3 (4 * p + 1 + 1 + 1) (omega arith) (omega arith))
    (ap (λ from. map (stream_byte key) (range_with_len from (4 * n))) next ∙ words_from key (p + 1) n)

pub stream_is_words : (key : List ℕ) (n : ℕ)
    → stream key (4 * n) ≡ flat_map (λ place. to_le_bytes w32 (stream_word key place)) (range_with_len 0 n)
unfolding stream_part
stream_is_words key n = words_from key 0 n

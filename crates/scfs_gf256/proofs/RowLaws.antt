-- Sums of rows, place by place, and dot products.
use Rattle.std.proofs.Common.{◌≡◌, ℕ, zero, suc, ◌+◌, ◌<◌, ◌≤◌, List, [], ◌∷◌, length, drop, replicate, get_or}
use Rattle.std.proofs.Common.{refl, sym, ap, ap₂, ◌∙◌, arith}
use Rattle.std.specs.Prelude.{slice_index}
use Rattle.std.specs.List.{All}
use Rattle.std.specs.Int.Bits.{bit_xor, xor_zero_r, xor_assoc}
use Rattle.scfs_gf256.specs.Field.{times}
use Rattle.scfs_gf256.specs.Rows.{row_sum, scaled, dot_product, add_multiples, column_of}
use Rattle.scfs_gf256.specs.Interpolation.{unit_values}
use Rattle.scfs_gf256.proofs.Times.{times-zero, times-one}
use Rattle.scfs_gf256.proofs.Bytes.{Bytes, length-row_sum}
use Rattle.std.proofs.lemmas.List.{length-map, drop_more, drop_all}

-- a byte of a sum of two rows
pub slice_index-row_sum : (xs ys : List ℕ) (k : ℕ) → length xs ≡ length ys
    → slice_index (row_sum xs ys) k ≡ bit_xor (slice_index xs k) (slice_index ys k)
slice_index-row_sum [] [] k h = refl
slice_index-row_sum [] (y ∷ ys) k h = cc
slice_index-row_sum (x ∷ xs) [] k h = cc
slice_index-row_sum (x ∷ xs) (y ∷ ys) zero h = refl
slice_index-row_sum (x ∷ xs) (y ∷ ys) (suc k) h = slice_index-row_sum xs ys k (omega arith)

-- a byte of a row times a factor
pub slice_index-scaled : (f : ℕ) (row : List ℕ) (k : ℕ) → slice_index (scaled f row) k ≡ times f (slice_index row k)
slice_index-scaled f [] k = sym (times-zero f)
slice_index-scaled f (x ∷ row) zero = refl
slice_index-scaled f (x ∷ row) (suc k) = slice_index-scaled f row k

length-with_row : (start row : List ℕ) (f : ℕ) → length row ≡ length start
    → length (row_sum start (scaled f row)) ≡ length start
length-with_row start row f h = length-row_sum start (scaled f row) (sym h ∙ sym (length-map row (times f)))

-- each place of a sum of rows is the dot product with the bytes at this place
pub slice_index-add_multiples : (start fs : List ℕ) (rows : List (List ℕ)) (k : ℕ)
    → All (λ row. length row ≡ length start) rows
    → slice_index (add_multiples start fs rows) k ≡ bit_xor (slice_index start k) (dot_product fs (column_of rows k))
slice_index-add_multiples start [] rows k h = sym (xor_zero_r (slice_index start k))
slice_index-add_multiples start (f ∷ fs) [] k h = sym (xor_zero_r (slice_index start k))
slice_index-add_multiples start (f ∷ fs) (row ∷ rows) k h =
    let same : length row ≡ length start = h 0 [] (omega arith) in
    slice_index-add_multiples (row_sum start (scaled f row)) fs rows k
    (λ i d l. h (suc i) d (omega arith) ∙ sym (length-with_row start row f same))
    ∙ ap (λ b. bit_xor b (dot_product fs (column_of rows k)))
    (slice_index-row_sum start (scaled f row) k (sym same ∙ sym (length-map row (times f)))
    ∙ ap (bit_xor (slice_index start k)) (slice_index-scaled f row k))
    ∙ xor_assoc (slice_index start k) (times f (slice_index row k)) (dot_product fs (column_of rows k))

pub length-add_multiples : (start fs : List ℕ) (rows : List (List ℕ)) → All (λ row. length row ≡ length start) rows
    → length (add_multiples start fs rows) ≡ length start
length-add_multiples start [] rows h = refl
length-add_multiples start (f ∷ fs) [] h = refl
length-add_multiples start (f ∷ fs) (row ∷ rows) h =
    let same : length row ≡ length start = h 0 [] (omega arith) in
    length-add_multiples (row_sum start (scaled f row)) fs rows
    (λ i d l. h (suc i) d (omega arith) ∙ sym (length-with_row start row f same))
    ∙ length-with_row start row f same

-- ---- dot products

dot_product-zeros : (fs : List ℕ) (n : ℕ) → dot_product fs (replicate n 0) ≡ 0
dot_product-zeros [] n = refl
dot_product-zeros (f ∷ fs) zero = refl
dot_product-zeros (f ∷ fs) (suc n) = ap₂ bit_xor (times-zero f) (dot_product-zeros fs n)

-- the dot product with unit values is the factor at their place
pub dot_product-unit_values : (fs : List ℕ) (n i : ℕ) → length fs ≡ n → i < n → Bytes fs
    → dot_product fs (unit_values n i) ≡ slice_index fs i
dot_product-unit_values [] n i h l b = absurd (omega arith)
dot_product-unit_values (f ∷ fs) zero i h l b = absurd (omega arith)
dot_product-unit_values (f ∷ fs) (suc n) zero h l b =
    ap₂ bit_xor (times-one f b.0) (dot_product-zeros fs n) ∙ xor_zero_r f
dot_product-unit_values (f ∷ fs) (suc n) (suc i) h l b =
    ap₂ bit_xor (times-zero f) (dot_product-unit_values fs n i (omega arith) (omega arith) b.1)

-- a dot product, one place at a time
pub dot_product-turn : (fs ys : List ℕ) (i value f y : ℕ) → i < length fs → i < length ys → f ≡ slice_index fs i
    → y ≡ slice_index ys i
    → bit_xor (bit_xor value (times f y)) (dot_product (drop (i + 1) fs) (drop (i + 1) ys))
    ≡ bit_xor value (dot_product (drop i fs) (drop i ys))
dot_product-turn fs ys i value f y l m e g =
    xor_assoc value (times f y) (dot_product (drop (i + 1) fs) (drop (i + 1) ys))
    ∙ ap (bit_xor value)
    (ap (λ z. bit_xor z (dot_product (drop (i + 1) fs) (drop (i + 1) ys))) (ap₂ times e g)
    ∙ sym (ap₂ dot_product (drop_more fs i 0 l) (drop_more ys i 0 m)))

pub dot_product-end : (fs ys : List ℕ) (i value : ℕ) → length ys ≤ i
    → value ≡ bit_xor value (dot_product (drop i fs) (drop i ys))
dot_product-end fs ys i value l =
    sym (ap (λ ys. bit_xor value (dot_product (drop i fs) ys)) (drop_all i ys l)
    ∙ ap (bit_xor value) (dot_product-none (drop i fs)) ∙ xor_zero_r value)
  where
    dot_product-none : (fs : List ℕ) → dot_product fs [] ≡ 0
    dot_product-none [] = refl
    dot_product-none (f ∷ fs) = refl

-- ---- several rows, one after the other

pub slice_index-zeros : (n k : ℕ) → slice_index (replicate n 0) k ≡ 0
slice_index-zeros zero k = refl
slice_index-zeros (suc n) zero = refl
slice_index-zeros (suc n) (suc k) = slice_index-zeros n k

pub add_multiples-turn : (start fs : List ℕ) (rows : List (List ℕ)) (i f : ℕ) (row : List ℕ) → i < length fs
    → i < length rows → f ≡ slice_index fs i → row ≡ get_or rows i []
    → add_multiples (row_sum start (scaled f row)) (drop (i + 1) fs) (drop (i + 1) rows)
    ≡ add_multiples start (drop i fs) (drop i rows)
add_multiples-turn start fs rows i f row l m e g =
    ap₂ (λ (f : ℕ) (row : List ℕ). add_multiples (row_sum start (scaled f row)) (drop (i + 1) fs) (drop (i + 1) rows)) e g
    ∙ sym (ap₂ (add_multiples start) (drop_more fs i 0 l) (drop_more rows i [] m))

pub add_multiples-end : (start fs : List ℕ) (rows : List (List ℕ)) (i : ℕ) → length fs ≤ i
    → add_multiples start (drop i fs) (drop i rows) ≡ start
add_multiples-end start fs rows i l = ap (λ fs. add_multiples start fs (drop i rows)) (drop_all i fs l)

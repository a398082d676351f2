-- Rows from other rows, through the polynomials of their columns.
use Rattle.std.proofs.Common.{◌≡◌, ℕ, ◌<◌, ◌≤◌, List, [], ◌∷◌, length, map, get_or, replicate}
use Rattle.std.proofs.Common.{sym, ap, ◌∙◌, arith}
use Rattle.std.specs.Prelude.{slice_index}
use Rattle.std.specs.List.{All}
use Rattle.std.proofs.lemmas.List.{ext_get_or, get_or-map, length-map, length-replicate}
use Rattle.std.proofs.lemmas.List.FromFn.{length-map-range_with_len}
use Rattle.std.proofs.lemmas.List.FromFn.{get_or-map-range_with_len}
use Rattle.scfs_gf256.specs.Rows.{add_multiples, column_of}
use Rattle.scfs_gf256.specs.Polynomials.{value_of, AreBytes, AreDistinct}
use Rattle.scfs_gf256.specs.Interpolation.{coefficients_of, lagrange_factors}
use Rattle.scfs_gf256.proofs.Bytes.{Bytes-AreBytes}
use Rattle.scfs_gf256.proofs.Values.{value_of-lt}
use Rattle.scfs_gf256.proofs.Lagrange.{length-lagrange_sum, Bytes-lagrange_sum}
use Rattle.scfs_gf256.proofs.RowLaws.{length-add_multiples}
use Rattle.scfs_gf256.proofs.Fitting.{coefficients_of-IsOnlyFit, coefficients_of-values, slice_index-interpolated_rows}
use Rattle.scfs_erasure.specs.Rows.{row_at}

pub length-row_at : (places : List ℕ) (rows : List (List ℕ)) (size x : ℕ) → length (row_at places rows size x) ≡ size
unfolding row_at
length-row_at places rows size x =
    length-map-range_with_len (λ k. value_of (coefficients_of places (column_of rows k)) x) 0 size

-- the byte in one column
pub get_or-row_at : (places : List ℕ) (rows : List (List ℕ)) (size x k d : ℕ) → k < size
    → get_or (row_at places rows size x) k d ≡ value_of (coefficients_of places (column_of rows k)) x
unfolding row_at
get_or-row_at places rows size x k d inside =
    get_or-map-range_with_len (λ k. value_of (coefficients_of places (column_of rows k)) x) 0 size k k d inside
    (omega arith)

pub AreBytes-row_at : (places : List ℕ) (rows : List (List ℕ)) (size x : ℕ) → AreBytes (row_at places rows size x)
AreBytes-row_at places rows size x k d l =
    let inside : k < size = omega (arith, length-row_at places rows size x) in
    let below = value_of-lt (coefficients_of places (column_of rows k)) x in
    omega (arith, get_or-row_at places rows size x k d inside)

-- a row that agrees in each column is the row
pub same_row : (places : List ℕ) (rows : List (List ℕ)) (size x : ℕ) (row : List ℕ) → length row ≡ size
    → ((k : ℕ) → k < size → get_or row k 0 ≡ value_of (coefficients_of places (column_of rows k)) x)
    → row ≡ row_at places rows size x
same_row places rows size x row long each =
    ext_get_or 0 row (row_at places rows size x) (long ∙ sym (length-row_at places rows size x))
    (λ k l. let inside : k < size = omega arith in each k inside ∙ sym (get_or-row_at places rows size x k 0 inside))

get_or-column_of : (rows : List (List ℕ)) (k i d : ℕ) (e : List ℕ) → i < length rows
    → get_or (column_of rows k) i d ≡ slice_index (get_or rows i e) k
get_or-column_of rows k i d e l = get_or-map (λ row. slice_index row k) rows i e d l

pub AreBytes-column_of : (rows : List (List ℕ)) (size k : ℕ) → k < size → All (λ row. length row ≡ size) rows
    → All AreBytes rows → AreBytes (column_of rows k)
AreBytes-column_of rows size k inside long bytes i d l =
    let within : i < length rows = omega (arith, length-map rows (λ row. slice_index row k)) in
    let row = get_or rows i [] in
    let covered : k < length row = omega (arith, long i [] within) in
    let below : get_or row k 0 < 256 = bytes i [] within k 0 covered in
    omega (arith, get_or-column_of rows k i d [] within)

-- at the place of a given row the polynomials have that row
pub row_at-given : (places : List ℕ) (rows : List (List ℕ)) (size i : ℕ) → AreBytes places → AreDistinct places
    → length places ≡ length rows → All (λ row. length row ≡ size) rows → All AreBytes rows → i < length rows
    → get_or rows i [] ≡ row_at places rows size (get_or places i 0)
row_at-given places rows size i placed different same long bytes l =
    same_row places rows size (get_or places i 0) (get_or rows i []) (long i [] l)
    (λ k inside.
    let column = column_of rows k in
    let as_many : length places ≡ length column = same ∙ sym (length-map rows (λ row. slice_index row k)) in
    let fit = coefficients_of-IsOnlyFit places column placed (AreBytes-column_of rows size k inside long bytes) as_many different in
    let there : i < length places = omega arith in
    sym (get_or-column_of rows k i 0 [] l)
    ∙ ap (λ ys. get_or ys i 0) (sym fit.fit.fits)
    ∙ get_or-map (value_of (coefficients_of places column)) places i 0 0 there)

-- so the rows are what the polynomials have at the places
pub map-row_at-given : (places : List ℕ) (rows : List (List ℕ)) (size : ℕ) → AreBytes places → AreDistinct places
    → length places ≡ length rows → All (λ row. length row ≡ size) rows → All AreBytes rows
    → map (row_at places rows size) places ≡ rows
map-row_at-given places rows size placed different same long bytes =
    ext_get_or [] (map (row_at places rows size) places) rows (length-map places (row_at places rows size) ∙ same)
    (λ i l.
    let there : i < length places = omega (arith, length-map places (row_at places rows size)) in
    get_or-map (row_at places rows size) places i 0 [] there
    ∙ sym (row_at-given places rows size i placed different same long bytes (omega arith)))

-- the coefficients through any values are as many bytes as there are places
length-coefficients_of : (xs ys : List ℕ) → length xs ≡ length ys → length (coefficients_of xs ys) ≡ length xs
unfolding coefficients_of
length-coefficients_of xs ys same = length-lagrange_sum [] xs ys same

AreBytes-coefficients_of : (xs ys : List ℕ) → AreBytes (coefficients_of xs ys)
unfolding coefficients_of
AreBytes-coefficients_of xs ys = Bytes-AreBytes (coefficients_of xs ys) (Bytes-lagrange_sum [] xs ys)

-- a column of the rows at other places has the values of the polynomial of this column
column_of-map-row_at : (places others : List ℕ) (rows : List (List ℕ)) (size k : ℕ) → k < size
    → column_of (map (row_at places rows size) others) k
    ≡ map (value_of (coefficients_of places (column_of rows k))) others
column_of-map-row_at places others rows size k inside =
    let moved = map (row_at places rows size) others in
    let c = coefficients_of places (column_of rows k) in
    ext_get_or 0 (column_of moved k) (map (value_of c) others)
    (length-map moved (λ row. slice_index row k) ∙ length-map others (row_at places rows size)
    ∙ sym (length-map others (value_of c)))
    (λ i l.
    let within : i < length moved = omega (arith, length-map moved (λ row. slice_index row k)) in
    let there : i < length others = omega (arith, length-map others (row_at places rows size)) in
    get_or-column_of moved k i 0 [] within
    ∙ ap (λ row. slice_index row k) (get_or-map (row_at places rows size) others i 0 [] there)
    ∙ get_or-row_at places rows size (get_or others i 0) k 0 inside
    ∙ sym (get_or-map (value_of c) others i 0 0 there))

-- the polynomials through the rows at other places, as many, are the same
pub row_at-elsewhere : (places others : List ℕ) (rows : List (List ℕ)) (size x : ℕ) → AreBytes others
    → AreDistinct others → length places ≡ length rows → length places ≡ length others
    → row_at others (map (row_at places rows size) others) size x ≡ row_at places rows size x
row_at-elsewhere places others rows size x placed different same as_many =
    let moved = map (row_at places rows size) others in
    same_row places rows size x (row_at others moved size x) (length-row_at others moved size x)
    (λ k inside.
    let column = column_of rows k in
    let c = coefficients_of places column in
    let long = length-coefficients_of places column (same ∙ sym (length-map rows (λ row. slice_index row k))) in
    get_or-row_at others moved size x k 0 inside
    ∙ ap (λ ys. value_of (coefficients_of others ys) x) (column_of-map-row_at places others rows size k inside)
    ∙ ap (λ d. value_of d x)
    (coefficients_of-values c others (AreBytes-coefficients_of places column) placed (long ∙ as_many) different))

-- rows added up with the factors of their places are the row elsewhere
pub row_at-interpolated : (places : List ℕ) (rows : List (List ℕ)) (size x : ℕ) → length places ≡ length rows
    → All (λ row. length row ≡ size) rows
    → add_multiples (replicate size 0) (lagrange_factors places x) rows ≡ row_at places rows size x
row_at-interpolated places rows size x same long =
    same_row places rows size x (add_multiples (replicate size 0) (lagrange_factors places x) rows)
    (length-add_multiples (replicate size 0) (lagrange_factors places x) rows (λ i d l. long i d l ∙ sym (length-replicate size 0))
    ∙ length-replicate size 0)
    (λ k inside. slice_index-interpolated_rows places rows size x k same long)

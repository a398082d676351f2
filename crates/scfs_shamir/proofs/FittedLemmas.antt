-- The only coefficients under which the split of a key gives f shares.
use Rattle.std.proofs.Common.{◌≡◌, ℕ, zero, suc, ◌+◌, ◌<◌, ◌≤◌, List, [], ◌∷◌, length, map, take, drop, replicate}
use Rattle.std.proofs.Common.{get_or, refl, sym, ap, ap₂, ◌∙◌, inl, inr, arith, add-one}
use Rattle.std.specs.Prelude.{slice_index}
use Rattle.std.specs.List.{All}
use Rattle.std.proofs.lemmas.Bool.{cases_lt}
use Rattle.std.proofs.lemmas.List.{get_or-map, get_or-take, get_or-replicate, get_or_past, length-map}
use Rattle.std.proofs.lemmas.List.Elements.{All-map}
use Rattle.scfs_base.specs.declared.naming.Coefficients.{Coefficients}
use Rattle.scfs_gf256.specs.Polynomials.{value_of, AreDistinct, IsOnlyFit}
use Rattle.scfs_gf256.specs.Rows.{column_of}
use Rattle.scfs_gf256.proofs.Bytes.{Bytes, AreBytes-Bytes, Bytes-AreBytes}
use Rattle.scfs_gf256.proofs.Values.{value_of-nil, value_of-at_zero}
use Rattle.scfs_shamir.specs.declared.sharing.Share.{Share}
use Rattle.scfs_shamir.specs.Shares.{each_byte, polynomial_of, share_byte, share_of}
use Rattle.scfs_shamir.specs.Recovery.{points_of, bytes_at, fitted_polynomial, IsPoint, IsRow}
use Rattle.scfs_shamir.specs.Recovery.{IsShare, AreRows, IsOfDegree, AreSharesOf, IsOnlySharing}
use Rattle.scfs_shamir.proofs.Peeling.{ArePlaces, fit_with_zero, heads}
use Rattle.scfs_shamir.proofs.RowLemmas.{each_byte_from, get_or-each_byte, IsRow-each_byte, each_byte-zero}
use Rattle.scfs_shamir.proofs.RowLemmas.{get_or-byte, All-nil, All-cons}
use Rattle.scfs_shamir.proofs.ShareLemmas.{nonzero_points, bytes_of_points, Contains-shares_of, own_shares}
use Rattle.scfs_shamir.proofs.ShareLemmas.{polynomial_of-cons, Bytes-polynomial_of, length-polynomial_of}
use Rattle.scfs_shamir.proofs.ShareLemmas.{value_of-polynomial_of-zero, values_of_shares}

-- the coefficients of one power of the polynomials that fit
abbrev pub fitted_row : List Share → List ℕ → ℕ → List ℕ
fitted_row shares key power = each_byte (λ place. slice_index (fitted_polynomial shares key place) power)

-- all their coefficients but the constant ones
abbrev pub fitted : List Share → List ℕ → Coefficients
fitted shares key =
    record { rows = fitted_row shares key 1 ∷ fitted_row shares key 2 ∷ fitted_row shares key 3 ∷ [] }

-- f shares and a key, where at each place one polynomial fits
pub record CanFit (f : ℕ) (shares : List Share) (key : List ℕ) : Type 0 where
  pub low : 1 ≤ f
  pub high : f ≤ 3
  pub count : length shares ≡ f
  pub points : All (λ share. IsPoint f share.point) shares
  pub long : All (λ share. length share.bytes ≡ 32) shares
  pub row : IsRow key
  pub fit : (k : ℕ) → k < 32 → IsOnlyFit (fitted_polynomial shares key k) (0 ∷ points_of shares)
      (slice_index key k ∷ bytes_at shares k)

-- ---- the polynomials

length-fitted : (f : ℕ) (shares : List Share) (key : List ℕ) → CanFit f shares key → (k : ℕ) → k < 32
    → length (fitted_polynomial shares key k) ≡ f + 1
length-fitted f shares key can k l =
    (can.fit k l).fit.as_many
    ∙ ap suc (length-map shares (λ (share : Share). share.point) ∙ can.count)
    ∙ sym (add-one f)

Bytes-fitted : (f : ℕ) (shares : List Share) (key : List ℕ) → CanFit f shares key → (k : ℕ) → k < 32
    → Bytes (fitted_polynomial shares key k)
Bytes-fitted f shares key can k l = AreBytes-Bytes (fitted_polynomial shares key k) (can.fit k l).fit.bytes

value_of-zero : (c : List ℕ) → Bytes c → value_of c 0 ≡ get_or c 0 0
value_of-zero [] h = value_of-nil 0
value_of-zero (c ∷ cs) h = value_of-at_zero c cs h.0

first_of_fitted : (f : ℕ) (shares : List Share) (key : List ℕ) → CanFit f shares key → (k : ℕ) → k < 32
    → get_or (fitted_polynomial shares key k) 0 0 ≡ slice_index key k
first_of_fitted f shares key can k l =
    let c = fitted_polynomial shares key k in
    sym (value_of-zero c (Bytes-fitted f shares key can k l))
    ∙ (heads (value_of c 0) (slice_index key k) (map (value_of c) (points_of shares)) (bytes_at shares k)
    (can.fit k l).fit.fits).0

values_of_fitted : (f : ℕ) (shares : List Share) (key : List ℕ) → CanFit f shares key → (k : ℕ) → k < 32
    → map (value_of (fitted_polynomial shares key k)) (points_of shares) ≡ bytes_at shares k
values_of_fitted f shares key can k l =
    let c = fitted_polynomial shares key k in
    (heads (value_of c 0) (slice_index key k) (map (value_of c) (points_of shares)) (bytes_at shares k)
    (can.fit k l).fit.fits).1

-- at most three coefficients, one after the other
first_three : (cs : List ℕ) → length cs ≤ 3
    → take (length cs) (get_or cs 0 0 ∷ get_or cs 1 0 ∷ get_or cs 2 0 ∷ []) ≡ cs
first_three [] l = refl
first_three (a ∷ []) l = refl
first_three (a ∷ b ∷ []) l = refl
first_three (a ∷ b ∷ c ∷ []) l = refl
first_three (a ∷ b ∷ c ∷ d ∷ cs) l = absurd (omega arith)

parts_of_polynomial : (c : List ℕ) (f : ℕ) → f ≤ 3 → length c ≡ f + 1
    → get_or c 0 0 ∷ take f (get_or c 1 0 ∷ get_or c 2 0 ∷ get_or c 3 0 ∷ []) ≡ c
parts_of_polynomial [] f high long = absurd (omega arith)
parts_of_polynomial (c ∷ cs) f high long =
    let n : f ≡ length cs = omega arith in
    let three = get_or cs 0 0 ∷ get_or cs 1 0 ∷ get_or cs 2 0 ∷ [] in
    ap (λ (rest : List ℕ). c ∷ rest) (ap (λ n. take n three) n ∙ first_three cs (omega arith))

-- the polynomial under the fitted coefficients is the one that fits
polynomial_of-fitted : (f : ℕ) (shares : List Share) (key : List ℕ) → CanFit f shares key → (k : ℕ) → k < 32
    → polynomial_of f key (fitted shares key) k ≡ fitted_polynomial shares key k
polynomial_of-fitted f shares key can k l =
    let c = fitted_polynomial shares key k in
    let rows = (fitted shares key).rows in
    let at : (power : ℕ) → get_or (fitted_row shares key power) k 0 ≡ get_or c power 0 =
    λ power. get_or-each_byte (λ place. slice_index (fitted_polynomial shares key place) power) k 0 l in
    let column : column_of rows k ≡ get_or c 1 0 ∷ get_or c 2 0 ∷ get_or c 3 0 ∷ [] =
    ap₂ ◌∷◌ (at 1) (ap₂ ◌∷◌ (at 2) (ap (λ (v : ℕ). v ∷ []) (at 3))) in
    polynomial_of-cons f key (fitted shares key) k
    ∙ ap (λ (b : ℕ). b ∷ take f (column_of rows k)) (sym (first_of_fitted f shares key can k l))
    ∙ ap (λ (rest : List ℕ). get_or c 0 0 ∷ take f rest) column
    ∙ parts_of_polynomial c f can.high (length-fitted f shares key can k l)

-- ---- these coefficients serve

rows_of_fitted : (f : ℕ) (shares : List Share) (key : List ℕ) → CanFit f shares key → AreRows (fitted shares key)
rows_of_fitted f shares key can =
    let row : (power : ℕ) → IsRow (fitted_row shares key power) =
    λ power. IsRow-each_byte (λ place. slice_index (fitted_polynomial shares key place) power)
    (λ k l. get_or-byte (fitted_polynomial shares key k) power (Bytes-fitted f shares key can k l)) in
    let first = fitted_row shares key 1 in
    let second = fitted_row shares key 2 in
    let third = fitted_row shares key 3 in
    record {
      three = refl;
      each = All-cons IsRow first (second ∷ third ∷ []) (row 1)
          (All-cons IsRow second (third ∷ []) (row 2) (All-cons IsRow third [] (row 3) (All-nil IsRow)));
    }

abbrev IsZero : List ℕ → Type 0
IsZero row = row ≡ replicate 32 0

zero_from : (f : ℕ) (a b c : List ℕ) → 1 ≤ f → f ≤ 3 → (f ≤ 1 → IsZero b) → (f ≤ 2 → IsZero c)
    → All IsZero (drop f (a ∷ b ∷ c ∷ []))
zero_from zero a b c low high second third = absurd (omega arith)
zero_from (suc zero) a b c low high second third =
    All-cons IsZero b (c ∷ []) (second (omega arith)) (All-cons IsZero c [] (third (omega arith)) (All-nil IsZero))
zero_from (suc (suc zero)) a b c low high second third =
    All-cons IsZero c [] (third (omega arith)) (All-nil IsZero)
zero_from (suc (suc (suc zero))) a b c low high second third = All-nil IsZero
zero_from (suc (suc (suc (suc f)))) a b c low high second third = absurd (omega arith)

degree_of_fitted : (f : ℕ) (shares : List Share) (key : List ℕ) → CanFit f shares key
    → IsOfDegree f (fitted shares key)
degree_of_fitted f shares key can =
    let none : (power : ℕ) → f + 1 ≤ power → IsZero (fitted_row shares key power) =
    λ power above. each_byte-zero (λ place. slice_index (fitted_polynomial shares key place) power)
    (λ k l. get_or_past (fitted_polynomial shares key k) power 0 (omega (arith, length-fitted f shares key can k l))) in
    zero_from f (fitted_row shares key 1) (fitted_row shares key 2) (fitted_row shares key 3) can.low can.high
    (λ h. none 2 (omega arith)) (λ h. none 3 (omega arith))

own_share_of_fitted : (f : ℕ) (shares : List Share) (key : List ℕ) → CanFit f shares key → (i : ℕ) (d : Share)
    → i < length shares
    → share_of f key (fitted shares key) (get_or shares i d).point ≡ get_or shares i d
own_share_of_fitted f shares key can i d inside =
    let share = get_or shares i d in
    let rule = share_byte f key (fitted shares key) share.point in
    let made : List ℕ → Share = λ bytes. record { point = share.point; bytes = bytes } in
    ap made (sym (each_byte_from rule share.bytes (can.long i d inside)
    (λ k l.
    let c = fitted_polynomial shares key k in
    let within : i < length (points_of shares) =
    omega (arith, length-map shares (λ (share : Share). share.point)) in
    sym (get_or-map (λ (s : Share). slice_index s.bytes k) shares i d 0 inside)
    ∙ ap (λ ys. get_or ys i 0) (sym (values_of_fitted f shares key can k l))
    ∙ get_or-map (value_of c) (points_of shares) i 0 0 within
    ∙ ap (value_of c) (get_or-map (λ (s : Share). s.point) shares i d 0 inside)
    ∙ ap (λ p. value_of p share.point) (sym (polynomial_of-fitted f shares key can k l)))))

shares_of_fitted : (f : ℕ) (shares : List Share) (key : List ℕ) → CanFit f shares key
    → AreSharesOf f key (fitted shares key) shares
shares_of_fitted f shares key can i d inside =
    Contains-shares_of f key (fitted shares key) (get_or shares i d) (can.points i d inside)
    (own_share_of_fitted f shares key can i d inside)

-- ---- and no others

polynomial_of_other : (f : ℕ) (shares : List Share) (key : List ℕ) (other : Coefficients) → CanFit f shares key
    → AreRows other → AreSharesOf f key other shares → (k : ℕ) → k < 32
    → polynomial_of f key other k ≡ fitted_polynomial shares key k
polynomial_of_other f shares key other can rows own k l =
    let polynomial = polynomial_of f key other k in
    (can.fit k l).only polynomial
    (record {
      as_many = length-polynomial_of f key other k can.high rows ∙ sym (length-fitted f shares key can k l)
          ∙ (can.fit k l).fit.as_many;
      bytes = Bytes-AreBytes polynomial (Bytes-polynomial_of f key other k l can.row rows);
      fits = ap₂ ◌∷◌ (value_of-polynomial_of-zero f key other k l can.row)
          (values_of_shares f key other shares k l (own_shares f key other shares own));
    })

zero_at : (f : ℕ) (a b c : List ℕ) → 1 ≤ f → All IsZero (drop f (a ∷ b ∷ c ∷ []))
    → (f ≤ 1 → IsZero b) × (f ≤ 2 → IsZero c)
zero_at zero a b c low h = absurd (omega arith)
zero_at (suc zero) a b c low h = ((λ l. h 0 b (omega arith)), (λ l. h 1 c (omega arith)))
zero_at (suc (suc zero)) a b c low h = ((λ l. absurd (omega arith)), (λ l. h 0 c (omega arith)))
zero_at (suc (suc (suc f))) a b c low h = ((λ l. absurd (omega arith)), (λ l. absurd (omega arith)))

-- a place of a column, as the polynomial's coefficients tell it
place_of_column : (f : ℕ) (column c : List ℕ) (j : ℕ) → length c ≡ f + 1
    → get_or (take f column) j 0 ≡ get_or c (suc j) 0 → (f ≤ j → get_or column j 0 ≡ 0)
    → get_or column j 0 ≡ get_or c (suc j) 0
place_of_column f column c j long same none =
    elim (cases_lt j f) [
      | inl below ↦ sym (get_or-take f column j 0 below) ∙ same
      | inr above ↦ none above ∙ sym (get_or_past c (suc j) 0 (omega arith))
    ]

same_rows : (f : ℕ) (shares : List Share) (key : List ℕ) (rows : List (List ℕ)) → CanFit f shares key
    → length rows ≡ 3 → All IsRow rows → All IsZero (drop f rows)
    → ((k j : ℕ) → k < 32 → get_or (take f (column_of rows k)) j 0 ≡ get_or (fitted_polynomial shares key k) (suc j) 0)
    → rows ≡ fitted_row shares key 1 ∷ fitted_row shares key 2 ∷ fitted_row shares key 3 ∷ []
same_rows f shares key [] can three each zeros same = absurd (omega arith)
same_rows f shares key (a ∷ []) can three each zeros same = absurd (omega arith)
same_rows f shares key (a ∷ b ∷ []) can three each zeros same = absurd (omega arith)
same_rows f shares key (a ∷ b ∷ c ∷ d ∷ rows) can three each zeros same = absurd (omega arith)
same_rows f shares key (a ∷ b ∷ c ∷ []) can three each zeros same =
    let polynomial : ℕ → List ℕ = λ k. fitted_polynomial shares key k in
    let none = zero_at f a b c can.low zeros in
    let low = can.low in
    let of_zero : (row : List ℕ) (k : ℕ) → k < 32 → IsZero row → get_or row k 0 ≡ 0 =
    λ row k l e. ap (λ xs. get_or xs k 0) e ∙ get_or-replicate 32 k 0 0 l in
    let first : a ≡ fitted_row shares key 1 =
    each_byte_from (λ k. slice_index (polynomial k) 1) a (each 0 a (omega arith)).long
    (λ k l. place_of_column f (column_of (a ∷ b ∷ c ∷ []) k) (polynomial k) 0 (length-fitted f shares key can k l)
    (same k 0 l) (λ above. absurd (omega arith))) in
    let second : b ≡ fitted_row shares key 2 =
    each_byte_from (λ k. slice_index (polynomial k) 2) b (each 1 a (omega arith)).long
    (λ k l. place_of_column f (column_of (a ∷ b ∷ c ∷ []) k) (polynomial k) 1 (length-fitted f shares key can k l)
    (same k 1 l) (λ above. of_zero b k l (none.0 above))) in
    let third : c ≡ fitted_row shares key 3 =
    each_byte_from (λ k. slice_index (polynomial k) 3) c (each 2 a (omega arith)).long
    (λ k l. place_of_column f (column_of (a ∷ b ∷ c ∷ []) k) (polynomial k) 2 (length-fitted f shares key can k l)
    (same k 2 l) (λ above. of_zero c k l (none.1 above))) in
    ap₂ ◌∷◌ first (ap₂ ◌∷◌ second (ap (λ (row : List ℕ). row ∷ []) third))

pub fitted_is_only : (f : ℕ) (shares : List Share) (key : List ℕ) → CanFit f shares key
    → IsOnlySharing f key shares (fitted shares key)
fitted_is_only f shares key can = record {
  rows = rows_of_fitted f shares key can;
  degree = degree_of_fitted f shares key can;
  gives = shares_of_fitted f shares key can;
  only = λ other rows degree own.
      let made : List (List ℕ) → Coefficients = λ rows. record { rows = rows } in
      ap made (same_rows f shares key other.rows can rows.three rows.each degree
      (λ k j l. ap (λ c. get_or c (suc j) 0)
      (sym (polynomial_of-cons f key other k) ∙ polynomial_of_other f shares key other can rows own k l)));
}

-- ---- where shares and a key can be fitted

pub can_fit : (f : ℕ) (shares : List Share) (key : List ℕ) → 1 ≤ f → f ≤ 3 → IsRow key → length shares ≡ f
    → All (IsShare f) shares → AreDistinct (points_of shares) → CanFit f shares key
can_fit f shares key low high row count each distinct =
    let points : All (λ share. IsPoint f share.point) shares = λ k d l. (each k d l).point in
    let places : ArePlaces (points_of shares) = record {
      bytes = bytes_of_points f shares high points;
      nonzero = nonzero_points f shares points;
      distinct = distinct;
    } in
    record {
      low = low;
      high = high;
      count = count;
      points = points;
      long = λ k d l. (each k d l).row.long;
      row = row;
      fit = λ k l.
          let values = All-map (λ (x : ℕ). x < 256) (λ (share : Share). slice_index share.bytes k) shares
          (λ i d m. (each i d m).row.bytes k 0 (omega (arith, (each i d m).row.long))) in
          fit_with_zero (points_of shares) (bytes_at shares k) (slice_index key k) places values
          (row.bytes k 0 (omega (arith, row.long)))
          (length-map shares (λ (share : Share). share.point)
          ∙ sym (length-map shares (λ (share : Share). slice_index share.bytes k)));
    }

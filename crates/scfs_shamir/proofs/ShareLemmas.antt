-- The shares of one split, and the key that they are shares of.
use Rattle.std.proofs.Common.{◌≡◌, ℕ, suc, ◌+◌, ◌-◌, ◌*◌, ◌<◌, ◌≤◌, ◌≢◌, List, [], ◌∷◌, length, map, take}
use Rattle.std.proofs.Common.{get_or, refl, sym, subst, ap, ◌∙◌, arith, add-one}
use Rattle.std.specs.Prelude.{slice_index}
use Rattle.std.specs.List.{All, Contains}
use Rattle.std.proofs.lemmas.List.{length-map, length-take-le}
use Rattle.std.proofs.lemmas.List.Elements.{All-map}
use Rattle.std.proofs.lemmas.List.FromFn.{get_or-map-range_with_len, length-map-range_with_len}
use Rattle.scfs_base.specs.declared.naming.Coefficients.{Coefficients}
use Rattle.scfs_gf256.specs.Polynomials.{value_of, AreBytes, AreDistinct}
use Rattle.scfs_gf256.specs.Interpolation.{coefficients_of}
use Rattle.scfs_gf256.specs.Rows.{column_of}
use Rattle.scfs_gf256.proofs.Bytes.{Bytes, Bytes-AreBytes}
use Rattle.scfs_gf256.proofs.Fitting.{coefficients_of-values}
use Rattle.scfs_gf256.proofs.Values.{value_of-at_zero}
use Rattle.scfs_shamir.specs.declared.sharing.Share.{Share}
use Rattle.scfs_shamir.specs.Shares.{polynomial_of, share_byte, share_of, shares_of}
use Rattle.scfs_shamir.specs.Recovery.{points_of, bytes_at, joined_byte, IsPoint, IsRow, AreRows, AreSharesOf}
use Rattle.scfs_shamir.proofs.RowLemmas.{get_or-each_byte, Bytes-take, Bytes-column_of}

-- a share of a split is the share of its point
pub record IsOwn (f : ℕ) (key : List ℕ) (coefficients : Coefficients) (share : Share) : Type 0 where
  pub is : share ≡ share_of f key coefficients share.point
  pub point : IsPoint f share.point

pub own_share : (f : ℕ) (key : List ℕ) (coefficients : Coefficients) (share : Share)
    → Contains (shares_of f key coefficients) share → IsOwn f key coefficients share
own_share f key coefficients share member =
    let made = share_of f key coefficients in
    let n = 3 * f + 1 in
    let i = member.0 in
    let inside : i < n = omega (arith, member.1, length-map-range_with_len made 1 n) in
    let is : share ≡ made (1 + i) = sym member.2 ∙ get_or-map-range_with_len made 1 n i (1 + i) share inside refl in
    let point : share.point ≡ 1 + i = ap (λ (s : Share). s.point) is in
    record {
      is = is ∙ ap made (sym point);
      point = record { first = omega (arith, point); last = omega (arith, point, inside) };
    }

-- and a share that is that of its point is among them
pub Contains-shares_of : (f : ℕ) (key : List ℕ) (coefficients : Coefficients) (share : Share) → IsPoint f share.point
    → share_of f key coefficients share.point ≡ share → Contains (shares_of f key coefficients) share
Contains-shares_of f key coefficients share point is =
    let made = share_of f key coefficients in
    let n = 3 * f + 1 in
    let i = share.point - 1 in
    let first = point.first in
    let last = point.last in (
      i,
      (omega (arith, length-map-range_with_len made 1 n)),
      get_or-map-range_with_len made 1 n i share.point share (omega arith) (omega arith) ∙ is,
    )

-- ---- the points

pub nonzero_points : (f : ℕ) (shares : List Share) → All (λ share. IsPoint f share.point) shares
    → All (λ x. x ≢ 0) (points_of shares)
nonzero_points f shares points =
    All-map (λ (x : ℕ). x ≢ 0) (λ (share : Share). share.point) shares
    (λ k d l e. let first = (points k d l).first in omega arith)

pub bytes_of_points : (f : ℕ) (shares : List Share) → f ≤ 3 → All (λ share. IsPoint f share.point) shares
    → AreBytes (points_of shares)
bytes_of_points f shares high points =
    All-map (λ (x : ℕ). x < 256) (λ (share : Share). share.point) shares
    (λ k d l. let last = (points k d l).last in omega arith)

pub own_points : (f : ℕ) (key : List ℕ) (coefficients : Coefficients) (shares : List Share)
    → AreSharesOf f key coefficients shares → All (λ share. IsPoint f share.point) shares
own_points f key coefficients shares own k d l = (own_share f key coefficients (get_or shares k d) (own k d l)).point

-- ---- the polynomials

-- the byte of the key stands in front
pub polynomial_of-cons : (f : ℕ) (key : List ℕ) (coefficients : Coefficients) (k : ℕ)
    → polynomial_of f key coefficients k ≡ slice_index key k ∷ take f (column_of coefficients.rows k)
polynomial_of-cons f key coefficients k =
    ap (λ n. take n (slice_index key k ∷ column_of coefficients.rows k)) (add-one f)

pub Bytes-polynomial_of : (f : ℕ) (key : List ℕ) (coefficients : Coefficients) (k : ℕ) → k < 32 → IsRow key
    → AreRows coefficients → Bytes (polynomial_of f key coefficients k)
Bytes-polynomial_of f key coefficients k l row rows =
    subst Bytes (sym (polynomial_of-cons f key coefficients k)) (
      row.bytes k 0 (omega (arith, row.long)),
      Bytes-take f (column_of coefficients.rows k) (Bytes-column_of coefficients.rows k l rows.each),
    )

pub length-polynomial_of : (f : ℕ) (key : List ℕ) (coefficients : Coefficients) (k : ℕ) → f ≤ 3 → AreRows coefficients
    → length (polynomial_of f key coefficients k) ≡ f + 1
length-polynomial_of f key coefficients k high rows =
    let column = column_of coefficients.rows k in
    let three = length-map coefficients.rows (λ row. slice_index row k) ∙ rows.three in
    let front = length-take-le f column (omega (arith, three)) in
    ap length (polynomial_of-cons f key coefficients k) ∙ ap suc front ∙ sym (add-one f)

-- its value at 0 is the byte of the key
pub value_of-polynomial_of-zero : (f : ℕ) (key : List ℕ) (coefficients : Coefficients) (k : ℕ) → k < 32 → IsRow key
    → value_of (polynomial_of f key coefficients k) 0 ≡ slice_index key k
value_of-polynomial_of-zero f key coefficients k l row =
    ap (λ c. value_of c 0) (polynomial_of-cons f key coefficients k)
    ∙ value_of-at_zero (slice_index key k) (take f (column_of coefficients.rows k))
    (row.bytes k 0 (omega (arith, row.long)))

-- the bytes of shares are its values
pub values_of_shares : (f : ℕ) (key : List ℕ) (coefficients : Coefficients) (shares : List Share) (k : ℕ) → k < 32
    → All (λ share. share ≡ share_of f key coefficients share.point) shares
    → map (value_of (polynomial_of f key coefficients k)) (points_of shares) ≡ bytes_at shares k
values_of_shares f key coefficients [] k l own = refl
values_of_shares f key coefficients (share ∷ shares) k l own =
    let value = value_of (polynomial_of f key coefficients k) in
    let is : slice_index share.bytes k ≡ value share.point =
    ap (λ (s : Share). slice_index s.bytes k) (own 0 share (omega arith))
    ∙ get_or-each_byte (share_byte f key coefficients share.point) k 0 l in
    ap (λ v. v ∷ map value (points_of shares)) (sym is)
    ∙ ap (λ rest. slice_index share.bytes k ∷ rest)
    (values_of_shares f key coefficients shares k l (λ i d m. own (suc i) d (omega arith)))

pub own_shares : (f : ℕ) (key : List ℕ) (coefficients : Coefficients) (shares : List Share)
    → AreSharesOf f key coefficients shares → All (λ share. share ≡ share_of f key coefficients share.point) shares
own_shares f key coefficients shares own k d l = (own_share f key coefficients (get_or shares k d) (own k d l)).is

-- a byte of the joined key is that byte of the key
pub joined_byte_is : (f : ℕ) (key : List ℕ) (coefficients : Coefficients) (shares : List Share) (k : ℕ) → k < 32
    → f ≤ 3 → length shares ≡ f + 1 → AreDistinct (points_of shares) → IsRow key → AreRows coefficients
    → AreSharesOf f key coefficients shares → joined_byte shares k ≡ slice_index key k
joined_byte_is f key coefficients shares k l high count distinct row rows own =
    let polynomial = polynomial_of f key coefficients k in
    let points = points_of shares in
    let bytes = Bytes-polynomial_of f key coefficients k l row rows in
    let same = length-polynomial_of f key coefficients k high rows ∙ sym count
    ∙ sym (length-map shares (λ (share : Share). share.point)) in
    let places = bytes_of_points f shares high (own_points f key coefficients shares own) in
    ap (λ ys. value_of (coefficients_of points ys) 0)
    (sym (values_of_shares f key coefficients shares k l (own_shares f key coefficients shares own)))
    ∙ ap (λ c. value_of c 0)
    (coefficients_of-values polynomial points (Bytes-AreBytes polynomial bytes) places same distinct)
    ∙ value_of-polynomial_of-zero f key coefficients k l row

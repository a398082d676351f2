-- The key that is the sum of shares, each times what it counts for the value at 0.
use Rattle.std.proofs.Common.{◌≡◌, ℕ, ◌+◌, ◌<◌, List, [], ◌∷◌, length, map, replicate, get_or, refl, sym, ap, ◌∙◌, arith}
use Rattle.std.specs.Prelude.{slice_index}
use Rattle.std.specs.List.{All}
use Rattle.std.proofs.lemmas.List.{length-map, length-replicate}
use Rattle.std.proofs.lemmas.List.Elements.{All-map}
use Rattle.scfs_gf256.specs.Rows.{add_multiples, column_of}
use Rattle.scfs_gf256.specs.Polynomials.{value_of, AreBytes, AreDistinct, IsOnlyFit}
use Rattle.scfs_gf256.specs.Interpolation.{coefficients_of, lagrange_factors}
use Rattle.scfs_gf256.proofs.RowLaws.{length-add_multiples}
use Rattle.scfs_gf256.proofs.Fitting.{coefficients_of-IsOnlyFit, slice_index-interpolated_rows}
use Rattle.scfs_shamir.specs.declared.sharing.Share.{Share}
use Rattle.scfs_shamir.specs.Recovery.{points_of, bytes_at, joining_polynomial, joined_byte, IsRow}

-- the bytes of the shares
abbrev pub rows_of : List Share → List (List ℕ)
rows_of shares = map (λ (share : Share). share.bytes) shares

column_of-rows_of : (shares : List Share) (k : ℕ) → column_of (rows_of shares) k ≡ bytes_at shares k
column_of-rows_of [] k = refl
column_of-rows_of (share ∷ shares) k = ap (λ rest. slice_index share.bytes k ∷ rest) (column_of-rows_of shares k)

module _ (shares : List Share) (rows : All (λ share. IsRow share.bytes) shares) where
  long_rows : All (λ row. length row ≡ 32) (rows_of shares)
  long_rows =
      All-map (λ (row : List ℕ). length row ≡ 32) (λ (share : Share). share.bytes) shares (λ k d l. (rows k d l).long)

  bytes_in : (k : ℕ) → k < 32 → AreBytes (bytes_at shares k)
  bytes_in k inside =
      All-map (λ (b : ℕ). b < 256) (λ (share : Share). slice_index share.bytes k) shares
      (λ i d l. (rows i d l).bytes k 0 (omega (arith, (rows i d l).long)))

  -- one polynomial fits the shares at each place
  pub joining_fits : AreBytes (points_of shares) → AreDistinct (points_of shares) → (k : ℕ) → k < 32
      → IsOnlyFit (joining_polynomial shares k) (points_of shares) (bytes_at shares k)
  joining_fits places distinct k inside =
      coefficients_of-IsOnlyFit (points_of shares) (bytes_at shares k) places (bytes_in k inside)
      (length-map shares (λ (share : Share). share.point) ∙ sym (length-map shares (λ (share : Share). slice_index share.bytes k)))
      distinct

  module _ (key : List ℕ) (is : key ≡ add_multiples (replicate 32 0) (lagrange_factors (points_of shares) 0) (rows_of shares)) where
    pub joined_long : length key ≡ 32
    joined_long =
        ap length is
        ∙ length-add_multiples (replicate 32 0) (lagrange_factors (points_of shares) 0) (rows_of shares)
        (λ k d l. long_rows k d l ∙ sym (length-replicate {A = ℕ} 32 0))
        ∙ length-replicate {A = ℕ} 32 0

    pub joined_at : (k : ℕ) → get_or key k 0 ≡ joined_byte shares k
    joined_at k =
        ap (λ key. get_or key k 0) is
        ∙ slice_index-interpolated_rows (points_of shares) (rows_of shares) 32 0 k
        (length-map shares (λ (share : Share). share.point) ∙ sym (length-map shares (λ (share : Share). share.bytes)))
        long_rows
        ∙ ap (λ ys. value_of (coefficients_of (points_of shares) ys) 0) (column_of-rows_of shares k)

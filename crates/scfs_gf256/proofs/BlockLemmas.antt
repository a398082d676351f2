-- A row of sums that is made from the front: byte by byte, or 32 bytes at once.
use Rattle.std.proofs.Common.{◌≡◌, ℕ, ◌+◌, ◌-◌, ◌<◌, ◌≤◌, ◌≢◌, List, length, set, get_or, sym, ap, ap₂, ◌∙◌, inl, inr, arith}
use Rattle.std.proofs.Common.{below_more, get_or-set_same, get_or-set_other}
use Rattle.std.specs.Int.Bits.{bit_xor}
use Rattle.std.specs.Simd.Lanes.{zip2, chunk, put_chunk}
use Rattle.std.proofs.lemmas.Bool.{cases_lt}
use Rattle.std.proofs.lemmas.List.{ext_get_or, length-map}
use Rattle.std.proofs.lemmas.Simd.{get_or-zip2, length-chunk, get_or-chunk}
use Rattle.std.proofs.lemmas.Simd.{get_or-put_chunk_below, get_or-put_chunk_at, get_or-put_chunk_above}
use Rattle.scfs_gf256.specs.Field.{times}
use Rattle.scfs_gf256.specs.Rows.{row_sum, scaled}
use Rattle.scfs_gf256.proofs.Bytes.{length-row_sum}
use Rattle.scfs_gf256.proofs.RowLaws.{slice_index-row_sum, slice_index-scaled}

-- below n the bytes are those wanted, and from n on those of the start
pub record IsAddedTo (n : ℕ) (now start wanted : List ℕ) : Type 0 where
  pub done : (k : ℕ) → k < n → get_or now k 0 ≡ get_or wanted k 0
  pub left : (k : ℕ) → n ≤ k → get_or now k 0 ≡ get_or start k 0

pub same_place : (n m : ℕ) (now start wanted : List ℕ) → n ≡ m → IsAddedTo n now start wanted → IsAddedTo m now start wanted
same_place n m now start wanted e h =
    record { done = λ k l. h.done k (omega arith); left = λ k l. h.left k (omega arith) }

pub added_byte : (n x : ℕ) (now start wanted : List ℕ) → n < length now → x ≡ get_or wanted n 0
    → IsAddedTo n now start wanted → IsAddedTo (n + 1) (set now n x) start wanted
added_byte n x now start wanted inside here h =
    let others : (k : ℕ) → k ≢ n → get_or (set now n x) k 0 ≡ get_or now k 0 =
    λ k other. get_or-set_other now n k x 0 other in
    record {
      done = below_more _ _ (λ k l. others k (omega arith) ∙ h.done k l) (get_or-set_same now n x 0 inside ∙ here);
      left = λ k l. others k (omega arith) ∙ h.left k (omega arith);
    }

pub added_block : (n m : ℕ) (now ys start wanted : List ℕ) → length ys ≡ 32 → m ≡ n + 32 → m ≤ length now
    → ((j : ℕ) → j < 32 → get_or ys j 0 ≡ get_or wanted (n + j) 0)
    → IsAddedTo n now start wanted → IsAddedTo m (put_chunk n now ys) start wanted
added_block n m now ys start wanted long next inside here h = record {
  done = λ k l. elim (cases_lt k n) [
    | inl below ↦ get_or-put_chunk_below n now ys k 0 below ∙ h.done k below
    | inr above ↦
        let e : n + (k - n) ≡ k = omega arith in
        ap (λ i. get_or (put_chunk n now ys) i 0) (sym e)
        ∙ get_or-put_chunk_at n now ys (k - n) 0 (omega arith) (omega arith)
        ∙ here (k - n) (omega arith)
        ∙ ap (λ i. get_or wanted i 0) e
  ];
  left = λ k l. get_or-put_chunk_above n now ys k 0 (omega arith) ∙ h.left k (omega arith);
}

module _ (f : ℕ) (from start : List ℕ) (same : length from ≡ length start) where
  -- a byte of the sum
  pub wanted_at : (k : ℕ) → get_or (row_sum start (scaled f from)) k 0 ≡ bit_xor (get_or start k 0) (times f (get_or from k 0))
  wanted_at k =
      slice_index-row_sum start (scaled f from) k (sym (length-map from (times f) ∙ same))
      ∙ ap (bit_xor (get_or start k 0)) (slice_index-scaled f from k)

  -- the sums of 32 bytes and the products with 32 others are those of the rows
  pub block_sum : (n : ℕ) (now found : List ℕ) → n + 32 ≤ length now → length found ≡ 32
      → ((j : ℕ) → j < 32 → get_or found j 0 ≡ times f (get_or from (n + j) 0))
      → ((k : ℕ) → n ≤ k → get_or now k 0 ≡ get_or start k 0)
      → (j : ℕ) → j < 32
      → get_or (zip2 bit_xor (chunk n 32 now) found) j 0 ≡ get_or (row_sum start (scaled f from)) (n + j) 0
  block_sum n now found inside long products left j l =
      get_or-zip2 bit_xor (chunk n 32 now) found j 0 0 0 (omega (arith, length-chunk n 32 now inside)) (omega arith)
      ∙ ap₂ bit_xor (get_or-chunk n 32 now j 0 l ∙ left (n + j) (omega arith)) (products j l)
      ∙ sym (wanted_at (n + j))

  -- a row that is made to its end
  pub all_added : (n : ℕ) (now : List ℕ) → length now ≡ length start → length now ≤ n
      → IsAddedTo n now start (row_sum start (scaled f from)) → now ≡ row_sum start (scaled f from)
  all_added n now long ended h =
      let wanted_long = length-row_sum start (scaled f from) (sym (length-map from (times f) ∙ same)) in
      ext_get_or 0 now (row_sum start (scaled f from)) (omega arith) (λ i l. h.done i (omega arith))

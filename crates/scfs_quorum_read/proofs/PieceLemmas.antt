-- One good piece more.
use Rattle.std.proofs.Common.{◌≡◌, ◌≢◌, ℕ, ◌+◌, ◌<◌, ◌≤◌, List, [], ◌∷◌, ◌++◌, length, get_or, false, refl, sym, ap, ◌∙◌, subst, arith}
use Rattle.std.specs.Prelude.{◌==◌}
use Rattle.std.specs.List.{All}
use Rattle.std.proofs.lemmas.Bool.{eq-eqb, both_ways}
use Rattle.std.proofs.lemmas.List.{length-map, get_or-map, length-append}
use Rattle.std.proofs.lemmas.List.Elements.{All-push}
use Rattle.std.proofs.lemmas.List.Folds.{list_any_at}
use Rattle.std.proofs.lemmas.List.Quantifiers.{all_pairs_push}
use Rattle.scfs_gf256.specs.Polynomials.{AreDistinct}
use Rattle.scfs_unit.specs.declared.pieces.KeptPiece.{KeptPiece}
use Rattle.scfs_unit.specs.Checking.{IsPiece}
use Rattle.scfs_unit.specs.Unsealing.{clouds_of, length_of, AreEnough}
use Rattle.scfs_quorum_read.specs.Reading.{is_among}
use Rattle.scfs_quorum_read.specs.Tracking.{Tracker, AreGood, IsTracker}

clouds_of-push : (pieces : List KeptPiece) (piece : KeptPiece)
    → clouds_of (pieces ++ piece ∷ []) ≡ clouds_of pieces ++ piece.cloud ∷ []
clouds_of-push [] piece = refl
clouds_of-push (first ∷ pieces) piece = ap (λ rest. first.cloud ∷ rest) (clouds_of-push pieces piece)

-- a cloud without a piece is none of the pieces' clouds
absent : (cloud : ℕ) (pieces : List KeptPiece) (k d : ℕ) → is_among cloud pieces ≡ false → k < length (clouds_of pieces)
    → get_or (clouds_of pieces) k d ≢ cloud
absent cloud [] k d none l e = absurd (omega arith)
absent cloud (piece ∷ pieces) k d none l e =
    let all = piece ∷ pieces in
    let number : KeptPiece → ℕ = λ piece. piece.cloud in
    let within : k < length all = omega (arith, length-map all number) in
    let own : (get_or all k piece).cloud ≡ cloud = sym (get_or-map number all k piece d within) ∙ e in
    both_ways (is_among cloud all) none
    (list_any_at (λ piece. piece.cloud == cloud) all k piece within (eq-eqb (get_or all k piece).cloud cloud own))

AreGood-push : (f size : ℕ) (pieces : List KeptPiece) (piece : KeptPiece) → AreGood f size pieces
    → is_among piece.cloud pieces ≡ false → IsPiece f piece → piece.length ≡ size → AreGood f size (pieces ++ piece ∷ [])
AreGood-push f size pieces piece good none form long = record {
  different = subst AreDistinct (sym (clouds_of-push pieces piece))
      (all_pairs_push (λ a b. a ≢ b) (clouds_of pieces) piece.cloud good.different
      (λ k d l. absent piece.cloud pieces k d none l));
  each = All-push (IsPiece f) pieces piece good.each form;
  long = All-push (λ piece. piece.length ≡ size) pieces piece good.long long;
}

-- a tracker that keeps a piece, from what its contract asks
pub IsTracker-kept : (f size : ℕ) (clouds : List ℕ) (count : ℕ) (pieces after : List KeptPiece) (piece given : KeptPiece)
    (now : Tracker) → IsTracker f size clouds count pieces → pieces ≡ now.pieces → f ≡ now.reading.f
    → size ≡ now.reading.size → length now.pieces ≤ now.reading.f → is_among given.cloud now.pieces ≡ false
    → IsPiece now.reading.f given → given.length ≡ now.reading.size → piece ≡ given → after ≡ pieces ++ piece ∷ []
    → IsTracker f size clouds count after
IsTracker-kept f size clouds count pieces after piece given now is p n s few none form long same more =
    let little : length pieces ≤ f = omega (arith, ap length p) in
    let whole : after ≡ pieces ++ given ∷ [] = more ∙ ap (λ last. pieces ++ last ∷ []) same in
    let again : length (pieces ++ given ∷ []) ≡ length pieces + 1 = length-append pieces (given ∷ []) in
    subst (IsTracker f size clouds count) (sym whole) (record {
      low = is.low;
      high = is.high;
      small = is.small;
      order = is.order;
      asked = is.asked;
      few = omega (arith, little, again);
      pieces = AreGood-push f size pieces given is.pieces (ap (is_among given.cloud) p ∙ none)
          (subst (λ f. IsPiece f given) (sym n) form) (long ∙ sym s);
    })

length_of-good : (size : ℕ) (pieces : List KeptPiece) → length pieces ≢ 0 → All (λ piece. piece.length ≡ size) pieces
    → length_of pieces ≡ size
length_of-good size [] some long = absurd (some refl)
length_of-good size (piece ∷ pieces) some long = long 0 piece (omega arith)

-- more than f good pieces are enough
pub AreEnough-kept : (f size : ℕ) (clouds : List ℕ) (count : ℕ) (pieces : List KeptPiece)
    → IsTracker f size clouds count pieces → f + 1 ≤ length pieces → AreEnough f pieces
AreEnough-kept f size clouds count pieces is many =
    let whole : length_of pieces ≡ size = length_of-good size pieces (λ e. omega arith) is.pieces.long in
    record {
      as_many = omega (arith, is.few);
      different = is.pieces.different;
      each = is.pieces.each;
      one_length = λ k d l. is.pieces.long k d l ∙ sym whole;
      small = omega (arith, whole, is.small);
    }

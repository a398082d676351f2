-- The pieces of an open stay good ones of different clouds.
use Rattle.std.proofs.Common.{◌≡◌, ◌≢◌, arith, ℕ, List, [], ◌∷◌, ◌++◌, map, refl, sym, ◌∙◌, subst, Option, Some, None, Bool, true, false, not, ◌&&◌, ◌||◌, true≢false, append-nil, eq-eqb}
use Rattle.std.specs.Prelude.{◌==◌, if◌then◌else◌, option_to_list}
use Rattle.std.specs.List.{All, AllPairs, list_any}
use Rattle.std.proofs.lemmas.List.{map-append}
use Rattle.std.proofs.lemmas.List.Elements.{All-nil, All-cons}
use Rattle.std.proofs.lemmas.List.Quantifiers.{all_pairs_push}
use Rattle.scfs_base.specs.declared.naming.Digest.{Digest}
use Rattle.scfs_base.specs.declared.naming.RequestNo.{RequestNo}
use Rattle.scfs_base.specs.declared.cloud.CloudAnswer.{CloudAnswer}
use Rattle.scfs_base.specs.declared.cloud.CloudAnswer.TheVariants as answers
use Rattle.scfs_unit.specs.declared.pieces.KeptPiece.{KeptPiece}
use Rattle.scfs_model.specs.Format.{Setup}
use Rattle.scfs_model.specs.Asked.{is_answer_to}
use Rattle.scfs_model.specs.Reading.{Reading, if_size, piece_in, is_good, is_awaited}
use Rattle.scfs_laws.proofs.Lists.{each-append}
use Rattle.scfs_laws.proofs.SoundKept.{IsGood, IsFrom, AreGood, IsHeard}

sized_by : (b : Bool) (p piece : KeptPiece) → (if b then Some p else None) ≡ Some piece → Some p ≡ Some piece
sized_by true p piece h = h
sized_by false p piece h = cc

sized : (size : ℕ) (o : Option KeptPiece) (piece : KeptPiece) → if_size size o ≡ Some piece → o ≡ Some piece
sized size None piece h = h
sized size (Some p) piece h = sized_by (p.length == size) p piece h

not_some : {A : Type 0} (piece : KeptPiece) → None ≡ Some piece → A
not_some piece h = absurd (none h)
  where
    none : None ≡ Some piece → ⊥
    none e = cc

or_false : (a b : Bool) → (a || b) ≡ false → (a ≡ false) × (b ≡ false)
or_false true b h = absurd (true≢false h)
or_false false b h = (refl, h)

apart_from : (a c : ℕ) → (a == c) ≡ false → a ≢ c
apart_from a c h same = true≢false (sym (eq-eqb a c same) ∙ h)

-- pieces of other clouds
others : (c : ℕ) (pieces : List KeptPiece) → list_any (λ (p : KeptPiece). p.cloud == c) pieces ≡ false
    → All (λ a. a ≢ c) (map (λ (p : KeptPiece). p.cloud) pieces)
others c [] h = All-nil (λ a. a ≢ c)
others c (p ∷ ps) h =
    let parts = or_false (p.cloud == c) (list_any (λ (q : KeptPiece). q.cloud == c) ps) h in
    All-cons (λ a. a ≢ c) p.cloud (map (λ (q : KeptPiece). q.cloud) ps) (apart_from p.cloud c parts.0) (others c ps parts.1)

both : (a b : Bool) → (a && not b) ≡ true → b ≡ false
both true true h = absurd (true≢false (sym h))
both true false h = refl
both false b h = absurd (true≢false (sym h))

module _ (s : Setup) (Among : (c : ℕ) → (bytes : List ℕ) → Type 0) where
  pub none_good : (root : Digest) → AreGood s Among root []
  none_good root = record { each = tt; different = λ i j d less inside. absurd (omega arith) }

  heard_from : (r : Reading) (c : ℕ) (answer : CloudAnswer) (piece : KeptPiece) → IsHeard s Among c answer → piece_in s r c answer ≡ Some piece
      → IsFrom s Among r.root c piece
  heard_from r c (answers.Bytes bytes) piece h is = h r.root piece (sized r.size (s.format.check s.header.f c r.root bytes) piece is)
  heard_from r c other piece h is = not_some piece is

  pushed : (root : Digest) (pieces : List KeptPiece) (c : ℕ) (piece : KeptPiece) → AreGood s Among root pieces
      → All (λ a. a ≢ c) (map (λ (p : KeptPiece). p.cloud) pieces) → IsFrom s Among root c piece → AreGood s Among root (pieces ++ piece ∷ [])
  pushed root pieces c piece h apart from =
      let cloud : KeptPiece → ℕ = λ p. p.cloud in
      let new : All (λ a. a ≢ piece.cloud) (map cloud pieces) = subst (λ k. All (λ a. a ≢ k) (map cloud pieces)) (sym from.cloud) apart in
      record {
        each = each-append (IsGood s Among root) pieces (piece ∷ []) h.each (from.good, tt);
        different = subst (AllPairs (λ a b. a ≢ b)) (sym (map-append cloud pieces (piece ∷ [])))
            (all_pairs_push (λ a b. a ≢ b) (map cloud pieces) piece.cloud h.different new);
      }

  with_heard : (r : Reading) (c : ℕ) (there : Option KeptPiece) → AreGood s Among r.root r.pieces → is_good r c ≡ false
      → ((piece : KeptPiece) → there ≡ Some piece → IsFrom s Among r.root c piece) → AreGood s Among r.root (r.pieces ++ option_to_list there)
  with_heard r c None h new from = subst (AreGood s Among r.root) (sym (append-nil r.pieces)) h
  with_heard r c (Some piece) h new from = pushed r.root r.pieces c piece h (others c r.pieces new) (from piece refl)

  -- after an answer that counts
  pub heard_good : (r : Reading) (c : ℕ) (request : RequestNo) (answer : CloudAnswer) → AreGood s Among r.root r.pieces → IsHeard s Among c answer
      → is_awaited r c request ≡ true → AreGood s Among r.root (r.pieces ++ option_to_list (piece_in s r c answer))
  heard_good r c request answer h heard counts =
      with_heard r c (piece_in s r c answer) h (both (is_answer_to r.gets c request) (is_good r c) counts)
      (λ piece. heard_from r c answer piece heard)

use Rattle.std.proofs.Common.{◌≡◌, ℕ, ◌≤◌, List, [], ◌∷◌, length, cond, eqb, Bool, true, false, Some, Result, Ok, Err, MatchResult, refl, sym, ap, ◌∙◌, arith}
use Rattle.std.specs.Result.{is_ok}
use Rattle.std.specs.Prelude.{codes}
use Rattle.std.specs.Str.{IsUtf8, is_utf8, bytes_eq}
use Rattle.std.proofs.lemmas.Str.{IsUtf8-from_is_utf8, is_utf8-from_IsUtf8}
use Rattle.scfs_base.specs.Pieces.{pieces, onto}
use Rattle.scfs_anchor.specs.Names.{if_names, names_between, names_of}

no_text : (bytes : List ℕ) → (IsUtf8 bytes → ⊥) → is_utf8 bytes ≡ false
no_text bytes none = by_case (is_utf8 bytes) refl where
  by_case : (t : Bool) → is_utf8 bytes ≡ t → is_utf8 bytes ≡ false
  by_case true is = absurd (none (IsUtf8-from_is_utf8 bytes is))
  by_case false is = is

-- where reading bytes as text answers by what they are, whether it is Ok is the test
pub text_test : {T E : Type 0} (r : Result T E) (bytes : List ℕ) (P : T → Type 0) (Q : E → Type 0) → MatchResult r (λ t. P t × IsUtf8 bytes) (λ e. (IsUtf8 bytes → ⊥) × Q e) → is_ok r ≡ is_utf8 bytes
text_test (Ok t) bytes P Q h = sym (is_utf8-from_IsUtf8 bytes h.1)
text_test (Err e) bytes P Q h = sym (no_text bytes h.0)

length-onto : (b : ℕ) (ps : List (List ℕ)) → 1 ≤ length (onto b ps)
length-onto b [] = omega arith
length-onto b (p ∷ ps) = omega arith

-- there is always a piece
length-pieces : (mark : ℕ) (bs : List ℕ) → 1 ≤ length (pieces mark bs)
length-pieces mark [] = omega arith
length-pieces mark (b ∷ bs) =
    elim (eqb b mark) as (λ t. 1 ≤ length (cond t ([] ∷ pieces mark bs) (onto b (pieces mark bs)))) [ true ↦ omega arith | false ↦ length-onto b (pieces mark bs) ]

behind_nothing : (ps : List (List ℕ)) → 1 ≤ length ps → names_between ([] ∷ ps) ≡ if_names ps
behind_nothing [] h = absurd (omega arith)
behind_nothing (p ∷ ps) h = refl

-- what is read behind the first slash
pub reads_names : (bytes before text : List ℕ) → bytes_eq bytes (codes "/") ≡ false → pieces 47 bytes ≡ before ∷ pieces 47 text → before ≡ [] → names_of bytes ≡ if_names (pieces 47 text)
reads_names bytes before text other parts none =
    ap (λ t. cond t (Some []) (names_between (pieces 47 bytes))) other
    ∙ ap names_between parts
    ∙ ap (λ front. names_between (front ∷ pieces 47 text)) none
    ∙ behind_nothing (pieces 47 text) (length-pieces 47 text)

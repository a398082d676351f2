use Rattle.std.proofs.Common.{◌≡◌, ◌≢◌, ◌≤◌, ℕ, List, [], ◌∷◌, ◌++◌, refl, ap, ◌∙◌, sym, append_assoc, Bool, true, false, cond, eqb, Option, length, get_or, arith}
use Rattle.std.proofs.lemmas.Bool.{ne_eqb}
use Rattle.scfs_base.specs.Pieces.{onto, pieces}
use Rattle.scfs_schedule.specs.declared.types.Header.{Header}
use Rattle.scfs_live.specs.Finding.{body_found, event_found, event_read, kept_found}
use Rattle.scfs_live.specs.Keeping.{all_but_last, whole_lines}

-- a text has a last piece
first_onto : (b : ℕ) (line : List ℕ) (ps : List (List ℕ)) → all_but_last (line ∷ onto b ps) ≡ line ∷ all_but_last (onto b ps)
first_onto b line [] = refl
first_onto b line (p ∷ ps) = refl

by_test : (b : ℕ) (line : List ℕ) (ps : List (List ℕ)) (t : Bool) → all_but_last (line ∷ cond t ([] ∷ ps) (onto b ps)) ≡ line ∷ all_but_last (cond t ([] ∷ ps) (onto b ps))
by_test b line ps true = refl
by_test b line ps false = first_onto b line ps

-- a line before a text is one of its whole lines
pub all_but_last-pieces : (line text : List ℕ) → all_but_last (line ∷ pieces 10 text) ≡ line ∷ whole_lines text
all_but_last-pieces line [] = refl
all_but_last-pieces line (b ∷ bs) = by_test b line (pieces 10 bs) (eqb b 10)

-- one line more was cut off
pub lines_cut : (text rest line after : List ℕ) (lines : List (List ℕ)) → whole_lines text ≡ lines ++ whole_lines rest → pieces 10 rest ≡ line ∷ pieces 10 after
    → whole_lines text ≡ (lines ++ line ∷ []) ++ whole_lines after
lines_cut text rest line after lines so_far cut =
    so_far ∙ ap (λ ps. lines ++ all_but_last ps) cut ∙ ap (λ ls. lines ++ ls) (all_but_last-pieces line after) ∙ sym (append_assoc lines (line ∷ []) (whole_lines after))

-- a line that begins with another byte than a space is read as an event
pub event_line_found : (header : Header) (made : Option (List ℕ)) (line : List ℕ) → 1 ≤ length line → get_or line 0 0 ≢ 32
    → body_found header made line ≡ event_found made (event_read header line)
event_line_found header made [] some other = absurd (omega (arith, some))
event_line_found header made (byte ∷ rest) some other =
    ap (λ b. cond b (kept_found made rest) (event_found made (event_read header (byte ∷ rest)))) (ne_eqb byte 32 other)

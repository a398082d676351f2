use Rattle.std.proofs.Common.{◌≡◌, ℕ, ◌-◌, suc, List, [], ◌∷◌, length, ap, ◌∙◌, sym, eqb, arith}
use Rattle.std.specs.Prelude.{Some, slice_get}
use Rattle.scfs_live.specs.Finding.{is_left_out}

-- a line is left out where its last byte is `~`
pub last_mark : (line : List ℕ) (b : ℕ) → slice_get line (length line - 1) ≡ Some b → eqb b 126 ≡ is_left_out line
last_mark [] b h = cc
last_mark (x ∷ []) b h = ap (λ c. eqb c 126) (let e : b ≡ x = cc in e)
last_mark (x ∷ y ∷ xs) b h =
    let at : length (x ∷ y ∷ xs) - 1 ≡ suc (length (y ∷ xs) - 1) = omega arith in
    last_mark (y ∷ xs) b (ap (slice_get (x ∷ y ∷ xs)) (sym at) ∙ h)

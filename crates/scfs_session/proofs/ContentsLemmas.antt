use Rattle.std.proofs.Common.{◌≡◌, ℕ, ◌+◌, ◌-◌, ◌<◌, List, [], ◌∷◌, ◌++◌, length, replicate, suc, sym, ap, ◌∙◌, arith, append_assoc, length-append}

-- a zero more, and one less still to come
pub more_zeros : (bytes : List ℕ) (size : ℕ) → length bytes < size → (bytes ++ 0 ∷ []) ++ replicate (size - length (bytes ++ 0 ∷ [])) 0 ≡ bytes ++ replicate (size - length bytes) 0
more_zeros bytes size short =
    let n = size - (length bytes + 1) in
    let after : size - length (bytes ++ 0 ∷ []) ≡ n = simp length-append in
    let before : size - length bytes ≡ suc n = omega arith in
    ap (λ k. (bytes ++ 0 ∷ []) ++ replicate k 0) after
    ∙ append_assoc bytes (0 ∷ []) (replicate n 0)
    ∙ ap (λ k. bytes ++ replicate k 0) (sym before)

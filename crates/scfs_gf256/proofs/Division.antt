-- Two lists of as many coefficients as there are distinct places are one if their values there are the same. By
-- induction on the places: division by x - r takes one place and one coefficient away.
use Rattle.std.proofs.Common.{◌≡◌, ℕ, suc, ◌<◌, ◌≢◌, List, [], ◌∷◌, length, map, refl, sym, ap, ap₂, ◌∙◌, arith}
use Rattle.std.specs.Int.Bits.{bit_xor, xor_zero_r, xor_assoc, xor_comm}
use Rattle.scfs_gf256.specs.Field.{times}
use Rattle.scfs_gf256.specs.Polynomials.{value_of}
use Rattle.scfs_gf256.proofs.Linear.{xor_again, same_from_xor}
use Rattle.scfs_gf256.proofs.Times.{times-left, times-right, times-zero}
use Rattle.scfs_gf256.proofs.Powers.{times_swap, times_cancel}
use Rattle.scfs_gf256.proofs.Bytes.{Bytes, IsAbsent, AreApart, xor-byte}
use Rattle.scfs_gf256.proofs.Values.{value_of-lt, value_of-nil, value_of-cons}

-- the values at r of the list and of each list that is left when coefficients are dropped from the front
values_of_tails : ℕ → List ℕ → List ℕ
values_of_tails r [] = []
values_of_tails r (c ∷ cs) = value_of (c ∷ cs) r ∷ values_of_tails r cs

length-values_of_tails : (r : ℕ) (cs : List ℕ) → length (values_of_tails r cs) ≡ length cs
unfolding values_of_tails
length-values_of_tails r [] = refl
length-values_of_tails r (c ∷ cs) = ap suc (length-values_of_tails r cs)

Bytes-values_of_tails : (r : ℕ) (cs : List ℕ) → Bytes (values_of_tails r cs)
unfolding values_of_tails
Bytes-values_of_tails r [] = tt
Bytes-values_of_tails r (c ∷ cs) = (value_of-lt (c ∷ cs) r, Bytes-values_of_tails r cs)

-- (c + b) + ((a + b) + t) = c + (a + t)
twice_added : (c a b t : ℕ) → bit_xor (bit_xor c b) (bit_xor (bit_xor a b) t) ≡ bit_xor c (bit_xor a t)
twice_added c a b t =
    xor_assoc c b (bit_xor (bit_xor a b) t)
    ∙ ap (bit_xor c)
    (sym (xor_assoc b (bit_xor a b) t) ∙ ap (λ z. bit_xor z t) (ap (bit_xor b) (xor_comm a b) ∙ xor_again b a))

-- c + x (v + (x + r) t) = (c + r v) + (x + r) (v + x t)
regroup : (c x r v t : ℕ)
    → bit_xor c (times x (bit_xor v (times (bit_xor x r) t)))
    ≡ bit_xor (bit_xor c (times r v)) (times (bit_xor x r) (bit_xor v (times x t)))
regroup c x r v t =
    let rest = times x (times (bit_xor x r) t) in
    ap (bit_xor c) (times-right x v (times (bit_xor x r) t))
    ∙ sym (twice_added c (times x v) (times r v) rest)
    ∙ ap (bit_xor (bit_xor c (times r v)))
    (ap₂ bit_xor (sym (times-left v x r)) (times_swap x (bit_xor x r) t) ∙ sym (times-right (bit_xor x r) v (times x t)))

-- c(x) = c(r) + (x - r) q(x), where q has one coefficient less
divided : (r : ℕ) (c : ℕ) (cs : List ℕ) (x : ℕ) → c < 256 → Bytes cs
    → value_of (c ∷ cs) x ≡ bit_xor (value_of (c ∷ cs) r) (times (bit_xor x r) (value_of (values_of_tails r cs) x))
unfolding values_of_tails
divided r c [] x l h =
    constant x ∙ sym (ap₂ bit_xor (constant r) (ap (times (bit_xor x r)) (value_of-nil x) ∙ times-zero (bit_xor x r)) ∙ xor_zero_r c)
  where
    constant : (y : ℕ) → value_of (c ∷ []) y ≡ c
    constant y = value_of-cons c [] y l ∙ ap (bit_xor c) (ap (times y) (value_of-nil y) ∙ times-zero y) ∙ xor_zero_r c
divided r c (d ∷ ds) x l h =
    value_of-cons c (d ∷ ds) x l
    ∙ ap (λ v. bit_xor c (times x v)) (divided r d ds x h.0 h.1)
    ∙ regroup c x r (value_of (d ∷ ds) r) (value_of (values_of_tails r ds) x)
    ∙ sym (ap₂ bit_xor (value_of-cons c (d ∷ ds) r l)
    (ap (times (bit_xor x r)) (value_of-cons (value_of (d ∷ ds) r) (values_of_tails r ds) x (value_of-lt (d ∷ ds) r))))

xor_cancel : (a b c : ℕ) → bit_xor a b ≡ bit_xor a c → b ≡ c
xor_cancel a b c e = sym (xor_again a b) ∙ ap (bit_xor a) e ∙ xor_again a c

xor_cancel_right : (a b c : ℕ) → bit_xor a c ≡ bit_xor b c → a ≡ b
xor_cancel_right a b c e = xor_cancel c a b (xor_comm c a ∙ e ∙ xor_comm b c)

-- equal values at r, with equal coefficients but the first, mean equal first coefficients
same_first : (r c d : ℕ) (cs ds : List ℕ) → c < 256 → d < 256 → cs ≡ ds → value_of (c ∷ cs) r ≡ value_of (d ∷ ds) r
    → c ≡ d
same_first r c d cs ds l m e v =
    xor_cancel_right c d (times r (value_of cs r))
    (sym (value_of-cons c cs r l) ∙ v ∙ value_of-cons d ds r m ∙ ap (λ t. bit_xor d (times r (value_of t r))) (sym e))

same_from_tails : (r : ℕ) (cs ds : List ℕ) → Bytes cs → Bytes ds → values_of_tails r cs ≡ values_of_tails r ds
    → cs ≡ ds
unfolding values_of_tails
same_from_tails r [] [] h k e = refl
same_from_tails r [] (d ∷ ds) h k e = cc
same_from_tails r (c ∷ cs) [] h k e = cc
same_from_tails r (c ∷ cs) (d ∷ ds) h k e =
    let first : value_of (c ∷ cs) r ≡ value_of (d ∷ ds) r = cc in
    let others : values_of_tails r cs ≡ values_of_tails r ds = cc in
    let rest : cs ≡ ds = same_from_tails r cs ds h.1 k.1 others in
    ap₂ (λ (x : ℕ) (xs : List ℕ). x ∷ xs) (same_first r c d cs ds h.0 k.0 rest first) rest

-- the quotients agree at each place that is not r where the polynomials do
same_quotient : (r c d : ℕ) (cs ds : List ℕ) (x : ℕ) → c < 256 → Bytes cs → d < 256 → Bytes ds → x < 256 → r < 256
    → r ≢ x
    → value_of (c ∷ cs) r ≡ value_of (d ∷ ds) r → value_of (c ∷ cs) x ≡ value_of (d ∷ ds) x
    → value_of (values_of_tails r cs) x ≡ value_of (values_of_tails r ds) x
same_quotient r c d cs ds x lc hc ld hd lx lr apart at_r at_x =
    let p = values_of_tails r cs in
    let q = values_of_tails r ds in
    let away = bit_xor x r in
    times_cancel away (value_of p x) (value_of q x)
    (xor-byte x r lx lr) (λ e. apart (sym (same_from_xor x r e))) (value_of-lt p x) (value_of-lt q x)
    (xor_cancel (value_of (c ∷ cs) r) (times away (value_of p x)) (times away (value_of q x))
    (sym (divided r c cs x lc hc) ∙ at_x ∙ divided r d ds x ld hd ∙ ap (λ v. bit_xor v (times away (value_of q x))) (sym at_r)))

same_quotients : (r c d : ℕ) (cs ds : List ℕ) → c < 256 → Bytes cs → d < 256 → Bytes ds → r < 256
    → value_of (c ∷ cs) r ≡ value_of (d ∷ ds) r
    → (xs : List ℕ) → Bytes xs → IsAbsent r xs → map (value_of (c ∷ cs)) xs ≡ map (value_of (d ∷ ds)) xs
    → map (value_of (values_of_tails r cs)) xs ≡ map (value_of (values_of_tails r ds)) xs
same_quotients r c d cs ds lc hc ld hd lr at_r [] bytes absent e = refl
same_quotients r c d cs ds lc hc ld hd lr at_r (x ∷ xs) bytes absent e =
    let here : value_of (c ∷ cs) x ≡ value_of (d ∷ ds) x = cc in
    let later : map (value_of (c ∷ cs)) xs ≡ map (value_of (d ∷ ds)) xs = cc in
    ap₂ (λ (y : ℕ) (ys : List ℕ). y ∷ ys) (same_quotient r c d cs ds x lc hc ld hd bytes.0 lr absent.0 at_r here)
    (same_quotients r c d cs ds lc hc ld hd lr at_r xs bytes.1 absent.1 later)

-- values at as many different places fix a list of coefficients
pub same_coefficients : (xs c d : List ℕ) → Bytes xs → AreApart xs → length c ≡ length xs → length d ≡ length xs
    → Bytes c → Bytes d
    → map (value_of c) xs ≡ map (value_of d) xs → c ≡ d
same_coefficients [] [] [] bytes apart lc ld hc hd e = refl
same_coefficients [] (c ∷ cs) d bytes apart lc ld hc hd e = cc
same_coefficients [] [] (d ∷ ds) bytes apart lc ld hc hd e = cc
same_coefficients (x ∷ xs) [] d bytes apart lc ld hc hd e = cc
same_coefficients (x ∷ xs) (c ∷ cs) [] bytes apart lc ld hc hd e = cc
same_coefficients (x ∷ xs) (c ∷ cs) (d ∷ ds) bytes apart lc ld hc hd e =
    let here : value_of (c ∷ cs) x ≡ value_of (d ∷ ds) x = cc in
    let later : map (value_of (c ∷ cs)) xs ≡ map (value_of (d ∷ ds)) xs = cc in
    let quotients = same_coefficients xs (values_of_tails x cs) (values_of_tails x ds) bytes.1 apart.1
    (length-values_of_tails x cs ∙ omega arith) (length-values_of_tails x ds ∙ omega arith)
    (Bytes-values_of_tails x cs) (Bytes-values_of_tails x ds)
    (same_quotients x c d cs ds hc.0 hc.1 hd.0 hd.1 bytes.0 here xs bytes.1 apart.0 later) in
    let rest : cs ≡ ds = same_from_tails x cs ds hc.1 hd.1 quotients in
    ap₂ (λ (y : ℕ) (ys : List ℕ). y ∷ ys) (same_first x c d cs ds hc.0 hd.0 rest here) rest

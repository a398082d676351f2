-- Lagrange's sum fits: each of its polynomials is 0 at the other places, and the given value at its own.
use Rattle.std.proofs.Common.{◌≡◌, ℕ, suc, ◌<◌, ◌≢◌, List, [], ◌∷◌, ◌++◌, length, map, refl, sym, subst, ap, ap₂}
use Rattle.std.proofs.Common.{◌∙◌, arith, append_assoc, length-append}
use Rattle.std.proofs.lemmas.List.{length-replicate, length-map, append-nil}
use Rattle.std.specs.Int.Bits.{bit_xor, xor_zero_r, xor_assoc, xor_comm, xor_self}
use Rattle.scfs_gf256.specs.Field.{times, inverse_of}
use Rattle.scfs_gf256.specs.Rows.{row_sum, scaled}
use Rattle.scfs_gf256.specs.Polynomials.{value_of}
use Rattle.scfs_gf256.specs.Interpolation.{times_root, from_roots, lagrange_basis, lagrange_sum}
use Rattle.scfs_gf256.proofs.Linear.{same_from_xor}
use Rattle.scfs_gf256.proofs.Times.{times_assoc, times_comm, times-left, times-right, times-lt, times-zero}
use Rattle.scfs_gf256.proofs.Times.{zero-times, one-times, times-one}
use Rattle.scfs_gf256.proofs.Powers.{times_swap, times-not-zero, times-inverse_of}
use Rattle.scfs_gf256.proofs.Bytes.{Bytes, IsAbsent, AreApart, xor-byte, Bytes-row_sum, Bytes-scaled}
use Rattle.scfs_gf256.proofs.Bytes.{Bytes-replicate, Bytes-append, Bytes_left, Bytes_right, length-row_sum}
use Rattle.scfs_gf256.proofs.Bytes.{absent_from_others}
use Rattle.scfs_gf256.proofs.Values.{value_of-lt, value_of-nil, value_of-cons, value_of-row_sum, value_of-scaled}
use Rattle.scfs_gf256.proofs.Values.{value_of-replicate}

-- ---- the product of x - root over roots

length-times_root : (r lower : ℕ) (cs : List ℕ) → length (times_root r lower cs) ≡ suc (length cs)
unfolding times_root
length-times_root r lower [] = refl
length-times_root r lower (c ∷ cs) = ap suc (length-times_root r c cs)

Bytes-times_root : (r lower : ℕ) (cs : List ℕ) → lower < 256 → Bytes cs → Bytes (times_root r lower cs)
unfolding times_root
Bytes-times_root r lower [] l h = (l, tt)
Bytes-times_root r lower (c ∷ cs) l h = (xor-byte lower (times r c) l (times-lt r c), Bytes-times_root r c cs h.0 h.1)

-- (p + r c) + x (c + (x + r) v) = p + (x + r) (c + x v)
regroup : (p r c x v : ℕ)
    → bit_xor (bit_xor p (times r c)) (times x (bit_xor c (times (bit_xor x r) v)))
    ≡ bit_xor p (times (bit_xor x r) (bit_xor c (times x v)))
regroup p r c x v =
    xor_assoc p (times r c) (times x (bit_xor c (times (bit_xor x r) v)))
    ∙ ap (bit_xor p)
    (ap (bit_xor (times r c)) (times-right x c (times (bit_xor x r) v))
    ∙ sym (xor_assoc (times r c) (times x c) (times x (times (bit_xor x r) v)))
    ∙ ap₂ bit_xor (xor_comm (times r c) (times x c) ∙ sym (times-left c x r)) (times_swap x (bit_xor x r) v)
    ∙ sym (times-right (bit_xor x r) c (times x v)))

value_of-times_root : (r lower : ℕ) (cs : List ℕ) (x : ℕ) → lower < 256 → Bytes cs
    → value_of (times_root r lower cs) x ≡ bit_xor lower (times (bit_xor x r) (value_of cs x))
unfolding times_root
value_of-times_root r lower [] x l h =
    value_of-cons lower [] x l
    ∙ ap (bit_xor lower) (none x ∙ sym (none (bit_xor x r)))
  where
    none : (y : ℕ) → times y (value_of [] x) ≡ 0
    none y = ap (times y) (value_of-nil x) ∙ times-zero y
value_of-times_root r lower (c ∷ cs) x l h =
    value_of-cons (bit_xor lower (times r c)) (times_root r c cs) x (xor-byte lower (times r c) l (times-lt r c))
    ∙ ap (λ v. bit_xor (bit_xor lower (times r c)) (times x v)) (value_of-times_root r c cs x h.0 h.1)
    ∙ regroup lower r c x (value_of cs x)
    ∙ ap (λ v. bit_xor lower (times (bit_xor x r) v)) (sym (value_of-cons c cs x h.0))

pub length-from_roots : (rs : List ℕ) → length (from_roots rs) ≡ suc (length rs)
unfolding from_roots
length-from_roots [] = refl
length-from_roots (r ∷ rs) = length-times_root r 0 (from_roots rs) ∙ ap suc (length-from_roots rs)

pub Bytes-from_roots : (rs : List ℕ) → Bytes (from_roots rs)
unfolding from_roots
Bytes-from_roots [] = (omega arith, tt)
Bytes-from_roots (r ∷ rs) = Bytes-times_root r 0 (from_roots rs) (omega arith) (Bytes-from_roots rs)

pub value_of-from_roots-nil : (x : ℕ) → value_of (from_roots []) x ≡ 1
unfolding from_roots
value_of-from_roots-nil x =
    value_of-cons 1 [] x (omega arith) ∙ ap (bit_xor 1) (ap (times x) (value_of-nil x) ∙ times-zero x)

pub value_of-from_roots-cons : (r : ℕ) (rs : List ℕ) (x : ℕ)
    → value_of (from_roots (r ∷ rs)) x ≡ times (bit_xor x r) (value_of (from_roots rs) x)
unfolding from_roots
value_of-from_roots-cons r rs x = value_of-times_root r 0 (from_roots rs) x (omega arith) (Bytes-from_roots rs)

pub value_of-from_roots-append : (rs ss : List ℕ) (x : ℕ)
    → value_of (from_roots (rs ++ ss)) x ≡ times (value_of (from_roots rs) x) (value_of (from_roots ss) x)
value_of-from_roots-append [] ss x =
    sym (one-times (value_of (from_roots ss) x) (value_of-lt (from_roots ss) x))
    ∙ ap (λ v. times v (value_of (from_roots ss) x)) (sym (value_of-from_roots-nil x))
value_of-from_roots-append (r ∷ rs) ss x =
    value_of-from_roots-cons r (rs ++ ss) x
    ∙ ap (times (bit_xor x r)) (value_of-from_roots-append rs ss x)
    ∙ sym (times_assoc (bit_xor x r) (value_of (from_roots rs) x) (value_of (from_roots ss) x))
    ∙ ap (λ v. times v (value_of (from_roots ss) x)) (sym (value_of-from_roots-cons r rs x))

-- 0 at each root
zero_at_root : (before : List ℕ) (x : ℕ) (after : List ℕ) → value_of (from_roots (before ++ x ∷ after)) x ≡ 0
zero_at_root [] x after =
    value_of-from_roots-cons x after x ∙ ap (λ v. times v (value_of (from_roots after) x)) (xor_self x)
    ∙ zero-times (value_of (from_roots after) x)
zero_at_root (r ∷ before) x after =
    value_of-from_roots-cons r (before ++ x ∷ after) x ∙ ap (times (bit_xor x r)) (zero_at_root before x after)
    ∙ times-zero (bit_xor x r)

-- and nowhere else
pub not_zero_elsewhere : (rs : List ℕ) (x : ℕ) → x < 256 → Bytes rs → IsAbsent x rs → value_of (from_roots rs) x ≢ 0
not_zero_elsewhere [] x l h a e = absurd (omega (arith, e, value_of-from_roots-nil x))
not_zero_elsewhere (r ∷ rs) x l h a e =
    times-not-zero (bit_xor x r) (value_of (from_roots rs) x) (xor-byte x r l h.0) (value_of-lt (from_roots rs) x)
    (λ s. a.0 (same_from_xor x r s)) (not_zero_elsewhere rs x l h.1 a.1) (sym (value_of-from_roots-cons r rs x) ∙ e)

-- (before ++ x) ++ after
pub append-cons : (before : List ℕ) (x : ℕ) (after : List ℕ) → (before ++ x ∷ []) ++ after ≡ before ++ x ∷ after
append-cons before x after = append_assoc before (x ∷ []) after

length-others : (before : List ℕ) (x : ℕ) (after : List ℕ)
    → suc (length (before ++ after)) ≡ length (before ++ x ∷ after)
length-others before x after = omega (arith, length-append before after, length-append before (x ∷ after))

-- ---- the polynomial of one place

length-lagrange_basis : (others : List ℕ) (x : ℕ) → length (lagrange_basis others x) ≡ suc (length others)
unfolding lagrange_basis
length-lagrange_basis others x =
    length-map (from_roots others) (times (inverse_of (value_of (from_roots others) x))) ∙ length-from_roots others

pub value_of-lagrange_basis : (others : List ℕ) (x z : ℕ)
    → value_of (lagrange_basis others x) z
    ≡ times (inverse_of (value_of (from_roots others) x)) (value_of (from_roots others) z)
unfolding lagrange_basis
value_of-lagrange_basis others x z =
    value_of-scaled (inverse_of (value_of (from_roots others) x)) (from_roots others) z

basis_at_own : (others : List ℕ) (x : ℕ) → value_of (from_roots others) x ≢ 0
    → value_of (lagrange_basis others x) x ≡ 1
basis_at_own others x apart =
    let own = value_of (from_roots others) x in
    value_of-lagrange_basis others x x ∙ times_comm (inverse_of own) own
    ∙ times-inverse_of own (value_of-lt (from_roots others) x) apart

basis_elsewhere : (others : List ℕ) (x z : ℕ) → value_of (from_roots others) z ≡ 0
    → value_of (lagrange_basis others x) z ≡ 0
basis_elsewhere others x z root =
    let factor = inverse_of (value_of (from_roots others) x) in
    value_of-lagrange_basis others x z ∙ ap (times factor) root ∙ times-zero factor

-- ---- the sum

length-part : (others : List ℕ) (x y : ℕ) → length (scaled y (lagrange_basis others x)) ≡ suc (length others)
length-part others x y = length-map (lagrange_basis others x) (times y) ∙ length-lagrange_basis others x

lagrange_sum-cons : (before : List ℕ) (x : ℕ) (after : List ℕ) (y : ℕ) (ys : List ℕ)
    → lagrange_sum before (x ∷ after) (y ∷ ys)
    ≡ row_sum (scaled y (lagrange_basis (before ++ after) x)) (lagrange_sum (before ++ x ∷ []) after ys)
unfolding lagrange_sum
lagrange_sum-cons before x after y ys = refl

pub length-lagrange_sum : (before after ys : List ℕ) → length after ≡ length ys
    → length (lagrange_sum before after ys) ≡ length (before ++ after)
unfolding lagrange_sum
length-lagrange_sum before [] ys h = length-replicate (length before) 0 ∙ ap length (sym (append-nil before))
length-lagrange_sum before (x ∷ after) [] h = length-replicate (length (before ++ x ∷ after)) 0
length-lagrange_sum before (x ∷ after) (y ∷ ys) h =
    let rest = length-lagrange_sum (before ++ x ∷ []) after ys (omega arith) ∙ ap length (append-cons before x after) in
    let first = length-part (before ++ after) x y ∙ length-others before x after in
    ap length (lagrange_sum-cons before x after y ys)
    ∙ length-row_sum (scaled y (lagrange_basis (before ++ after) x)) (lagrange_sum (before ++ x ∷ []) after ys) (first ∙ sym rest)
    ∙ first

pub Bytes-lagrange_sum : (before after ys : List ℕ) → Bytes (lagrange_sum before after ys)
unfolding lagrange_sum
Bytes-lagrange_sum before [] ys = Bytes-replicate (length before)
Bytes-lagrange_sum before (x ∷ after) [] = Bytes-replicate (length (before ++ x ∷ after))
Bytes-lagrange_sum before (x ∷ after) (y ∷ ys) =
    Bytes-row_sum (scaled y (lagrange_basis (before ++ after) x)) (lagrange_sum (before ++ x ∷ []) after ys)
    (Bytes-scaled y (lagrange_basis (before ++ after) x))
    (Bytes-lagrange_sum (before ++ x ∷ []) after ys)

-- the value of the sum, one part at a time
pub value_of-lagrange_sum-nil : (before ys : List ℕ) (z : ℕ) → value_of (lagrange_sum before [] ys) z ≡ 0
unfolding lagrange_sum
value_of-lagrange_sum-nil before ys z = value_of-replicate (length before) z

pub value_of-lagrange_sum-cons : (before : List ℕ) (x : ℕ) (after : List ℕ) (y : ℕ) (ys : List ℕ) (z : ℕ)
    → length after ≡ length ys
    → value_of (lagrange_sum before (x ∷ after) (y ∷ ys)) z
    ≡ bit_xor (times y (value_of (lagrange_basis (before ++ after) x) z)) (value_of (lagrange_sum (before ++ x ∷ []) after ys) z)
value_of-lagrange_sum-cons before x after y ys z h =
    let basis = lagrange_basis (before ++ after) x in
    let rest = lagrange_sum (before ++ x ∷ []) after ys in
    let rest_long = length-lagrange_sum (before ++ x ∷ []) after ys h ∙ ap length (append-cons before x after) in
    let long = length-part (before ++ after) x y ∙ length-others before x after in
    ap (λ c. value_of c z) (lagrange_sum-cons before x after y ys)
    ∙ value_of-row_sum (scaled y basis) rest z (long ∙ sym rest_long)
    ∙ ap (λ v. bit_xor v (value_of rest z)) (value_of-scaled y basis z)

-- 0 at a place before
zero_before : (front : List ℕ) (x : ℕ) (back after ys : List ℕ) → length after ≡ length ys
    → value_of (lagrange_sum (front ++ x ∷ back) after ys) x ≡ 0
zero_before front x back [] ys h = value_of-lagrange_sum-nil (front ++ x ∷ back) ys x
zero_before front x back (a ∷ after) [] h = cc
zero_before front x back (a ∷ after) (y ∷ ys) h =
    let others = (front ++ x ∷ back) ++ after in
    let root : value_of (from_roots others) x ≡ 0 =
    ap (λ o. value_of (from_roots o) x) (append_assoc front (x ∷ back) after)
    ∙ zero_at_root front x (back ++ after) in
    let later =
    ap (λ o. value_of (lagrange_sum o after ys) x) (append_assoc front (x ∷ back) (a ∷ []))
    ∙ zero_before front x (back ++ a ∷ []) after ys (omega arith) in
    value_of-lagrange_sum-cons (front ++ x ∷ back) a after y ys x (omega arith)
    ∙ ap₂ bit_xor (ap (times y) (basis_elsewhere others a x root) ∙ times-zero y) later

-- the first part adds nothing at later places
first_vanishes : (before : List ℕ) (a : ℕ) (after : List ℕ) (y : ℕ) (ys : List ℕ) → length after ≡ length ys
    → (m n : List ℕ) → after ≡ m ++ n
    → map (value_of (lagrange_sum before (a ∷ after) (y ∷ ys))) n
    ≡ map (value_of (lagrange_sum (before ++ a ∷ []) after ys)) n
first_vanishes before a after y ys h m [] e = refl
first_vanishes before a after y ys h m (x ∷ n) e =
    let others = before ++ after in
    let root : value_of (from_roots others) x ≡ 0 =
    ap (λ o. value_of (from_roots (before ++ o)) x) e
    ∙ ap (λ o. value_of (from_roots o) x) (sym (append_assoc before m (x ∷ n)))
    ∙ zero_at_root (before ++ m) x n in
    ap₂ (λ (v : ℕ) (vs : List ℕ). v ∷ vs)
    (value_of-lagrange_sum-cons before a after y ys x h
    ∙ ap (λ v. bit_xor v (value_of (lagrange_sum (before ++ a ∷ []) after ys) x))
    (ap (times y) (basis_elsewhere others a x root) ∙ times-zero y))
    (first_vanishes before a after y ys h (m ++ x ∷ []) n (e ∙ sym (append-cons m x n)))

-- the sum fits at the places after
pub lagrange_sum-fits : (before after ys : List ℕ) → length after ≡ length ys → Bytes (before ++ after) → Bytes ys
    → AreApart (before ++ after)
    → map (value_of (lagrange_sum before after ys)) after ≡ ys
lagrange_sum-fits before [] [] h k l d = refl
lagrange_sum-fits before [] (y ∷ ys) h k l d = cc
lagrange_sum-fits before (a ∷ after) [] h k l d = cc
lagrange_sum-fits before (a ∷ after) (y ∷ ys) h k l d =
    let others = before ++ after in
    let places = Bytes_right before (a ∷ after) k in
    let bytes = Bytes-append before after (Bytes_left before (a ∷ after) k) places.1 in
    let apart = not_zero_elsewhere others a places.0 bytes (absent_from_others before a after d) in
    ap₂ (λ (v : ℕ) (vs : List ℕ). v ∷ vs)
    (value_of-lagrange_sum-cons before a after y ys a (omega arith)
    ∙ ap₂ bit_xor (ap (times y) (basis_at_own others a apart) ∙ times-one y l.0)
    (zero_before before a [] after ys (omega arith))
    ∙ xor_zero_r y)
    (first_vanishes before a after y ys (omega arith) [] after refl
    ∙ lagrange_sum-fits (before ++ a ∷ []) after ys (omega arith)
    (subst Bytes (sym (append-cons before a after)) k) l.1 (subst AreApart (sym (append-cons before a after)) d))

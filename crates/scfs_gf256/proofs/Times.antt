-- The laws of the product in the field. It is additive in each factor, so each law is computed at powers of two alone.
use Rattle.std.proofs.Common.{◌≡◌, ℕ, zero, suc, ◌+◌, ◌-◌, ◌*◌, ◌%◌, ◌^◌, ◌<◌, eqb, Bool, true, refl, sym, ap, ap₂}
use Rattle.std.proofs.Common.{◌∙◌, arith}
use Rattle.std.specs.Int.Bits.{bit_xor, xor_comm, xor_assoc, xor_self, xor_zero_r, xor_mod, xor_block}
use Rattle.std.specs.Int.{bit_at}
use Rattle.std.proofs.lemmas.Bool.{eqb-true}
use Rattle.std.proofs.Math.Dec.{ltb}
use borrow.Author.Tests.{ltb-true}
use Rattle.std.proofs.lemmas.Nat.{pow_pos}
use Rattle.std.proofs.lemmas.Nat.Bits.{bit_at_xor, bit_at-lt, bit_at_cat_low, bit_at_cat_high}
use Rattle.std.proofs.Math.Nat.{pow-suc}
use Rattle.scfs_gf256.specs.Field.{product_of, remainder_of, times}
use Rattle.scfs_gf256.proofs.Linear.{IsAdditive, same_below, additive-zero, xor_swap, below_from_basis}
use Rattle.scfs_gf256.proofs.Checks.{all_below, all_below-at, all_below-at_two, all_below-at_three}

-- ---- additive in each factor

-- the exclusive or of two bits picks a number as often as they do
bits_pick : (p q m : ℕ) → p < 2 → q < 2 → (p + q) % 2 * m ≡ bit_xor (p * m) (q * m)
bits_pick zero zero m _ _ = let e : 0 * m ≡ 0 = omega arith in rw e
bits_pick zero (suc zero) m _ _ = let e : 0 * m ≡ 0 = omega arith in let f : 1 * m ≡ m = omega arith in rw (e, f)
bits_pick (suc zero) zero m _ _ = let e : 0 * m ≡ 0 = omega arith in let f : 1 * m ≡ m = omega arith in rw (e, f) (sym (xor_zero_r m))
bits_pick (suc zero) (suc zero) m _ _ = let e : 0 * m ≡ 0 = omega arith in rw e (sym (xor_self (1 * m)))
bits_pick (suc (suc p)) q m h _ = absurd (omega arith)
bits_pick p (suc (suc q)) m _ h = absurd (omega arith)

bit_at-pick : (a b j m : ℕ) → bit_at (bit_xor a b) j * m ≡ bit_xor (bit_at a j * m) (bit_at b j * m)
bit_at-pick a b j m =
    ap (λ x. x * m) (bit_at_xor a b j) ∙ bits_pick (bit_at a j) (bit_at b j) m (bit_at-lt a j) (bit_at-lt b j)

none : (m : ℕ) → 0 * m ≡ 0
none m = omega arith

once : (m : ℕ) → 1 * m ≡ m
once m = omega arith

pick-xor : (p a b : ℕ) → p < 2 → p * bit_xor a b ≡ bit_xor (p * a) (p * b)
pick-xor zero a b _ = none (bit_xor a b) ∙ sym (ap₂ bit_xor (none a) (none b))
pick-xor (suc zero) a b _ = once (bit_xor a b) ∙ sym (ap₂ bit_xor (once a) (once b))
pick-xor (suc (suc p)) a b h = absurd (omega arith)

plus_none : (m : ℕ) → m + 0 ≡ m
plus_none m = omega arith

shift-xor : (k a b : ℕ) → bit_xor a b * 2 ^ k ≡ bit_xor (a * 2 ^ k) (b * 2 ^ k)
shift-xor k a b =
    sym (xor_block k a b 0 0 (pow_pos k) (pow_pos k) ∙ plus_none (bit_xor a b * 2 ^ k))
    ∙ ap₂ bit_xor (plus_none (a * 2 ^ k)) (plus_none (b * 2 ^ k))

product_of-left : (n b : ℕ) → IsAdditive (λ a. product_of n a b)
unfolding product_of
product_of-left zero b a c = refl
product_of-left (suc j) b a c =
    ap₂ bit_xor (product_of-left j b a c)
    (ap (λ x. bit_at b j * x) (shift-xor j a c) ∙ pick-xor (bit_at b j) (a * 2 ^ j) (c * 2 ^ j) (bit_at-lt b j))
    ∙ xor_swap (product_of j a b) (product_of j c b) (bit_at b j * (a * 2 ^ j)) (bit_at b j * (c * 2 ^ j))

product_of-right : (n a : ℕ) → IsAdditive (product_of n a)
unfolding product_of
product_of-right zero a b c = refl
product_of-right (suc j) a b c =
    ap₂ bit_xor (product_of-right j a b c) (bit_at-pick b c j (a * 2 ^ j))
    ∙ xor_swap (product_of j a b) (product_of j a c) (bit_at b j * (a * 2 ^ j)) (bit_at c j * (a * 2 ^ j))

remainder_of-additive : (n : ℕ) → IsAdditive (remainder_of n)
unfolding remainder_of
remainder_of-additive zero a b = refl
remainder_of-additive (suc n) a b =
    let m = 0x11b * 2 ^ n in
    ap (remainder_of n)
    (ap (bit_xor (bit_xor a b)) (bit_at-pick a b (8 + n) m) ∙ xor_swap a b (bit_at a (8 + n) * m) (bit_at b (8 + n) * m))
    ∙ remainder_of-additive n (bit_xor a (bit_at a (8 + n) * m)) (bit_xor b (bit_at b (8 + n) * m))

-- (a + b) c = a c + b c
pub times-left : (c a b : ℕ) → times (bit_xor a b) c ≡ bit_xor (times a c) (times b c)
unfolding times
times-left c a b =
    ap (λ x. remainder_of 7 (product_of 8 x (c % 256))) (xor_mod a b 8)
    ∙ ap (remainder_of 7) (product_of-left 8 (c % 256) (a % 256) (b % 256))
    ∙ remainder_of-additive 7 (product_of 8 (a % 256) (c % 256)) (product_of 8 (b % 256) (c % 256))

-- c (a + b) = c a + c b
pub times-right : (c a b : ℕ) → times c (bit_xor a b) ≡ bit_xor (times c a) (times c b)
unfolding times
times-right c a b =
    ap (λ x. remainder_of 7 (product_of 8 (c % 256) x)) (xor_mod a b 8)
    ∙ ap (remainder_of 7) (product_of-right 8 (c % 256) (a % 256) (b % 256))
    ∙ remainder_of-additive 7 (product_of 8 (c % 256) (a % 256)) (product_of 8 (c % 256) (b % 256))

pub zero-times : (a : ℕ) → times 0 a ≡ 0
zero-times a = additive-zero (λ x. times x a) (times-left a)

pub times-zero : (a : ℕ) → times a 0 ≡ 0
times-zero a = additive-zero (times a) (times-right a)

-- ---- computed at powers of two

twice_low : (a : ℕ) → a % 256 % 256 ≡ a % 256
twice_low a = omega arith

byte_is : (a : ℕ) → a < 256 → a % 256 ≡ a
byte_is a l = omega arith

-- of a number, the last eight bits count
times-low : (a b : ℕ) → times (a % 256) (b % 256) ≡ times a b
unfolding times
times-low a b = ap₂ (λ x y. remainder_of 7 (product_of 8 x y)) (twice_low a) (twice_low b)

-- two functions additive in each of two bytes are one if they agree at powers of two
same_at_bytes : (F G : ℕ → ℕ → ℕ) → ((b : ℕ) → IsAdditive (λ a. F a b)) → ((b : ℕ) → IsAdditive (λ a. G a b))
    → ((a : ℕ) → IsAdditive (F a)) → ((a : ℕ) → IsAdditive (G a))
    → ((i j : ℕ) → i < 8 → j < 8 → F (2 ^ i) (2 ^ j) ≡ G (2 ^ i) (2 ^ j)) → (a b : ℕ) → a < 256 → b < 256
    → F a b ≡ G a b
same_at_bytes F G fl gl fr gr basis a b l m =
    same_below (λ x. F x b) (λ x. G x b) (fl b) (gl b) 8
    (λ (i : ℕ) (k : i < 8).
    same_below (F (2 ^ i)) (G (2 ^ i)) (fr (2 ^ i)) (gr (2 ^ i)) 8 (λ (j : ℕ) (o : j < 8). basis i j k o) b m) a l

commutes_at : ℕ → ℕ → Bool
commutes_at i j = eqb (times (2 ^ i) (2 ^ j)) (times (2 ^ j) (2 ^ i))

commutes_check : all_below 8 (λ i. all_below 8 (commutes_at i)) ≡ true
unfolding all_below commutes_at times product_of remainder_of
commutes_check = refl

associates_at : ℕ → ℕ → ℕ → Bool
associates_at i j k = eqb (times (times (2 ^ i) (2 ^ j)) (2 ^ k)) (times (2 ^ i) (times (2 ^ j) (2 ^ k)))

associates_check : all_below 8 (λ i. all_below 8 (λ j. all_below 8 (associates_at i j))) ≡ true
unfolding all_below associates_at times product_of remainder_of
associates_check = refl

pub times_comm : (a b : ℕ) → times a b ≡ times b a
unfolding commutes_at
times_comm a b =
    sym (times-low a b)
    ∙ same_at_bytes times (λ x y. times y x) times-left times-right times-right times-left
    (λ i j l m. eqb-true (times (2 ^ i) (2 ^ j)) (times (2 ^ j) (2 ^ i)) (all_below-at_two 8 commutes_at commutes_check i j l m))
    (a % 256) (b % 256) (omega arith) (omega arith)
    ∙ times-low b a

-- (a b) c and a (b c) are additive in each factor
module _ (c : ℕ) where
  left_then : (b : ℕ) → IsAdditive (λ a. times (times a b) c)
  left_then b x y = ap (λ z. times z c) (times-left b x y) ∙ times-left c (times x b) (times y b)

  middle_then : (a : ℕ) → IsAdditive (λ b. times (times a b) c)
  middle_then a x y = ap (λ z. times z c) (times-right a x y) ∙ times-left c (times a x) (times a y)

  then_middle : (a : ℕ) → IsAdditive (λ b. times a (times b c))
  then_middle a x y = ap (times a) (times-left c x y) ∙ times-right a (times x c) (times y c)

associates_at_bytes : (a b c : ℕ) → a < 256 → b < 256 → c < 256 → times (times a b) c ≡ times a (times b c)
unfolding associates_at
associates_at_bytes a b c l m n =
    same_at_bytes (λ x y. times (times x y) c) (λ x y. times x (times y c))
    (left_then c) (λ y. times-left (times y c)) (middle_then c) (then_middle c)
    (λ i j k o.
    same_below (times (times (2 ^ i) (2 ^ j))) (λ z. times (2 ^ i) (times (2 ^ j) z))
    (times-right (times (2 ^ i) (2 ^ j))) (λ x y. ap (times (2 ^ i)) (times-right (2 ^ j) x y) ∙ times-right (2 ^ i) (times (2 ^ j) x) (times (2 ^ j) y)) 8
    (λ (r : ℕ) (q : r < 8).
    eqb-true (times (times (2 ^ i) (2 ^ j)) (2 ^ r)) (times (2 ^ i) (times (2 ^ j) (2 ^ r)))
    (all_below-at_three 8 associates_at associates_check i j r k o q))
    c n)
    a b l m

-- a product is a byte
below_at : ℕ → ℕ → Bool
below_at i j = ltb (times (2 ^ i) (2 ^ j)) 256

below_check : all_below 8 (λ i. all_below 8 (below_at i)) ≡ true
unfolding all_below below_at times product_of remainder_of
below_check = refl

below_at_bytes : (a b : ℕ) → a < 256 → b < 256 → times a b < 256
unfolding below_at
below_at_bytes a b l m =
    below_from_basis (λ x. times x b) (times-left b) 8
    (λ (i : ℕ) (k : i < 8).
    below_from_basis (times (2 ^ i)) (times-right (2 ^ i)) 8
    (λ (j : ℕ) (o : j < 8). ltb-true (times (2 ^ i) (2 ^ j)) 256 (all_below-at_two 8 below_at below_check i j k o)) b m)
    a l

pub times-lt : (a b : ℕ) → times a b < 256
times-lt a b =
    let low : times (a % 256) (b % 256) < 256 = below_at_bytes (a % 256) (b % 256) (omega arith) (omega arith) in
    omega (arith, times-low a b)

pub times_assoc : (a b c : ℕ) → times (times a b) c ≡ times a (times b c)
times_assoc a b c =
    ap (λ x. times x c) (sym (times-low a b))
    ∙ sym (times-low (times (a % 256) (b % 256)) c)
    ∙ ap (λ x. times x (c % 256)) (byte_is (times (a % 256) (b % 256)) (times-lt (a % 256) (b % 256)))
    ∙ associates_at_bytes (a % 256) (b % 256) (c % 256) (omega arith) (omega arith) (omega arith)
    ∙ ap (times (a % 256)) (sym (byte_is (times (b % 256) (c % 256)) (times-lt (b % 256) (c % 256))))
    ∙ times-low a (times (b % 256) (c % 256))
    ∙ ap (times a) (times-low b c)

-- 1 is the unit, of bytes
one_at : ℕ → Bool
one_at i = eqb (times 1 (2 ^ i)) (2 ^ i)

one_check : all_below 8 one_at ≡ true
unfolding all_below one_at times product_of remainder_of
one_check = refl

pub one-times : (a : ℕ) → a < 256 → times 1 a ≡ a
unfolding one_at
one-times a l =
    same_below (times 1) (λ x. x) (times-right 1) (λ x y. refl) 8
    (λ (i : ℕ) (k : i < 8). eqb-true (times 1 (2 ^ i)) (2 ^ i) (all_below-at 8 one_at one_check i k)) a l

pub times-one : (a : ℕ) → a < 256 → times a 1 ≡ a
times-one a l = times_comm a 1 ∙ one-times a l

-- ---- the remainder differs from the polynomial by a multiple of the divisor

product_of-low : (n a b c : ℕ) → ((i : ℕ) → i < n → bit_at b i ≡ bit_at c i) → product_of n a b ≡ product_of n a c
unfolding product_of
product_of-low zero a b c h = refl
product_of-low (suc j) a b c h =
    ap₂ bit_xor (product_of-low j a b c (λ i l. h i (omega arith))) (ap (λ x. x * (a * 2 ^ j)) (h j (omega arith)))

bit_at-zero_shift : (p : ℕ) → p < 2 → bit_at p 0 ≡ p
bit_at-zero_shift p l = omega arith

-- one more power of the quotient
quotient-suc : (n a bit q : ℕ) → bit < 2 → q < 2 ^ n
    → product_of (suc n) a (bit * 2 ^ n + q) ≡ bit_xor (product_of n a q) (bit * (a * 2 ^ n))
unfolding product_of
quotient-suc n a bit q l m =
    ap₂ bit_xor (product_of-low n a (bit * 2 ^ n + q) q (λ i k. bit_at_cat_low bit n q i k))
    (ap (λ x. x * (a * 2 ^ n)) (bit_at_cat_high bit n q n m (omega arith) ∙ ap (bit_at bit) (none n) ∙ bit_at-zero_shift bit l))
  where
    none : (n : ℕ) → n - n ≡ 0
    none n = omega arith

quotient-lt : (n bit q : ℕ) → bit < 2 → q < 2 ^ n → bit * 2 ^ n + q < 2 ^ suc n
quotient-lt n zero q l m = omega (arith, pow-suc 2 n)
quotient-lt n (suc zero) q l m = omega (arith, pow-suc 2 n)
quotient-lt n (suc (suc bit)) q l m = absurd (omega arith)

-- (q + b) + r with q + r = p + b is p
put_back : (p b q r : ℕ) → bit_xor q r ≡ bit_xor p b → bit_xor (bit_xor q b) r ≡ p
put_back p b q r e =
    ap (λ x. bit_xor x r) (xor_comm q b) ∙ xor_assoc b q r ∙ ap (bit_xor b) (e ∙ xor_comm p b) ∙ sym (xor_assoc b b p)
    ∙ ap (λ x. bit_xor x p) (xor_self b)

remainder_of-rest : (n p : ℕ) → (q : ℕ) × (q < 2 ^ n) × (bit_xor (product_of n 0x11b q) (remainder_of n p) ≡ p)
unfolding product_of remainder_of
remainder_of-rest zero p = (0, omega arith, refl)
remainder_of-rest (suc n) p =
    let bit = bit_at p (8 + n) in
    let taken = bit * (0x11b * 2 ^ n) in
    let rest = remainder_of-rest n (bit_xor p taken) in
    let q = rest.0 in (
      bit * 2 ^ n + q,
      quotient-lt n bit q (bit_at-lt p (8 + n)) rest.1,
      ap (λ x. bit_xor x (remainder_of n (bit_xor p taken))) (quotient-suc n 0x11b bit q (bit_at-lt p (8 + n)) rest.1)
          ∙ put_back p taken (product_of n 0x11b q) (remainder_of n (bit_xor p taken)) rest.2,
    )

-- the product of the polynomials is a multiple of 0x11b and the product in the field
pub times-remainder : (a b : ℕ) → a < 256 → b < 256
    → (q : ℕ) × (product_of 8 a b ≡ bit_xor (product_of 7 0x11b q) (times a b))
unfolding times
times-remainder a b l m =
    let rest = remainder_of-rest 7 (product_of 8 a b) in (
      rest.0,
      sym rest.2
          ∙ ap (bit_xor (product_of 7 0x11b rest.0))
          (ap (remainder_of 7) (ap₂ (product_of 8) (sym (byte_is a l)) (sym (byte_is b m)))),
    )

-- A row put behind bytes.
use Rattle.std.proofs.Common.{◌≡◌, ℕ, ◌+◌, ◌-◌, ◌≤◌, List, ◌++◌, length, take, drop, replicate, sym, ap, ap₂, ◌∙◌, arith}
use Rattle.std.proofs.lemmas.List.{append_assoc, length-append, length-replicate, take_at, drop_at, take_all}
use borrow.Rule.Slice.PartMut.{put_mid}

-- bytes made longer by zeros
pub longer : (old new : List ℕ) (n size long : ℕ) → length old ≡ long → n ≡ long + size
    → new ≡ take n old ++ replicate (n - long) 0 → new ≡ old ++ replicate size 0
longer old new n size long many end is =
    let rest : n - long ≡ size = omega arith in
    is ∙ ap₂ (λ (front : List ℕ) (zeros : ℕ). front ++ replicate zeros 0) (take_all n old (omega arith)) rest

module _ (old whole : List ℕ) (start size : ℕ) (place : start ≡ length old) (is : whole ≡ old ++ replicate size 0) where
  -- what a write to the zeros leaves
  pub put_behind : (now row tail : List ℕ) (part long : ℕ) → now ≡ row → length now ≡ size → long ≡ start + size
      → take long (put_mid start part whole now ++ tail) ≡ old ++ row
  put_behind now row tail part long same many end =
      let front : take start whole ≡ old = ap (take start) is ∙ take_at old (replicate size 0) start (sym place) in
      let post = drop part (drop start whole) in
      let many_before : length (take start whole) ≡ length old = ap length front in
      ap (take long)
      (append_assoc (take start whole) (now ++ post) tail ∙ ap (λ r. take start whole ++ r) (append_assoc now post tail)
      ∙ sym (append_assoc (take start whole) now (post ++ tail)))
      ∙ take_at (take start whole ++ now) (post ++ tail) long (omega (arith, length-append (take start whole) now))
      ∙ ap₂ (λ (a b : List ℕ). a ++ b) front same

  -- the zeros are what is written to
  pub zeros_behind : (part : ℕ) → part ≡ length whole - start → take part (drop start whole) ≡ replicate size 0
  zeros_behind part e =
      let zeros : drop start whole ≡ replicate size 0 = ap (drop start) is ∙ drop_at old (replicate size 0) start (sym place) in
      let many : length whole ≡ length old + size =
      ap length is ∙ length-append old (replicate size 0) ∙ ap (λ n. length old + n) (length-replicate {A = ℕ} size 0) in
      ap (take part) zeros ∙ take_all part (replicate size 0) (omega (arith, length-replicate {A = ℕ} size 0))

-- What a list by last use has of the uses: of these, read backwards, the first different keys, as many as it keeps.
use Rattle.std.proofs.Common.{◌≡◌, ◌∙◌, ℕ, zero, suc, Bool, true, false, cond, not, List, [], ◌∷◌, take, refl, ap}
use Rattle.std.specs.List.{AllByRecursion}
use Rattle.std.specs.Cmp.{IsEquivalence}
use Rattle.scfs_cache.specs.Uses.{without, used, after_uses, last_uses}

module _ {K V : Type 0} (same : K → K → Bool) (laws : IsEquivalence same) where
  -- no entry of these has a key
  abbrev IsApart : K → List (K × V) → Type 0
  IsApart key es = AllByRecursion (λ (e : K × V). same key e.0 ≡ false) es

  -- no entry behind one has its key
  abbrev IsOnce : List (K × V) → Type 0
  IsOnce [] = Unit {0}
  IsOnce (e ∷ es) = IsApart e.0 es × IsOnce es

  apart-without : (other key : K) (es : List (K × V)) → IsApart other es → IsApart other (without same key es)
  apart-without other key [] apart = tt
  apart-without other key (e ∷ es) apart =
      elim (same key e.0) as (λ b. IsApart other (cond (not b) (e ∷ without same key es) (without same key es))) [
        | true ↦ apart-without other key es apart.1
        | false ↦ (apart.0, apart-without other key es apart.1)
      ]

  -- a key is not in the list without it
  apart_of-without : (key : K) (es : List (K × V)) → IsApart key (without same key es)
  apart_of-without key [] = tt
  apart_of-without key (e ∷ es) =
      (elim (same key e.0) as (λ b. same key e.0 ≡ b
      → IsApart key (cond (not b) (e ∷ without same key es) (without same key es))) [
        | true ↦ λ is. apart_of-without key es
        | false ↦ λ is. (is, apart_of-without key es)
      ]) refl

  once-without : (key : K) (es : List (K × V)) → IsOnce es → IsOnce (without same key es)
  once-without key [] once = tt
  once-without key (e ∷ es) once =
      elim (same key e.0) as (λ b. IsOnce (cond (not b) (e ∷ without same key es) (without same key es))) [
        | true ↦ once-without key es once.1
        | false ↦ (apart-without e.0 key es once.0, once-without key es once.1)
      ]

  once-last_uses : (uses : List (K × V)) → IsOnce (last_uses same uses)
  once-last_uses [] = tt
  once-last_uses (latest ∷ earlier) =
      let before = last_uses same earlier in
      (apart_of-without latest.0 before, once-without latest.0 before (once-last_uses earlier))

  -- where no entry has a key, none is taken away
  without-apart : (key : K) (es : List (K × V)) → IsApart key es → without same key es ≡ es
  without-apart key [] apart = refl
  without-apart key (e ∷ es) apart = rw apart.0 (ap (λ t. e ∷ t) (without-apart key es apart.1))

  -- what is apart from a key is apart from the same
  apart-same : (key other : K) → same key other ≡ true → (es : List (K × V)) → IsApart other es → IsApart key es
  apart-same key other is [] apart = tt
  apart-same key other is (e ∷ es) apart = (laws.congr key other e.0 is ∙ apart.0, apart-same key other is es apart.1)

  apart-take : (n : ℕ) (key : K) (es : List (K × V)) → IsApart key es → IsApart key (take n es)
  apart-take zero key es apart = tt
  apart-take (suc n) key [] apart = tt
  apart-take (suc n) key (e ∷ es) apart = (apart.0, apart-take n key es apart.1)

  take_twice : (n : ℕ) (es : List (K × V)) → take n (take n es) ≡ take n es
  take_twice zero es = refl
  take_twice (suc n) [] = refl
  take_twice (suc n) (e ∷ es) = ap (λ t. e ∷ t) (take_twice n es)

  -- one entry at most is taken away, so the first that stay are those of the first and one more
  take-without : (n : ℕ) (key : K) (es : List (K × V)) → IsOnce es
      → take n (without same key (take (suc n) es)) ≡ take n (without same key es)
  take-without zero key es once = refl
  take-without (suc n) key [] once = refl
  take-without (suc n) key (e ∷ es) once =
      (elim (same key e.0) as (λ b. same key e.0 ≡ b
      → take (suc n) (cond (not b) (e ∷ without same key (take (suc n) es)) (without same key (take (suc n) es)))
      ≡ take (suc n) (cond (not b) (e ∷ without same key es) (without same key es))) [
        | true ↦ λ is.
            let apart = apart-same key e.0 is es once.0 in
            rw (without-apart key es apart, without-apart key (take (suc n) es) (apart-take (suc n) key es apart))
            (take_twice (suc n) es)
        | false ↦ λ is. ap (λ t. e ∷ t) (take-without n key es once.1)
      ]) refl

  -- one more use of a list that has the last uses
  pub used-last_uses : (most : ℕ) (key : K) (value : V) (uses : List (K × V))
      → used same most key value (take most (last_uses same uses)) ≡ take most (last_uses same ((key, value) ∷ uses))
  used-last_uses zero key value uses = refl
  used-last_uses (suc n) key value uses =
      ap (λ t. (key, value) ∷ t) (take-without n key (last_uses same uses) (once-last_uses uses))

  -- what uses leave of an empty list are the last uses
  pub after_uses-last_uses : (most : ℕ) (uses : List (K × V)) → after_uses same most uses ≡ take most (last_uses same uses)
  after_uses-last_uses zero [] = refl
  after_uses-last_uses (suc n) [] = refl
  after_uses-last_uses most (latest ∷ earlier) =
      ap (used same most latest.0 latest.1) (after_uses-last_uses most earlier)
      ∙ used-last_uses most latest.0 latest.1 earlier

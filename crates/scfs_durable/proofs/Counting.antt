-- Of different clouds, all but as many as there are liars are none of these.
use Rattle.std.proofs.Common.{◌≡◌, ◌≢◌, ℕ, zero, suc, ◌+◌, ◌≤◌, List, [], ◌∷◌, length, refl, sym, Bool, true, false, eqb-true, eq-eqb, true≢false, ◌∙◌, arith, Contains}
use Rattle.std.specs.Prelude.{◌==◌}
use Rattle.std.specs.List.{All, AllPairs}
use Rattle.std.proofs.lemmas.List.Elements.{All-contains}
use Rattle.scfs_laws.proofs.Lists.{Each, Pairs, each-map, each-inside, each-always}

pub each_from_all : {X : Type 0} (P : X → Type 0) (xs : List X) → All P xs → Each P xs
each_from_all P xs h = each-inside (λ x. Unit {0}) P xs (λ x inside any. All-contains P xs x h inside) (each-always (λ x. Unit {0}) (λ x. tt) xs)

pub pairs_from_all : (ns : List ℕ) → AllPairs (λ m n. m ≢ n) ns → Pairs (λ m n. m ≢ n) ns
pairs_from_all [] h = tt
pairs_from_all (n ∷ ns) h = (
  each-inside (λ m. Unit {0}) (λ m. n ≢ m) ns (λ m inside any same. h 0 (suc inside.0) m (omega arith) (omega (arith, inside.1)) (same ∙ sym inside.2))
      (each-always (λ m. Unit {0}) (λ m. tt) ns),
  pairs_from_all ns (λ i j d less inside. h (suc i) (suc j) d (omega (arith, less)) (omega (arith, inside))),
)

pub record IsPicked (P : ℕ → Type 0) (clouds liars : List ℕ) : Type 0 where
  pub good : List ℕ
  pub differ : Pairs (λ m n. m ≢ n) good
  pub each : Each P good
  pub long : length clouds ≤ length good + length liars

-- without one liar
record IsWithout (P : ℕ → Type 0) (l : ℕ) (ns : List ℕ) : Type 0 where
  rest : List ℕ
  differ : Pairs (λ m n. m ≢ n) rest
  each : Each (λ m. P m × (m ≢ l)) rest
  others : (k : ℕ) → Each (λ m. k ≢ m) ns → Each (λ m. k ≢ m) rest
  long : length ns ≤ length rest + 1

without_one : (P : ℕ → Type 0) (l : ℕ) (ns : List ℕ) → Pairs (λ m n. m ≢ n) ns → Each P ns → IsWithout P l ns
without_one P l [] h each = record { rest = []; differ = tt; each = tt; others = λ k is. tt; long = omega arith }
without_one P l (m ∷ ms) h each = by (m == l) refl (without_one P l ms h.1 each.1)
  where
    by : (b : Bool) → (m == l) ≡ b → IsWithout P l ms → IsWithout P l (m ∷ ms)
    by true is w =
        let same = eqb-true m l is in
        record {
          rest = ms;
          differ = h.1;
          others = λ k all. all.1;
          long = omega arith;
          each = both ms each.1 (each-map (λ k. m ≢ k) (λ k. k ≢ l) (λ k apart e. apart (same ∙ sym e)) ms h.0);
        }
      where
        both : (ks : List ℕ) → Each P ks → Each (λ k. k ≢ l) ks → Each (λ k. P k × (k ≢ l)) ks
        both [] x y = tt
        both (k ∷ ks) x y = ((x.0, y.0), both ks x.1 y.1)
    by false is w =
        let long : length ms ≤ length w.rest + 1 = w.long in
        record {
          rest = m ∷ w.rest;
          differ = (w.others m h.0, w.differ);
          each = ((each.0, λ e. true≢false (sym (eq-eqb m l e) ∙ is)), w.each);
          others = λ k all. (all.0, w.others k all.1);
          long = omega (arith, long);
        }

pub pick : (P : ℕ → Type 0) (clouds liars : List ℕ) → Pairs (λ m n. m ≢ n) clouds → Each P clouds
    → IsPicked (λ c. P c × ¬ Contains liars c) clouds liars
pick P clouds [] h each =
    record {
      good = clouds;
      differ = h;
      each = each-map P (λ c. P c × ¬ Contains {X = ℕ} [] c) (λ c is. (is, λ none. omega (arith, none.1))) clouds each;
      long = omega arith;
    }
pick P clouds (l ∷ ls) h each =
    let w = without_one P l clouds h each in
    let p = pick (λ c. P c × (c ≢ l)) w.rest ls w.differ w.each in
    let long : length clouds ≤ length w.rest + 1 = w.long in
    let more : length w.rest ≤ length p.good + length ls = p.long in
    record {
      good = p.good;
      differ = p.differ;
      long = omega (arith, long, more);
      each = each-map (λ c. (P c × (c ≢ l)) × ¬ Contains ls c) (λ c. P c × ¬ Contains (l ∷ ls) c) (λ c is. (is.0.0, out c is.0.1 is.1)) p.good p.each;
    }
  where
    out : (c : ℕ) → c ≢ l → ¬ Contains ls c → ¬ Contains (l ∷ ls) c
    out c apart none (zero, less, same) = apart (sym same)
    out c apart none (suc k, less, same) = none (k, omega (arith, less), same)

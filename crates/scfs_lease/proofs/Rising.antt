-- Leases whose sessions rise stay so, and a lease goes to its place among them.
use Rattle.std.proofs.Common.{◌≡◌, ◌∙◌, ℕ, ◌<◌, ◌≤◌, Bool, true, false, cond, not, eqb, ltb, ◌+◌, List, [], ◌∷◌, ◌++◌, map, length, take, drop, set, get_or, Option, Some, None, refl, sym, ap, subst, inl, inr, arith}
use Rattle.std.specs.Prelude.{filter, find, option_map, All, IfSome, count_by}
use Rattle.std.specs.List.{AllByRecursion, insert}
use Rattle.std.proofs.lemmas.List.Sums.{length-filter}
use Rattle.std.proofs.lemmas.Bool.{lt-ltb, le-ltb, eq-eqb, ne_eqb, cases_order, both_ways}
use Rattle.std.proofs.lemmas.Bool.Decides.{eqb_tells}
use Rattle.std.proofs.lemmas.List.{get_or_default}
use Rattle.std.proofs.lemmas.List.Edits.{map_over_more}
use Rattle.std.proofs.lemmas.List.Elements.{All-cons, All-weaker, All-from_recursion}
use Rattle.scfs_lease.specs.declared.leases.Lease.{Lease}
use Rattle.scfs_lease.specs.Leases.{IsRising, is_due_after, IsDueAfter, first_due, with_lease, without_lease, end_told, with_end, renewal_asked, with_renewal}

-- each session of these leases is above a number
abbrev IsAbove : ℕ → List Lease → Type 0
IsAbove n xs = AllByRecursion (λ (m : Lease). n < m.session) xs

above_filter : (p : Lease → Bool) (n : ℕ) (xs : List Lease) → IsAbove n xs → IsAbove n (filter p xs)
above_filter p n [] a = tt
above_filter p n (l ∷ xs) a =
    elim (p l) as (λ b. IsAbove n (cond b (l ∷ filter p xs) (filter p xs))) [
      | true ↦ (a.0, above_filter p n xs a.1)
      | false ↦ above_filter p n xs a.1
    ]

rising_filter : (p : Lease → Bool) (xs : List Lease) → IsRising xs → IsRising (filter p xs)
rising_filter p [] r = tt
rising_filter p (l ∷ xs) r =
    elim (p l) as (λ b. IsRising (cond b (l ∷ filter p xs) (filter p xs))) [
      | true ↦ (above_filter p l.session xs r.0, rising_filter p xs r.1)
      | false ↦ rising_filter p xs r.1
    ]

above_map : (f : Lease → Lease) → ((l : Lease) → (f l).session ≡ l.session) → (n : ℕ) (xs : List Lease) → IsAbove n xs → IsAbove n (map f xs)
above_map f same n [] a = tt
above_map f same n (l ∷ xs) a = (rw (same l) a.0, above_map f same n xs a.1)

rising_map : (f : Lease → Lease) → ((l : Lease) → (f l).session ≡ l.session) → (xs : List Lease) → IsRising xs → IsRising (map f xs)
rising_map f same [] r = tt
rising_map f same (l ∷ xs) r = (rw (same l) (above_map f same l.session xs r.0), rising_map f same xs r.1)

told_session : (s u : ℕ) (l : Lease) → (end_told s u l).session ≡ l.session
told_session s u l = elim (eqb l.session s) as (λ b. (cond b (record l { until = u; asked = false }) l).session ≡ l.session) [ true ↦ refl | false ↦ refl ]

asked_session : (s : ℕ) (l : Lease) → (renewal_asked s l).session ≡ l.session
asked_session s l = elim (eqb l.session s) as (λ b. (cond b (record l { asked = true }) l).session ≡ l.session) [ true ↦ refl | false ↦ refl ]

pub rising_without : (s : ℕ) (xs : List Lease) → IsRising xs → IsRising (without_lease s xs)
rising_without s xs r = rising_filter (λ (l : Lease). not (eqb l.session s)) xs r

rising_told : (s u : ℕ) (xs : List Lease) → IsRising xs → IsRising (with_end s u xs)
rising_told s u xs r = rising_map (end_told s u) (told_session s u) xs r

rising_asked : (s : ℕ) (xs : List Lease) → IsRising xs → IsRising (with_renewal s xs)
rising_asked s xs r = rising_map (renewal_asked s) (asked_session s) xs r

-- the same through the slice and the vector that the loops write
pub told_keeps : (s u : ℕ) (xs ys zs ws : List Lease) → IsRising xs → ys ≡ xs → zs ≡ with_end s u ys → ws ≡ zs → IsRising ws
told_keeps s u xs ys zs ws r e f g = subst IsRising (sym (g ∙ f ∙ ap (with_end s u) e)) (rising_told s u xs r)

pub asked_keeps : (s : ℕ) (xs ys zs ws : List Lease) → IsRising xs → ys ≡ xs → zs ≡ with_renewal s ys → ws ≡ zs → IsRising ws
asked_keeps s xs ys zs ws r e f g = subst IsRising (sym (g ∙ f ∙ ap (with_renewal s) e)) (rising_asked s xs r)

none_below : (s n : ℕ) (xs : List Lease) → s ≤ n → IsAbove n xs → filter (λ (l : Lease). ltb l.session s) xs ≡ []
none_below s n [] le a = refl
none_below s n (l ∷ xs) le a = rw (le-ltb l.session s (omega arith)) (none_below s n xs le a.1)

all_above : (s n : ℕ) (xs : List Lease) → s ≤ n → IsAbove n xs → filter (λ (l : Lease). ltb s l.session) xs ≡ xs
all_above s n [] le a = refl
all_above s n (l ∷ xs) le a = rw (lt-ltb s l.session (omega arith)) (ap (λ t. l ∷ t) (all_above s n xs le a.1))

none_of : (s n : ℕ) (xs : List Lease) → s ≤ n → IsAbove n xs → without_lease s xs ≡ xs
none_of s n [] le a = refl
none_of s n (l ∷ xs) le a = rw (ne_eqb l.session s (omega arith)) (ap (λ t. l ∷ t) (none_of s n xs le a.1))

-- a lease goes behind those of lower sessions
inserted : (x : Lease) (xs : List Lease) → IsRising xs
    → let ys = without_lease x.session xs in insert ys (length (filter (λ (l : Lease). ltb l.session x.session) ys)) x ≡ with_lease x xs
inserted x [] r = refl
inserted x (l ∷ xs) r =
    elim (cases_order l.session x.session) [
      | inl same ↦ rw (eq-eqb l.session x.session same, le-ltb l.session x.session (omega arith), le-ltb x.session l.session (omega arith)) (inserted x xs r.1)
      | inr (inl less) ↦ rw (ne_eqb l.session x.session (omega arith), lt-ltb l.session x.session less, le-ltb x.session l.session (omega arith))
          (ap (λ t. l ∷ t) (inserted x xs r.1))
      | inr (inr more) ↦ rw (
        ne_eqb l.session x.session (omega arith),
        le-ltb l.session x.session (omega arith),
        lt-ltb x.session l.session more,
        none_of x.session l.session xs (omega arith) r.0,
        none_below x.session l.session xs (omega arith) r.0,
        all_above x.session l.session xs (omega arith) r.0,
      )
    ]

-- what passes a test that no lease of a session passes is the same without that session
kept_same : (p : Lease → Bool) (s : ℕ) → ((l : Lease) → l.session ≡ s → p l ≡ false) → (xs : List Lease) → filter p (without_lease s xs) ≡ filter p xs
kept_same p s none [] = refl
kept_same p s none (l ∷ xs) =
    elim (eqb_tells l.session s) [
      | inl same ↦ rw (same.0, none l same.1) (kept_same p s none xs)
      | inr other ↦ rw (other.0, kept_same p s none xs)
    ]

same_lease : (x : Lease) (xs : List Lease) → with_lease x (without_lease x.session xs) ≡ with_lease x xs
same_lease x xs =
    rw (
      kept_same (λ (l : Lease). ltb l.session x.session) x.session (λ l e. le-ltb l.session x.session (omega arith)) xs,
      kept_same (λ (l : Lease). ltb x.session l.session) x.session (λ l e. le-ltb x.session l.session (omega arith)) xs,
    )

pub placed : (x : Lease) (xs ys : List Lease) (n : ℕ) → IsRising ys → ys ≡ without_lease x.session xs
    → n ≡ count_by (λ (l : Lease). ltb l.session x.session) ys → insert ys n x ≡ with_lease x xs
placed x xs ys n r e f =
    let twice : without_lease x.session ys ≡ ys =
    rw e (kept_same (λ (l : Lease). not (eqb l.session x.session)) x.session (λ l same. rw (eq-eqb l.session x.session same)) xs) in
    rw (f, sym (length-filter (λ (l : Lease). ltb l.session x.session) ys)) ((rw twice at (inserted x ys r)) ∙ ap (with_lease x) e ∙ same_lease x xs)

above_join : (n : ℕ) (xs : List Lease) (x : Lease) (ys : List Lease) → IsAbove n xs → n < x.session → IsAbove n ys → IsAbove n (xs ++ x ∷ ys)
above_join n [] x ys a h b = (h, b)
above_join n (l ∷ xs) x ys a h b = (a.0, above_join n xs x ys a.1 h b)

above_lower : (m n : ℕ) (xs : List Lease) → m < n → IsAbove n xs → IsAbove m xs
above_lower m n [] h a = tt
above_lower m n (l ∷ xs) h a = (omega arith, above_lower m n xs h a.1)

above_insert : (n : ℕ) (x : Lease) (xs : List Lease) → n < x.session → IsAbove n xs → IsAbove n (with_lease x xs)
above_insert n x xs h a = above_join n _ x _ (above_filter (λ (l : Lease). ltb l.session x.session) n xs a) h (above_filter (λ (l : Lease). ltb x.session l.session) n xs a)

rising_insert : (x : Lease) (xs : List Lease) → IsRising xs → IsRising (with_lease x xs)
rising_insert x [] r = (tt, tt)
rising_insert x (l ∷ xs) r =
    elim (cases_order l.session x.session) [
      | inl same ↦ rw (le-ltb l.session x.session (omega arith), le-ltb x.session l.session (omega arith)) (rising_insert x xs r.1)
      | inr (inl less) ↦ rw (lt-ltb l.session x.session less, le-ltb x.session l.session (omega arith)) (above_insert l.session x xs less r.0, rising_insert x xs r.1)
      | inr (inr more) ↦ rw (
        le-ltb l.session x.session (omega arith),
        lt-ltb x.session l.session more,
        none_below x.session l.session xs (omega arith) r.0,
        all_above x.session l.session xs (omega arith) r.0,
      )
          ((more, above_lower x.session l.session xs more r.0), r)
    ]

if_some_weaker : (o : Option ℕ) (P Q : ℕ → Type 0) → ((v : ℕ) → P v → Q v) → IfSome o P → IfSome o Q
if_some_weaker None P Q f h = tt
if_some_weaker (Some v) P Q f h = f v h

pub placed_rises : (x : Lease) (xs ys : List Lease) → IsRising ys → ys ≡ without_lease x.session xs → IsRising (with_lease x xs)
placed_rises x xs ys r e = subst IsRising (ap (with_lease x) e ∙ same_lease x xs) (rising_insert x ys r)

abbrev IsNotBefore : (now lease after found : ℕ) → Lease → Type 0
IsNotBefore now lease after found l = IsDueAfter now lease after l → found ≤ l.session

-- no session that is due is below the first
pub least_due : (now lease after : ℕ) (xs : List Lease) → IsRising xs
    → IfSome (first_due now lease after xs) (λ found. All (λ (l : Lease). IsDueAfter now lease after l → found ≤ l.session) xs)
least_due now lease after [] r = tt
least_due now lease after (l ∷ xs) r =
    let above : Lease → Type 0 = λ (m : Lease). l.session < m.session in
    elim (is_due_after now lease after l) as (λ b. is_due_after now lease after l ≡ b →
    IfSome (option_map (λ (m : Lease). m.session) (cond b (Some l) (find (is_due_after now lease after) xs)))
    (λ found. All (IsNotBefore now lease after found) (l ∷ xs))) [
      | true ↦ λ e. All-cons (IsNotBefore now lease after l.session) l xs (λ _. omega arith)
          (All-weaker above (IsNotBefore now lease after l.session) (λ m below _. omega arith) xs (All-from_recursion above xs r.0))
      | false ↦ λ e. if_some_weaker (first_due now lease after xs) (λ found. All (IsNotBefore now lease after found) xs)
          (λ found. All (IsNotBefore now lease after found) (l ∷ xs))
          (λ found others. All-cons (IsNotBefore now lease after found) l xs (λ due. absurd (both_ways _ e due)) others)
          (least_due now lease after xs r.1)
    ] refl

-- a loop that writes f over each lease, one lease on
pub lease_more : (f : Lease → Lease) (xs ys : List Lease) (i : ℕ) (y d : Lease) → y ≡ f (get_or ys i d) → i < length xs → length ys ≡ length xs
    → ys ≡ map f (take i xs) ++ drop i xs → set ys i y ≡ map f (take (i + 1) xs) ++ drop (i + 1) xs
lease_more f xs ys i y d e below same done =
    let within : i < length ys = omega arith in
    rw e (map_over_more f xs ys i (get_or ys i d) below done (get_or_default ys i d (get_or ys i d) within))

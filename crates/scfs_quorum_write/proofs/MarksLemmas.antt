use Rattle.std.proofs.Common.{◌≡◌, ℕ, ◌+◌, ◌<◌, List, [], ◌∷◌, length, get_or, Bool, true, false, cond, refl, sym, ap, ◌∙◌, suc, zero, add_comm, arith}
use Rattle.std.specs.Prelude.{◌||◌, nat_eq, slice_set, count_by}
use Rattle.std.specs.Ordering.{nat_cmp}
use Rattle.std.specs.Cmp.{unsigned_tied}
use Rattle.std.proofs.lemmas.Cmp.{nat_cmp_total}
use Rattle.std.proofs.lemmas.List.Recursion.{is_count_by}
use Rattle.std.specs.List.{list_any}
use Rattle.std.specs.FinSet as set
use Rattle.std.proofs.lemmas.Bool.Decides.{nat_tests}
use Rattle.scfs_quorum_write.specs.Marks.{Clouds, marked_from, marked}

-- a number below the first is not marked
none_below : (marks : List Bool) (number cloud : ℕ) → cloud < number → list_any (λ y. nat_eq y cloud) (marked_from number marks) ≡ false
none_below [] number cloud lt = refl
none_below (true ∷ marks) number cloud lt =
    let other : nat_eq number cloud ≡ false = grind (arith, nat_tests) in
    ap (λ b. b || list_any (λ y. nat_eq y cloud) (marked_from (number + 1) marks)) other ∙ none_below marks (number + 1) cloud (omega arith)
none_below (false ∷ marks) number cloud lt = none_below marks (number + 1) cloud (omega arith)

-- a number is among the marked ones exactly where its mark is set
any_marked : (marks : List Bool) (number at : ℕ) → list_any (λ y. nat_eq y (number + at)) (marked_from number marks) ≡ get_or marks at false
any_marked [] number at = refl
any_marked (true ∷ marks) number zero =
    let here : nat_eq number (number + 0) ≡ true = grind (arith, nat_tests) in
    ap (λ b. b || list_any (λ y. nat_eq y (number + 0)) (marked_from (number + 1) marks)) here
any_marked (true ∷ marks) number (suc at) =
    let other : nat_eq number (number + suc at) ≡ false = grind (arith, nat_tests) in
    let on : (number + 1) + at ≡ number + suc at = omega arith in
    ap (λ b. b || list_any (λ y. nat_eq y (number + suc at)) (marked_from (number + 1) marks)) other
    ∙ ap (λ n. list_any (λ y. nat_eq y n) (marked_from (number + 1) marks)) (sym on)
    ∙ any_marked marks (number + 1) at
any_marked (false ∷ marks) number zero = none_below marks (number + 1) (number + 0) (omega arith)
any_marked (false ∷ marks) number (suc at) =
    let on : (number + 1) + at ≡ number + suc at = omega arith in
    ap (λ n. list_any (λ y. nat_eq y n) (marked_from (number + 1) marks)) (sym on)
    ∙ any_marked marks (number + 1) at

-- whether a cloud is marked
pub contains-marked : (marks : List Bool) (cloud : ℕ) → set.contains (marked marks) cloud ≡ get_or marks cloud false
contains-marked marks cloud =
    let at : 0 + cloud ≡ cloud = omega arith in
    set.contains-from_list_nat (marked_from 0 marks) cloud
    ∙ ap (λ n. list_any (λ y. nat_eq y n) (marked_from 0 marks)) (sym at)
    ∙ any_marked marks 0 cloud

get_or-set_mark : (marks : List Bool) (at q : ℕ) → at < length marks → get_or (slice_set marks at true) q false ≡ (nat_eq q at || get_or marks q false)
get_or-set_mark [] at q lt = absurd (omega arith)
get_or-set_mark (b ∷ marks) zero zero lt = refl
get_or-set_mark (b ∷ marks) zero (suc q) lt =
    let other : nat_eq (suc q) 0 ≡ false = grind (arith, nat_tests) in
    ap (λ c. c || get_or marks q false) (sym other)
get_or-set_mark (b ∷ marks) (suc at) zero lt =
    let other : nat_eq 0 (suc at) ≡ false = grind (arith, nat_tests) in
    ap (λ c. c || b) (sym other)
get_or-set_mark (b ∷ marks) (suc at) (suc q) lt =
    let same : nat_eq (suc q) (suc at) ≡ nat_eq q at = grind (arith, nat_tests) in
    get_or-set_mark marks at q (omega arith) ∙ ap (λ c. c || get_or marks q false) (sym same)

-- one cloud more is marked
pub marked-set : (marks : List Bool) (cloud : ℕ) → cloud < length marks → marked (slice_set marks cloud true) ≡ set.insert (marked marks) cloud
marked-set marks cloud lt =
    set.same_set nat_cmp_total set.nat_cmp-IsAntisymmetric _ _ (λ q.
    contains-marked (slice_set marks cloud true) q
    ∙ get_or-set_mark marks cloud q lt
    ∙ ap (λ b. nat_eq q cloud || b) (sym (contains-marked marks q))
    ∙ ap (λ b. b || set.contains (marked marks) q) (sym (unsigned_tied q cloud))
    ∙ sym (set.contains-insert nat_cmp_total (marked marks) cloud q))

-- how many marks are set
abbrev marks_set : List Bool → ℕ
marks_set [] = 0
marks_set (true ∷ marks) = 1 + marks_set marks
marks_set (false ∷ marks) = marks_set marks

marks_set-count : (marks : List Bool) → marks_set marks ≡ count_by (λ b. b) marks
marks_set-count = is_count_by marks_set (λ b. b) refl (λ b marks. elim b as (λ b. marks_set (b ∷ marks) ≡ cond b (1 + marks_set marks) (marks_set marks)) [ true ↦ refl | false ↦ refl ])

-- how many are marked from a number on
len-marked_from : (marks : List Bool) (number : ℕ) → set.len (set.from_list {R = nat_cmp} (marked_from number marks)) ≡ marks_set marks
len-marked_from [] number = set.len-empty nat_cmp
len-marked_from (true ∷ marks) number =
    let rest : Clouds = set.from_list (marked_from (number + 1) marks) in
    let absent : set.contains rest number ≡ false = set.contains-from_list_nat (marked_from (number + 1) marks) number ∙ none_below marks (number + 1) number (omega arith) in
    set.len-insert nat_cmp_total rest number
    ∙ ap (λ b. cond b (set.len rest) (set.len rest + 1)) absent
    ∙ ap (λ n. n + 1) (len-marked_from marks (number + 1))
    ∙ add_comm (marks_set marks) 1
len-marked_from (false ∷ marks) number = len-marked_from marks (number + 1)

-- how many clouds are marked
pub len-marked : (marks : List Bool) → set.len (marked marks) ≡ count_by (λ b. b) marks
len-marked marks = len-marked_from marks 0 ∙ marks_set-count marks

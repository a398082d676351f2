use Rattle.std.proofs.Common.{◌≡◌, ◌+◌, ◌∙◌, ap, arith, length, refl}
use Rattle.scfs_tuples.specs.Filed.{Apart}
use Rattle.scfs_tuples.specs.Search.{standing, without_all}
use Rattle.scfs_tuples.proofs.EntriesLemmas.{apart_filter}
use Rattle.scfs_tuples.proofs.TrialLemmas.{all_taken, count_taken, found_at, none_lost}
use Rattle.scfs_tuples.proofs.trial.Trial.take_all.Goals as goal

pub overflow_add-self : goal.overflow_add-self
overflow_add-self g c =
    let xs = standing c.args.self.now.gone c.args.slots.now in
    let apart : Apart xs = apart_filter _ c.args.slots.now c.in_ok-found.ensures.apart in
    let none : length c.in_ok-found.found.items + length (without_all c.in_ok-found.found.items xs) ≡ length xs =
    none_lost c.as_slice.result.now c.as_slice-2.result.now xs _ c.in_ok-found.found.items apart c.in_ok-found.ensures.found refl in
    omega (arith, none, c.requires, c.len.ensures)

pub returns-clause-left : goal.returns-clause-left
returns-clause-left g c =
    let xs = standing c.args.self.now.gone c.args.slots.now in
    all_taken c.args.p.now.wants c.args.self.now.bound xs (standing c.take_slots.new.gone c.args.slots.now) c.in_ok-found.found.items
    (apart_filter _ c.args.slots.now c.in_ok-found.ensures.apart)
    (found_at c.as_slice.result.now c.args.p.now.wants xs c.as_slice-2.result.now c.args.self.now.bound c.in_ok-found.found.items c.in_ok-found.ensures.found c.as_slice.ensures c.as_slice-2.ensures)
    (c.in_ok-take_slots.ensures c.args.slots.now ∙ ap (λ l. without_all l xs) c.as_slice-3.ensures.value)

pub returns-clause-taken : goal.returns-clause-taken
returns-clause-taken g c =
    let xs = standing c.args.self.now.gone c.args.slots.now in
    let same : c.len.result ≡ length c.in_ok-found.found.items = omega (arith, c.len.ensures) in
    ap (λ n. c.args.self.now.taken + n)
    (same ∙ count_taken c.args.p.now.wants c.args.self.now.bound xs c.in_ok-found.found.items
    (found_at c.as_slice.result.now c.args.p.now.wants xs c.as_slice-2.result.now c.args.self.now.bound c.in_ok-found.found.items c.in_ok-found.ensures.found c.as_slice.ensures c.as_slice-2.ensures))

pub returns-clause-fewer : goal.returns-clause-fewer
returns-clause-fewer g c =
    let xs = standing c.args.self.now.gone c.args.slots.now in
    let none : length c.in_ok-found.found.items + length (standing c.take_slots.new.gone c.args.slots.now) ≡ length xs =
    none_lost c.as_slice.result.now c.as_slice-2.result.now xs _ c.in_ok-found.found.items (apart_filter _ c.args.slots.now c.in_ok-found.ensures.apart) c.in_ok-found.ensures.found
    (c.in_ok-take_slots.ensures c.args.slots.now ∙ ap (λ l. without_all l xs) c.as_slice-3.ensures.value) in
    omega (arith, none, c.len.ensures)

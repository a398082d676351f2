use Rattle.std.proofs.Common.{◌≡◌, ℕ, ◌+◌, [], ◌∷◌, ◌++◌, true, false, ap, ◌∙◌, sym, subst, Option, Some}
use Rattle.std.specs.Prelude.{slice_get}
use Rattle.std.specs.BTreeSet.{contains_by}
use Rattle.std.specs.Map.{remove_entry}
use Rattle.std.specs.BTreeMap.{is_at}
use Rattle.std.specs.Ordering.{nat_cmp}
use Rattle.scfs_tuples.specs.Filed.{Apart, Below, Files, IsFiled, SetsEnd, end_cmp, ends_in, has_both, pair_cmp, pair_of, tuple_at, without}
use Rattle.scfs_tuples.specs.Index.{Adds, Removes, slots_at}
use Rattle.scfs_tuples.specs.Near.{has}
use Rattle.scfs_tuples.specs.Order.{field_cmp}
use Rattle.scfs_tuples.specs.declared.shelves.Shelves.{Shelves}
use Rattle.scfs_tuples.specs.declared.types.Field.{Field}
use Rattle.scfs_tuples.specs.declared.types.Tuple.{Tuple}
use Rattle.scfs_tuples.proofs.EndsLemmas.{ends_pushed, ends_removed}
use Rattle.scfs_tuples.proofs.EntriesLemmas.{apart_filter, apart_more, below_filter, below_more, removed}
use Rattle.scfs_tuples.proofs.FiledLemmas.{first_pushed, first_removed, pair_pushed, pair_removed}

-- empty shelves are in order
pub filed_empty : (s : Shelves) → s.tuples.entries ≡ [] → ((k : Field) → slots_at field_cmp s.by_first.slots k ≡ []) →
    ((k : Field × Field) → slots_at pair_cmp s.by_second.slots k ≡ []) → ((k : Field × Field) → slots_at pair_cmp s.by_third.slots k ≡ []) →
    s.by_end.keys ≡ [] → IsFiled s
filed_empty s none first second third ends = record {
  apart = subst Apart (sym none) tt;
  below = subst (Below s.next) (sym none) tt;
  first = subst (Files field_cmp s.by_first.slots (has 0)) (sym none) first;
  second = subst (Files pair_cmp s.by_second.slots (has_both 1)) (sym none) second;
  third = subst (Files pair_cmp s.by_third.slots (has_both 2)) (sym none) third;
  ends = λ u k. ap (λ ks. contains_by (end_cmp (u, k)) (record { keys = ks })) ends ∙ ap (λ es. ends_in u (tuple_at es k)) (sym none);
}

-- shelves are in order after a push that files the tuple everywhere
pub filed_pushed : (old new : Shelves) (t : Tuple) (one : Option Field) (two three : Option (Field × Field)) → IsFiled old →
    one ≡ slice_get t.fields 0 → two ≡ pair_of (slice_get t.fields 0) (slice_get t.fields 1) → three ≡ pair_of (slice_get t.fields 0) (slice_get t.fields 2) →
    Adds field_cmp one old.next old.by_first.slots new.by_first.slots → Adds pair_cmp two old.next old.by_second.slots new.by_second.slots →
    Adds pair_cmp three old.next old.by_third.slots new.by_third.slots → SetsEnd true t.until old.next old.by_end new.by_end →
    new.tuples.entries ≡ old.tuples.entries ++ (old.next, t) ∷ [] → new.next ≡ old.next + 1 → IsFiled new
filed_pushed old new t one two three filed is_one is_two is_three adds_one adds_two adds_three sets is next =
    let es = old.tuples.entries in
    record {
      apart = subst Apart (sym is) (apart_more old.next t es filed.below filed.apart);
      below = subst (λ n. Below n new.tuples.entries) (sym next) (subst (Below (old.next + 1)) (sym is) (below_more old.next t es filed.below));
      first = subst (Files field_cmp new.by_first.slots (has 0)) (sym is)
          (first_pushed es old.next t one old.by_first.slots new.by_first.slots is_one filed.below filed.first adds_one);
      second = subst (Files pair_cmp new.by_second.slots (has_both 1)) (sym is)
          (pair_pushed 1 es old.next t two old.by_second.slots new.by_second.slots is_two filed.below filed.second adds_two);
      third = subst (Files pair_cmp new.by_third.slots (has_both 2)) (sym is)
          (pair_pushed 2 es old.next t three old.by_third.slots new.by_third.slots is_three filed.below filed.third adds_three);
      ends = λ u k. ends_pushed es old.next t old.by_end new.by_end filed.below filed.ends sets u k ∙ ap (λ l. ends_in u (tuple_at l k)) (sym is);
    }

-- shelves are in order after a slot was emptied everywhere
pub filed_removed : (old new : Shelves) (slot : ℕ) (t : Tuple) (one : Option Field) (two three : Option (Field × Field)) → IsFiled old →
    tuple_at old.tuples.entries slot ≡ Some t →
    one ≡ slice_get t.fields 0 → two ≡ pair_of (slice_get t.fields 0) (slice_get t.fields 1) → three ≡ pair_of (slice_get t.fields 0) (slice_get t.fields 2) →
    Removes field_cmp one slot old.by_first.slots new.by_first.slots → Removes pair_cmp two slot old.by_second.slots new.by_second.slots →
    Removes pair_cmp three slot old.by_third.slots new.by_third.slots → SetsEnd false t.until slot old.by_end new.by_end →
    new.tuples.entries ≡ remove_entry (is_at (nat_cmp slot)) old.tuples.entries → new.next ≡ old.next → IsFiled new
filed_removed old new slot t one two three filed found is_one is_two is_three rids_one rids_two rids_three sets was next =
    let es = old.tuples.entries in
    let is : new.tuples.entries ≡ without slot es = was ∙ removed slot es filed.apart in
    record {
      apart = subst Apart (sym is) (apart_filter _ es filed.apart);
      below = subst (λ n. Below n new.tuples.entries) (sym next) (subst (Below old.next) (sym is) (below_filter old.next _ es filed.below));
      first = subst (Files field_cmp new.by_first.slots (has 0)) (sym is)
          (first_removed es slot t one old.by_first.slots new.by_first.slots is_one found filed.apart filed.first rids_one);
      second = subst (Files pair_cmp new.by_second.slots (has_both 1)) (sym is)
          (pair_removed 1 es slot t two old.by_second.slots new.by_second.slots is_two found filed.apart filed.second rids_two);
      third = subst (Files pair_cmp new.by_third.slots (has_both 2)) (sym is)
          (pair_removed 2 es slot t three old.by_third.slots new.by_third.slots is_three found filed.apart filed.third rids_three);
      ends = λ u k. ends_removed es slot t old.by_end new.by_end filed.apart found filed.ends sets u k ∙ ap (λ l. ends_in u (tuple_at l k)) (sym is);
    }

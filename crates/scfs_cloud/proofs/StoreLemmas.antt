-- Stored names are in byte order, and nothing is cut of what a truthful cloud answers.
use Rattle.std.proofs.Common.{◌≡◌, ℕ, ◌-◌, ◌≤◌, List, [], ◌∷◌, length, take, drop, map, Bool, true, false, cond, Option, Some, None, suc, zero, refl, sym, ap, subst, ◌∙◌, arith}
use Rattle.std.specs.Prelude.{nat_eq}
use Rattle.std.specs.List.{All, AllByRecursion, starts_with}
use Rattle.std.specs.List.Sorted.{IsStrictlySortedBy}
use Rattle.std.specs.Map.{keys_of}
use Rattle.std.specs.BTreeMap.{is_at}
use Rattle.std.specs.Ordering.{nat_cmp, is_lt, ordering_reverse, match_ordering}
use Rattle.std.specs.declared.cmp.Ordering.{Ordering}
use Rattle.std.specs.declared.cmp.Ordering.TheVariants.{Less, Equal, Greater}
use Rattle.std.specs.Cmp.Lexicographic.{slice_cmp}
use Rattle.std.proofs.lemmas.Cmp.{nat_list_cmp_total}
use Rattle.std.proofs.lemmas.List.{take_all, take-take}
use Rattle.std.proofs.lemmas.List.Elements.{All-head, All-tail, All-drop, All-filter, All-from_recursion, recursion_from_All}
use Rattle.std.proofs.lemmas.List.Kept.{IsStrictlySortedBy-filter}
use Rattle.std.proofs.lemmas.Map.Views.{All-keys-insert_entry, All-map-remove_entry}
use Rattle.scfs_base.specs.Limits.{names_limit}
use Rattle.scfs_base.specs.declared.cloud.CloudRequest.{CloudRequest}
use Rattle.scfs_base.specs.declared.cloud.CloudRequest.TheVariants as requests
use Rattle.scfs_base.specs.declared.cloud.CloudAnswer.{CloudAnswer}
use Rattle.scfs_base.specs.declared.cloud.CloudAnswer.TheVariants as answers
use Rattle.scfs_net.specs.Store.{Objects, stored, with_object, without_object, names_with, last_of}
use Rattle.scfs_net.specs.Queues.{answer_of, objects_with, objects_after, first_bytes}
use Rattle.scfs_cloud.specs.Cutting.{placed, in_order, cut_names, cut_answer, suits, name_limit, HasShortNames, PutsShortName}
use Rattle.scfs_cloud.specs.InMemory.{AreOrdered}
use Rattle.scfs_cloud.proofs.CuttingLemmas.{NoneBelow, not_above, placed-first, last_of-all, length-last_of}

abbrev name_cmp : List ℕ → List ℕ → Ordering
name_cmp = slice_cmp nat_cmp

below_all : (x y : List ℕ) (names : List (List ℕ)) → name_cmp x y ≡ Less
    → AllByRecursion (λ name. name_cmp y name ≡ Less) names → AllByRecursion (λ name. name_cmp x name ≡ Less) names
below_all x y [] e all = tt
below_all x y (name ∷ names) e all = (nat_list_cmp_total.trans x y name e all.0, below_all x y names e all.1)

-- a name that is put in keeps the names in byte order
ordered_with : (objects : Objects) (name body : List ℕ) → AreOrdered objects → AreOrdered (with_object objects name body)
unfolding IsStrictlySortedBy
ordered_with [] name body all = (tt, tt)
ordered_with (e ∷ es) name body all = by (name_cmp name e.0) refl (ordered_with es name body all.1)
  where
    by : (r : Ordering) → name_cmp name e.0 ≡ r → AreOrdered (with_object es name body)
        → AreOrdered (match_ordering r ((name, body) ∷ e ∷ es) ((e.0, body) ∷ es) (e ∷ with_object es name body))
    by Less is later = ((is, below_all name e.0 (keys_of es) is all.0), all)
    by Equal is later = all
    by Greater is later = (
      recursion_from_All (λ key. name_cmp e.0 key ≡ Less) (keys_of (with_object es name body))
          (All-keys-insert_entry name_cmp name body (λ key. name_cmp e.0 key ≡ Less) es
          (All-from_recursion (λ key. name_cmp e.0 key ≡ Less) (keys_of es) all.0)
          (nat_list_cmp_total.antisymm e.0 name ∙ ap ordering_reverse is)),
      later,
    )

-- and so does one that is removed
ordered_without : (objects : Objects) (name : List ℕ) → AreOrdered objects → AreOrdered (without_object objects name)
unfolding IsStrictlySortedBy
ordered_without [] name all = tt
ordered_without (e ∷ es) name all = by (is_at (name_cmp name) e.0) (ordered_without es name all.1)
  where
    by : (here : Bool) → AreOrdered (without_object es name) → AreOrdered (cond here es (e ∷ without_object es name))
    by true later = all.1
    by false later = (
      recursion_from_All (λ key. name_cmp e.0 key ≡ Less) (keys_of (without_object es name))
          (All-map-remove_entry (is_at (name_cmp name)) (λ entry. entry.0) (λ key. name_cmp e.0 key ≡ Less) es
          (All-from_recursion (λ key. name_cmp e.0 key ≡ Less) (keys_of es) all.0)),
      later,
    )

pub ordered-objects_with : (objects : Objects) (request : CloudRequest) → AreOrdered objects → AreOrdered (objects_with objects request)
ordered-objects_with objects (requests.Put name body) all = ordered_with objects name body all
ordered-objects_with objects (requests.Get name limit) all = all
ordered-objects_with objects (requests.Delete name) all = ordered_without objects name all
ordered-objects_with objects (requests.List prefix) all = all

settled_found : (objects : Objects) (request : CloudRequest) (limit : ℕ) (body : Option (List ℕ))
    → objects_after objects request (first_bytes limit body) ≡ objects
settled_found objects request limit None = refl
settled_found objects request limit (Some body) = refl

-- settling the answer of serving is serving
pub settled_served : (objects : Objects) (request : CloudRequest)
    → objects_after objects request (answer_of objects request) ≡ objects_with objects request
settled_served objects (requests.Put name body) = refl
settled_served objects (requests.Get name limit) = settled_found objects (requests.Get name limit) limit (stored objects name)
settled_served objects (requests.Delete name) = refl
settled_served objects (requests.List prefix) = refl

abbrev IsShort : List ℕ → Type 0
IsShort name = length name ≤ name_limit

-- nothing is cut of short names
uncut : (names : List (List ℕ)) → All IsShort names → map (take name_limit) names ≡ names
uncut [] all = refl
uncut (name ∷ names) all =
    ap (λ word. word ∷ map (take name_limit) names) (take_all name_limit name (All-head IsShort name names all))
    ∙ ap (λ words. name ∷ words) (uncut names (All-tail IsShort name names all))

none_below : (first : List ℕ) (names : List (List ℕ)) → AllByRecursion (λ name. name_cmp first name ≡ Less) names → NoneBelow first names
none_below first [] all = tt
none_below first (name ∷ names) all = (not_above first name (ap is_lt all.0), none_below first names all.1)

-- names in byte order stay where they are
in_order-same : (names : List (List ℕ)) → IsStrictlySortedBy name_cmp names → in_order names ≡ names
unfolding IsStrictlySortedBy
in_order-same [] all = refl
in_order-same (first ∷ names) all = ap (placed first) (in_order-same names all.1) ∙ placed-first first names (none_below first names all.0)

sorted-drop : (count : ℕ) (names : List (List ℕ)) → IsStrictlySortedBy name_cmp names → IsStrictlySortedBy name_cmp (drop count names)
unfolding IsStrictlySortedBy
sorted-drop zero names all = all
sorted-drop (suc count) [] all = all
sorted-drop (suc count) (first ∷ names) all = sorted-drop count names all.1

-- few short names in byte order are kept as they are
cut_names-same : (names : List (List ℕ)) → All IsShort names → IsStrictlySortedBy name_cmp names
    → length names ≤ names_limit → cut_names names ≡ names
cut_names-same names short sorted few =
    ap (λ words. last_of names_limit (in_order words)) (uncut names short)
    ∙ ap (last_of names_limit) (in_order-same names sorted)
    ∙ last_of-all names_limit names few

listed_whole : (objects : Objects) (prefix : List ℕ) → AreOrdered objects → HasShortNames objects
    → cut_names (last_of names_limit (names_with objects prefix)) ≡ last_of names_limit (names_with objects prefix)
listed_whole objects prefix ordered short =
    let begins : List ℕ → Bool = λ name. starts_with nat_eq name prefix in
    let names : List (List ℕ) = names_with objects prefix in
    let spare : ℕ = length names - names_limit in
    cut_names-same (last_of names_limit names)
    (All-drop IsShort spare names (All-filter begins IsShort (keys_of objects) short))
    (sorted-drop spare names (IsStrictlySortedBy-filter name_cmp begins (keys_of objects) ordered))
    (length-last_of names_limit names)

found_whole : (name : List ℕ) (limit : ℕ) (body : Option (List ℕ))
    → cut_answer (requests.Get name limit) (first_bytes limit body) ≡ first_bytes limit body
found_whole name limit None = refl
found_whole name limit (Some body) = ap answers.Bytes (take-take limit limit body (omega arith))

-- nothing is cut of what serving answers, where no stored name is long
pub served_whole : (objects : Objects) (request : CloudRequest) → AreOrdered objects → HasShortNames objects
    → cut_answer request (answer_of objects request) ≡ answer_of objects request
served_whole objects (requests.Put name body) ordered short = refl
served_whole objects (requests.Get name limit) ordered short = found_whole name limit (stored objects name)
served_whole objects (requests.Delete name) ordered short = refl
served_whole objects (requests.List prefix) ordered short = ap answers.Names (listed_whole objects prefix ordered short)

found_suits : (name : List ℕ) (limit : ℕ) (body : Option (List ℕ)) → suits (requests.Get name limit) (first_bytes limit body) ≡ true
found_suits name limit None = refl
found_suits name limit (Some body) = refl

-- what serving answers suits the request
pub served_suits : (objects : Objects) (request : CloudRequest) → suits request (answer_of objects request) ≡ true
served_suits objects (requests.Put name body) = refl
served_suits objects (requests.Get name limit) = found_suits name limit (stored objects name)
served_suits objects (requests.Delete name) = refl
served_suits objects (requests.List prefix) = refl

-- objects that were settled with the answer of serving
pub ordered_settled : (objects after : Objects) (request copied : CloudRequest) (answer : CloudAnswer) → AreOrdered objects
    → after ≡ objects_after objects copied answer → copied ≡ request → answer ≡ answer_of objects request → AreOrdered after
ordered_settled objects after request copied answer ordered is same serves =
    let left : after ≡ objects_with objects request =
    is ∙ ap (λ one. objects_after objects one answer) same ∙ ap (objects_after objects request) serves ∙ settled_served objects request in
    subst AreOrdered (sym left) (ordered-objects_with objects request ordered)

-- an answer that is that of serving
pub whole_served : (objects : Objects) (request : CloudRequest) (answer : CloudAnswer) → AreOrdered objects
    → answer ≡ answer_of objects request → HasShortNames objects → cut_answer request answer ≡ answer
whole_served objects request answer ordered serves short =
    ap (cut_answer request) serves ∙ served_whole objects request ordered short ∙ sym serves

-- serving leaves short names short
pub short_served : (objects : Objects) (request : CloudRequest) → HasShortNames objects → PutsShortName request
    → HasShortNames (objects_with objects request)
short_served objects (requests.Put name body) short puts = All-keys-insert_entry name_cmp name body IsShort objects short puts
short_served objects (requests.Get name limit) short puts = short
short_served objects (requests.Delete name) short puts =
    All-map-remove_entry (is_at (name_cmp name)) (λ entry. entry.0) IsShort objects short
short_served objects (requests.List prefix) short puts = short

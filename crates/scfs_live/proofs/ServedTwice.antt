-- A request that is served twice.
use Rattle.std.proofs.Common.{◌≡◌, ℕ, List, [], ◌∷◌, cond, refl, ap, ◌∙◌}
use Rattle.std.specs.List.{AllByRecursion}
use Rattle.std.specs.List.Sorted.{IsStrictlySortedBy}
use Rattle.std.specs.Map.{keys_of}
use Rattle.std.specs.Ordering.{nat_cmp, is_eq, match_ordering, ordering_reverse}
use Rattle.std.specs.declared.cmp.Ordering.{Ordering}
use Rattle.std.specs.declared.cmp.Ordering.TheVariants.{Less, Equal, Greater}
use Rattle.std.specs.Cmp.Lexicographic.{slice_cmp}
use Rattle.std.proofs.lemmas.Cmp.{nat_list_cmp_total}
use Rattle.scfs_base.specs.declared.cloud.CloudAnswer.{CloudAnswer}
use Rattle.scfs_base.specs.declared.cloud.CloudAnswer.TheVariants as answers
use Rattle.scfs_base.specs.declared.cloud.CloudRequest.{CloudRequest}
use Rattle.scfs_base.specs.declared.cloud.CloudRequest.TheVariants as requests
use Rattle.scfs_net.specs.Store.{Objects, with_object, without_object}
use Rattle.scfs_net.specs.Queues.{objects_after, objects_with}
use Rattle.scfs_cloud.specs.InMemory.{AreOrdered}
use Rattle.scfs_live.specs.Asked.{Suits}

abbrev name_cmp : List ℕ → List ℕ → Ordering
name_cmp = slice_cmp nat_cmp

self_equal : (r : Ordering) → r ≡ ordering_reverse r → r ≡ Equal
self_equal Less is = cc
self_equal Equal is = refl
self_equal Greater is = cc

same_name : (name : List ℕ) → name_cmp name name ≡ Equal
same_name name = self_equal (name_cmp name name) (nat_list_cmp_total.antisymm name name)

put_twice : (objects : Objects) (name body : List ℕ) → with_object (with_object objects name body) name body ≡ with_object objects name body
put_twice [] name body =
    ap (λ r. match_ordering r ((name, body) ∷ (name, body) ∷ []) ((name, body) ∷ []) ((name, body) ∷ (name, body) ∷ [])) (same_name name)
put_twice (e ∷ es) name body = by (name_cmp name e.0) refl (put_twice es name body)
  where
    by : (r : Ordering) → name_cmp name e.0 ≡ r → with_object (with_object es name body) name body ≡ with_object es name body
        → with_object (match_ordering r ((name, body) ∷ e ∷ es) ((e.0, body) ∷ es) (e ∷ with_object es name body)) name body
        ≡ match_ordering r ((name, body) ∷ e ∷ es) ((e.0, body) ∷ es) (e ∷ with_object es name body)
    by Less is later =
        ap (λ r. match_ordering r ((name, body) ∷ (name, body) ∷ e ∷ es) ((name, body) ∷ e ∷ es) ((name, body) ∷ with_object (e ∷ es) name body)) (same_name name)
    by Equal is later =
        ap (λ r. match_ordering r ((name, body) ∷ (e.0, body) ∷ es) ((e.0, body) ∷ es) ((e.0, body) ∷ with_object es name body)) is
    by Greater is later =
        ap (λ r. match_ordering r ((name, body) ∷ e ∷ with_object es name body) ((e.0, body) ∷ with_object es name body)
        (e ∷ with_object (with_object es name body) name body)) is
        ∙ ap (λ (l : Objects). e ∷ l) later

-- nothing is deleted behind a key that was deleted
absent : (objects : Objects) (name key : List ℕ) → name_cmp name key ≡ Equal → AllByRecursion (λ k. name_cmp key k ≡ Less) (keys_of objects)
    → without_object objects name ≡ objects
absent [] name key is all = refl
absent (e ∷ es) name key is all =
    ap (λ r. cond (is_eq r) es (e ∷ without_object es name)) (nat_list_cmp_total.congr name key e.0 is ∙ all.0)
    ∙ ap (λ (l : Objects). e ∷ l) (absent es name key is all.1)

delete_twice : (objects : Objects) (name : List ℕ) → AreOrdered objects → without_object (without_object objects name) name ≡ without_object objects name
unfolding IsStrictlySortedBy
delete_twice [] name ordered = refl
delete_twice (e ∷ es) name ordered = by (name_cmp name e.0) refl (delete_twice es name ordered.1)
  where
    by : (r : Ordering) → name_cmp name e.0 ≡ r → without_object (without_object es name) name ≡ without_object es name
        → without_object (cond (is_eq r) es (e ∷ without_object es name)) name ≡ cond (is_eq r) es (e ∷ without_object es name)
    by Less is later =
        ap (λ r. cond (is_eq r) (without_object es name) (e ∷ without_object (without_object es name) name)) is ∙ ap (λ (l : Objects). e ∷ l) later
    by Equal is later = absent es name e.0 is ordered.0
    by Greater is later =
        ap (λ r. cond (is_eq r) (without_object es name) (e ∷ without_object (without_object es name) name)) is ∙ ap (λ (l : Objects). e ∷ l) later

-- serving a request twice is serving it once
pub served_twice : (objects : Objects) (request : CloudRequest) → AreOrdered objects
    → objects_with (objects_with objects request) request ≡ objects_with objects request
served_twice objects (requests.Put name body) ordered = put_twice objects name body
served_twice objects (requests.Get name limit) ordered = refl
served_twice objects (requests.Delete name) ordered = delete_twice objects name ordered
served_twice objects (requests.List prefix) ordered = refl

-- and its second answer changes the objects as the first would
pub second_leaves : (objects : Objects) (request : CloudRequest) (answer : CloudAnswer) → AreOrdered objects → (answer ≡ answers.Fail → ⊥)
    → Suits (objects_with objects request) request answer
    → objects_after (objects_with objects request) request answer ≡ objects_after objects request answer
second_leaves objects request answers.Fail ordered done suits = absurd (done refl)
second_leaves objects (requests.Put name body) answers.Ack ordered done suits = put_twice objects name body
second_leaves objects (requests.Get name limit) answers.Ack ordered done suits = refl
second_leaves objects (requests.Delete name) answers.Ack ordered done suits = delete_twice objects name ordered
second_leaves objects (requests.List prefix) answers.Ack ordered done suits = refl
second_leaves objects (requests.Put name body) answers.Absent ordered done suits = absurd suits.0
second_leaves objects (requests.Get name limit) answers.Absent ordered done suits = refl
second_leaves objects (requests.Delete name) answers.Absent ordered done suits = absurd suits.0
second_leaves objects (requests.List prefix) answers.Absent ordered done suits = refl
second_leaves objects (requests.Put name body) (answers.Bytes bytes) ordered done suits = absurd suits.0
second_leaves objects (requests.Get name limit) (answers.Bytes bytes) ordered done suits = refl
second_leaves objects (requests.Delete name) (answers.Bytes bytes) ordered done suits = absurd suits.0
second_leaves objects (requests.List prefix) (answers.Bytes bytes) ordered done suits = refl
second_leaves objects (requests.Put name body) (answers.Names names) ordered done suits = absurd suits.0
second_leaves objects (requests.Get name limit) (answers.Names names) ordered done suits = refl
second_leaves objects (requests.Delete name) (answers.Names names) ordered done suits = absurd suits.0
second_leaves objects (requests.List prefix) (answers.Names names) ordered done suits = refl

-- and is one that the first could be
pub second_suits : (objects : Objects) (request : CloudRequest) (answer : CloudAnswer) → Suits (objects_with objects request) request answer
    → Suits objects request answer
second_suits objects request answers.Fail suits = tt
second_suits objects (requests.Put name body) answers.Ack suits = (tt, λ short. refl)
second_suits objects (requests.Get name limit) answers.Ack suits = suits
second_suits objects (requests.Delete name) answers.Ack suits = (tt, λ short. refl)
second_suits objects (requests.List prefix) answers.Ack suits = suits
second_suits objects (requests.Put name body) answers.Absent suits = absurd suits.0
second_suits objects (requests.Get name limit) answers.Absent suits = suits
second_suits objects (requests.Delete name) answers.Absent suits = absurd suits.0
second_suits objects (requests.List prefix) answers.Absent suits = suits
second_suits objects (requests.Put name body) (answers.Bytes bytes) suits = absurd suits.0
second_suits objects (requests.Get name limit) (answers.Bytes bytes) suits = suits
second_suits objects (requests.Delete name) (answers.Bytes bytes) suits = absurd suits.0
second_suits objects (requests.List prefix) (answers.Bytes bytes) suits = suits
second_suits objects (requests.Put name body) (answers.Names names) suits = absurd suits.0
second_suits objects (requests.Get name limit) (answers.Names names) suits = suits
second_suits objects (requests.Delete name) (answers.Names names) suits = absurd suits.0
second_suits objects (requests.List prefix) (answers.Names names) suits = suits
